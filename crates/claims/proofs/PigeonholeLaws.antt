-- More things than places: two are in the same place. Over variables: nothing is counted out.
use Rattle.standard.proofs.Prelude.{◌≡◌, refl, sym, ap, ◌∙◌, Bool, true, false, ◌⊎◌, inl, inr, List, ℕ, zero, suc, ◌-◌, ◌≤◌, ◌<◌, arith, eqb, ltb}
use Rattle.standard.proofs.Prelude.{eq-or-lt_of_le, le_of_suc-le-suc, eqb-true, eqb-false, ltb-true, ltb-false}
use Rattle.standard.specs.Bytes.{choose}
use Rattle.claims.specs.Entries.{Count}

-- one below n at which f is x, or none
find : (f : ℕ → ℕ) (x n : ℕ) → ((i : ℕ) × (i < n) × (f i ≡ x)) ⊎ ((i : ℕ) → i < n → f i ≡ x → ⊥)
find f x zero = inr (λ i h e. absurd (omega arith))
find f x (suc n) = go (eqb (f n) x) refl (find f x n)
  where
    go : (t : Bool) → eqb (f n) x ≡ t → ((i : ℕ) × (i < n) × (f i ≡ x)) ⊎ ((i : ℕ) → i < n → f i ≡ x → ⊥)
        → ((i : ℕ) × (i < suc n) × (f i ≡ x)) ⊎ ((i : ℕ) → i < suc n → f i ≡ x → ⊥)
    go true e r = inl (n, omega arith, eqb-true (f n) x e)
    go false e (inl r) = inl (r.0, omega (arith, r.1), r.2)
    go false e (inr none) = inr (λ i h z. last i z (eq-or-lt_of_le (le_of_suc-le-suc h)))
      where
        last : (i : ℕ) → f i ≡ x → (i ≡ n) ⊎ (i < n) → ⊥
        last i z (inl q) = eqb-false (f n) x e (ap f (sym q) ∙ z)
        last i z (inr l) = none i l z

-- a place left out, and the others moved together
abbrev closed : ℕ → ℕ → ℕ
closed x y = choose (ltb y x) y (y - 1)

closed_below : (x y m : ℕ) → x < suc m → y < suc m → (y ≡ x → ⊥) → closed x y < m
closed_below x y m hx hy other = go (ltb y x) refl
  where
    go : (t : Bool) → ltb y x ≡ t → choose t y (y - 1) < m
    go true e = omega (arith, ltb-true y x e)
    go false e = omega (arith, ltb-false y x e, other)

closed_apart : (x y z : ℕ) → (y ≡ x → ⊥) → (z ≡ x → ⊥) → closed x y ≡ closed x z → y ≡ z
closed_apart x y z hy hz = go (ltb y x) refl (ltb z x) refl
  where
    go : (s : Bool) → ltb y x ≡ s → (t : Bool) → ltb z x ≡ t → choose s y (y - 1) ≡ choose t z (z - 1) → y ≡ z
    go true es true et e = e
    go true es false et e = absurd (omega (arith, ltb-true y x es, ltb-false z x et, hz, e))
    go false es true et e = absurd (omega (arith, ltb-false y x es, ltb-true z x et, hy, e))
    go false es false et e = omega (arith, ltb-false y x es, ltb-false z x et, hy, hz, e)

abbrev Twice : (m : ℕ) (f : ℕ → ℕ) → Type 0
Twice m f = (i : ℕ) × (j : ℕ) × (i < j) × (j ≤ m) × (f i ≡ f j)

-- m + 1 numbers in m places
pigeonhole : (m : ℕ) (f : ℕ → ℕ) → ((i : ℕ) → i ≤ m → f i < m) → Twice m f
pigeonhole zero f h = absurd (omega (arith, h 0 (omega arith)))
pigeonhole (suc m) f h = go (find f (f (suc m)) (suc m)) (pigeonhole m (λ i. closed (f (suc m)) (f i)))
  where
    go : ((i : ℕ) × (i < suc m) × (f i ≡ f (suc m))) ⊎ ((i : ℕ) → i < suc m → f i ≡ f (suc m) → ⊥)
        → (((i : ℕ) → i ≤ m → closed (f (suc m)) (f i) < m) → Twice m (λ i. closed (f (suc m)) (f i))) → Twice (suc m) f
    go (inl r) ih = (r.0, suc m, r.1, omega arith, r.2)
    go (inr none) ih =
        let t = ih (λ i l. closed_below (f (suc m)) (f i) m (h (suc m) (omega arith)) (h i (omega arith)) (none i (omega arith))) in
        let i = t.0 in
        let j = t.1 in
        let same = closed_apart (f (suc m)) (f i) (f j) (none i (omega (arith, t.2, t.3))) (none j (omega (arith, t.3))) t.4 in
        (i, j, t.2, omega (arith, t.3), same)

-- more strings that have P than strings that have Q
pub two_alike : {n m : ℕ} {P Q : List ℕ → Type 0} → Count n P → Count m Q → m < n → (f : List ℕ → List ℕ) → ((x : List ℕ) → P x → Q (f x))
    → (x : List ℕ) × (y : List ℕ) × P x × P y × (x ≡ y → ⊥) × (f x ≡ f y)
two_alike {n} {m} c e less f to =
    let has : (i : ℕ) → i ≤ m → i < n = λ i l. omega arith in
    let t = pigeonhole m (λ i. e.place (f (c.nth i))) (λ i l. e.below (f (c.nth i)) (to (c.nth i) (c.has i (has i l)))) in
    let i = t.0 in
    let j = t.1 in
    let li : i < n = has i (omega (arith, t.2, t.3)) in
    let lj : j < n = has j t.3 in
    let x = c.nth i in
    let y = c.nth j in
    let px = c.has i li in
    let py = c.has j lj in (
      x,
      y,
      px,
      py,
      λ z. omega (arith, sym (c.back i li) ∙ ap c.place z ∙ c.back j lj, t.2),
      sym (e.forth (f x) (to x px)) ∙ ap e.nth t.4 ∙ e.forth (f y) (to y py),
    )
