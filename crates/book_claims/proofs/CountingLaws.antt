-- Counting the indexes that pass a test; maps that take no two of them to one.
use Rattle.standard.proofs.Prelude.{◌≡◌, refl, sym, ap, ap₂, ◌∙◌, Bool, true, false, not, ◌&&◌, true≢false, ℕ, zero, suc, ◌+◌, ◌-◌, ◌≤◌, ◌<◌}
use Rattle.standard.proofs.Prelude.{zero-le, add-zero, add-suc, add-one, arith, eqb, ltb, eqb-true, eqb-false, eq-eqb, ne_eqb, ltb-true, ltb-false, lt-ltb}
use native.Mathlib.Nat.{add_assoc}
use Rattle.standard.specs.Bytes.{choose}
use Rattle.standard.specs.ShufflesFacts.{Reordering}
use Rattle.book_claims.specs.Marking.{count}

-- ---- how many

pub count_hit : (n : ℕ) (p : ℕ → Bool) → p n ≡ true → count (suc n) p ≡ suc (count n p)
count_hit n p e = rw e (add-one (count n p))

pub count_miss : (n : ℕ) (p : ℕ → Bool) → p n ≡ false → count (suc n) p ≡ count n p
count_miss n p e = rw e (add-zero (count n p))

pub count_same : (n : ℕ) (p q : ℕ → Bool) → ((i : ℕ) → i < n → p i ≡ q i) → count n p ≡ count n q
count_same zero p q e = refl
count_same (suc n) p q e = ap₂ ◌+◌ (count_same n p q (λ i h. e i (omega arith))) (ap (λ (t : Bool). choose t 1 0) (e n (omega arith)))

count_add : (m n : ℕ) (p : ℕ → Bool) → count (m + n) p ≡ count m p + count n (λ j. p (m + j))
count_add m zero p = rw (add-zero m) (sym (add-zero (count m p)))
count_add m (suc n) p =
    rw add-suc
    (ap (λ (k : ℕ). k + choose (p (m + n)) 1 0) (count_add m n p) ∙ add_assoc (count m p) (count n (λ j. p (m + j))) (choose (p (m + n)) 1 0))

pub count_all : (n : ℕ) → count n (λ i. true) ≡ n
count_all zero = refl
count_all (suc n) = count_hit n (λ i. true) refl ∙ ap suc (count_all n)

-- some index passes q and not p, if more pass q
pub count_missing : (n : ℕ) (p q : ℕ → Bool) → count n p < count n q → (i : ℕ) × (i < n) × (p i ≡ false) × (q i ≡ true)
count_missing zero p q h = absurd (omega (arith, h))
count_missing (suc n) p q h = go (p n) refl (q n) refl (count_missing n p q)
  where
    Missed : ℕ → Type 0
    Missed m = (i : ℕ) × (i < m) × (p i ≡ false) × (q i ≡ true)

    up : Missed n → Missed (suc n)
    up s = (s.0, omega (arith, s.1), s.2, s.3)

    go : (s : Bool) → p n ≡ s → (t : Bool) → q n ≡ t → (count n p < count n q → Missed n) → Missed (suc n)
    go false a true b ih = (n, omega arith, a, b)
    go true a true b ih = up (ih (omega (arith, h, count_hit n p a, count_hit n q b)))
    go true a false b ih = up (ih (omega (arith, h, count_hit n p a, count_miss n q b)))
    go false a false b ih = up (ih (omega (arith, h, count_miss n p a, count_miss n q b)))

-- ---- how many before an index

module _ (p : ℕ → Bool) where
  count_grows : (i n : ℕ) → i ≤ n → count i p ≤ count n p
  count_grows i n h =
      let s : i + (n - i) ≡ n = omega (arith, h) in
      let a : count n p ≡ count i p + count (n - i) (λ j. p (i + j)) = ap (λ (k : ℕ). count k p) (sym s) ∙ count_add i (n - i) p in
      omega (arith, a)

  pub count_before : (i n : ℕ) → i < n → p i ≡ true → count i p < count n p
  count_before i n h e = omega (arith, count_hit i p e, count_grows (suc i) n h)

  -- only one that passes has so many before it
  pub count_one : (i j : ℕ) → p i ≡ true → p j ≡ true → count i p ≡ count j p → i ≡ j
  count_one i j hi hj e = go (ltb i j) refl (ltb j i) refl
    where
      go : (s : Bool) → ltb i j ≡ s → (t : Bool) → ltb j i ≡ t → i ≡ j
      go true a t b = absurd (omega (arith, e, count_before i j (ltb-true i j a) hi))
      go false a true b = absurd (omega (arith, e, count_before j i (ltb-true j i b) hj))
      go false a false b = omega (arith, ltb-false i j a, ltb-false j i b)

  -- and there is one, for each number below the count
  abbrev pub Reached : ℕ → ℕ → Type 0
  Reached n k = (i : ℕ) × (i < n) × (p i ≡ true) × (count i p ≡ k)

  pub count_reaches : (n k : ℕ) → k < count n p → Reached n k
  count_reaches zero k h = absurd (omega (arith, h))
  count_reaches (suc n) k h = go (p n) refl (ltb k (count n p)) refl (count_reaches n k)
    where
      go : (t : Bool) → p n ≡ t → (s : Bool) → ltb k (count n p) ≡ s → (k < count n p → Reached n k) → Reached (suc n) k
      go t e true l ih = let r = ih (ltb-true k (count n p) l) in (r.0, omega (arith, r.1), r.2, r.3)
      go true e false l ih = (n, omega arith, e, omega (arith, h, count_hit n p e, ltb-false k (count n p) l))
      go false e false l ih = absurd (omega (arith, h, count_miss n p e, ltb-false k (count n p) l))

-- ---- which: the last below n that passes

abbrev pub find : ℕ → (ℕ → Bool) → ℕ
find zero p = 0
find (suc n) p = choose (p n) n (find n p)

pub find_some : (n : ℕ) (p : ℕ → Bool) (i : ℕ) → i < n → p i ≡ true → (find n p < n) × (p (find n p) ≡ true)
find_some zero p i h e = absurd (omega (arith, h))
find_some (suc n) p i h e = go (p n) refl (find_some n p i)
  where
    at : (t : Bool) → p n ≡ t → find (suc n) p ≡ choose t n (find n p)
    at t d = ap (λ (s : Bool). choose s n (find n p)) d

    go : (t : Bool) → p n ≡ t → (i < n → p i ≡ true → (find n p < n) × (p (find n p) ≡ true)) → (find (suc n) p < suc n) × (p (find (suc n) p) ≡ true)
    go true d ih = (rw (at true d) (omega arith), ap p (at true d) ∙ d)
    go false d ih =
        let other : i ≡ n → ⊥ = λ s. true≢false (sym e ∙ ap p s ∙ d) in
        let l : i < n = below (eqb i n) refl other in
        let r = ih l e in
        (rw (at false d) (omega (arith, r.0)), ap p (at false d) ∙ r.1)
      where
        below : (t : Bool) → eqb i n ≡ t → (i ≡ n → ⊥) → i < n
        below true s other = absurd (other (eqb-true i n s))
        below false s other = omega (arith, h, eqb-false i n s)

-- ---- one to one

-- σ takes those of 0 .. n - 1 that pass p to those of 0 .. m - 1 that pass q, and no two to one
pub record OneToOne (n : ℕ) (p : ℕ → Bool) (m : ℕ) (q : ℕ → Bool) (σ : ℕ → ℕ) : Type 0 where
  pub within : (i : ℕ) → i < n → p i ≡ true → σ i < m
  pub passes : (i : ℕ) → i < n → p i ≡ true → q (σ i) ≡ true
  pub once : (i j : ℕ) → i < n → j < n → p i ≡ true → p j ≡ true → σ i ≡ σ j → i ≡ j

-- those that pass, but for j
abbrev without : ℕ → (ℕ → Bool) → ℕ → Bool
without j p i = p i && not (eqb i j)

without_other : (j : ℕ) (p : ℕ → Bool) (i : ℕ) → (i ≡ j → ⊥) → without j p i ≡ p i
without_other j p i h = rw (ne_eqb i j h) (go (p i))
  where
    go : (t : Bool) → t && true ≡ t
    go true = refl
    go false = refl

without_self : (j : ℕ) (p : ℕ → Bool) → without j p j ≡ false
without_self j p = rw (eq-eqb j j refl) (go (p j))
  where
    go : (t : Bool) → t && false ≡ false
    go true = refl
    go false = refl

count_without : (j : ℕ) (p : ℕ → Bool) (n : ℕ) → j < n → p j ≡ true → count n p ≡ suc (count n (without j p))
count_without j p zero h e = absurd (omega (arith, h))
count_without j p (suc n) h e = go (ltb j n) refl (count_without j p n)
  where
    go : (t : Bool) → ltb j n ≡ t → (j < n → p j ≡ true → count n p ≡ suc (count n (without j p))) → count (suc n) p ≡ suc (count (suc n) (without j p))
    go true l ih =
        let k = ltb-true j n l in
        let s = without_other j p n (λ d. absurd (omega (arith, d, k))) in
        let c = ih k e in
        rw s (omega (arith, c))
    go false l ih =
        let d : j ≡ n = omega (arith, h, ltb-false j n l) in
        let a = count_hit n p (ap p (sym d) ∙ e) in
        let b = count_miss n (without j p) (ap (without j p) (sym d) ∙ without_self j p) in
        let c = count_same n (without j p) p (λ i k. without_other j p i (λ s. absurd (omega (arith, s, k, d)))) in
        omega (arith, a, b, c)

one_to_one_first : (n : ℕ) (p : ℕ → Bool) (m : ℕ) (q : ℕ → Bool) (σ : ℕ → ℕ) → OneToOne (suc n) p m q σ → OneToOne n p m q σ
one_to_one_first n p m q σ s = record {
  within = λ i h. s.within i (omega (arith, h));
  passes = λ i h. s.passes i (omega (arith, h));
  once = λ i j h k. s.once i j (omega (arith, h)) (omega (arith, k));
}

-- what is left when the last passes, and what it is taken to is struck out
one_to_one_rest : (n : ℕ) (p : ℕ → Bool) (m : ℕ) (q : ℕ → Bool) (σ : ℕ → ℕ) → OneToOne (suc n) p m q σ → p n ≡ true
    → OneToOne n p m (without (σ n) q) σ
one_to_one_rest n p m q σ s e =
    let first = one_to_one_first n p m q σ s in
    let other : (i : ℕ) → i < n → p i ≡ true → σ i ≡ σ n → ⊥ =
    λ i h t d. absurd (omega (arith, h, s.once i n (omega (arith, h)) (omega arith) t e d)) in
    record {
      within = first.within;
      passes = λ i h t. without_other (σ n) q (σ i) (other i h t) ∙ first.passes i h t;
      once = first.once;
    }

-- no more pass p than q
pub count_into : (n : ℕ) (p : ℕ → Bool) (m : ℕ) (q : ℕ → Bool) (σ : ℕ → ℕ) → OneToOne n p m q σ → count n p ≤ count m q
count_into zero p m q σ s = zero-le
count_into (suc n) p m q σ s = go (p n) refl (count_into n p m)
  where
    go : (t : Bool) → p n ≡ t → ((r : ℕ → Bool) (τ : ℕ → ℕ) → OneToOne n p m r τ → count n p ≤ count m r) → count (suc n) p ≤ count m q
    go false e ih = let c = ih q σ (one_to_one_first n p m q σ s) in omega (arith, c, count_miss n p e)
    go true e ih =
        let c = ih (without (σ n) q) σ (one_to_one_rest n p m q σ s e) in
        let d = count_without (σ n) q m (s.within n (omega arith) e) (s.passes n (omega arith) e) in
        omega (arith, c, count_hit n p e, d)

-- as many pass in another order
pub count_reordered : (n : ℕ) (π : ℕ → ℕ) → Reordering n π → (p : ℕ → Bool) → count n (λ i. p (π i)) ≡ count n p
count_reordered n π ρ p =
    let there : OneToOne n (λ i. p (π i)) n p π = record {
      within = λ i h e. ρ.within i h;
      passes = λ i h e. e;
      once = λ i j h k a b d. sym (ρ.back i h) ∙ ap ρ.inverse d ∙ ρ.back j k;
    } in
    let here : OneToOne n p n (λ i. p (π i)) ρ.inverse = record {
      within = λ i h e. ρ.within_back i h;
      passes = λ i h e. ap p (ρ.forth i h) ∙ e;
      once = λ i j h k a b d. sym (ρ.forth i h) ∙ ap π d ∙ ρ.forth j k;
    } in
    omega (arith, count_into n (λ i. p (π i)) n p π there, count_into n p n (λ i. p (π i)) ρ.inverse here)

-- no more pass p if all that do pass q
pub count_less : (n : ℕ) (p q : ℕ → Bool) → ((i : ℕ) → i < n → p i ≡ true → q i ≡ true) → count n p ≤ count n q
count_less n p q h = count_into n p n q (λ i. i) (record { within = λ i l e. l; passes = h; once = λ i j l k a b d. d })

-- all pass if n do
pub count_full : (n : ℕ) (p : ℕ → Bool) → n ≤ count n p → (i : ℕ) → i < n → p i ≡ true
count_full n p e i h = go (p i) refl
  where
    go : (t : Bool) → p i ≡ t → p i ≡ true
    go true d = d
    go false d =
        let c = count_less n p (without i (λ j. true)) (λ j l a. ap not (ne_eqb j i (λ s. true≢false (sym a ∙ ap p s ∙ d)))) in
        absurd (omega (arith, e, c, count_all n, count_without i (λ j. true) n h refl))

-- a map of 0 .. n - 1 into themselves that takes no two to one reaches each
pub one_to_one_onto : (n : ℕ) (σ : ℕ → ℕ) → OneToOne n (λ i. true) n (λ i. true) σ → (j : ℕ) → j < n → (i : ℕ) × (i < n) × (σ i ≡ j)
one_to_one_onto n σ s j h =
    let hit : ℕ → Bool = λ j. ltb 0 (count n (λ i. eqb (σ i) j)) in
    let all = count_into n (λ i. true) n hit σ
    (record {
      within = s.within;
      passes = λ i l e.
          let c = count_before (λ k. eqb (σ k) (σ i)) i n l (eq-eqb (σ i) (σ i) refl) in
          lt-ltb 0 (count n (λ k. eqb (σ k) (σ i))) (omega (arith, c));
      once = s.once;
    }) in
    let r = count_reaches (λ i. eqb (σ i) j) n 0 (ltb-true 0 (count n (λ i. eqb (σ i) j)) (count_full n hit (omega (arith, all, count_all n)) j h)) in
    (r.0, r.1, eqb-true (σ r.0) j r.2)
