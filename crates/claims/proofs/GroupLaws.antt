-- Groups of bytes with their inserted bytes: the ⊕ of each is 0 exactly if the inserted byte is right. One byte changed spoils it, and two
-- equal changes in one group do not.
use Rattle.standard.proofs.Prelude.{◌≡◌, refl, sym, ap, ap₂, ◌∙◌, Bool, true, false, List, [], ◌∷◌, ℕ, zero, suc, ◌+◌, ◌-◌, ◌≤◌, ◌<◌, add-zero, add-suc}
use Rattle.standard.proofs.Prelude.{suc_inj, suc-ne-zero, arith, xor_comm, xor_self, xor_zero_r, leb, ltb, leb-true, ltb-true, ltb-false, eq-eqb}
use native.Mathlib.Nat.{suc-add}
use borrow.Author.Tests.{leb-false}
use Rattle.standard.specs.Bytes.{◌!◌, ◌⊕◌, part, choose}
use Rattle.standard.specs.Expansions.{xor_on, xor_of, inserted, expected, exp1_groups, exp3_groups, x16_groups}
use Rattle.standard.specs.Seals.{form_of, failed}
use Rattle.standard.specs.SealsFacts.{groups_of}
use Rattle.standard.specs.declared.Algorithm.{Algorithm}
use Rattle.standard.specs.declared.Algorithm.TheVariants.{Ta31, Ta51, Ta81, Ta91}
use Rattle.standard.proofs.BytesLaws.{same_eq}
use Rattle.standard.proofs.CheckLaws.{clear_same}
use Rattle.standard.proofs.ExpansionLaws.{full}
use Rattle.standard.proofs.XorLaws.{xor_cancel_r}
use Rattle.claims.specs.FalseClaims.{group_at}
use Rattle.claims.specs.TrueClaims.{changed}
use Rattle.claims.proofs.ChangeLaws.{xor_changed, xor_unchanged}

-- the ⊕ of each group and its inserted byte, from index `from` on, is 0
abbrev pub Even : List ℕ → ℕ → List ℕ → Type 0
Even [] from u = Unit {0}
Even (n ∷ ns) from u = (xor_of from (suc n) u ≡ 0) × Even ns (suc (from + n)) u

-- ---- exactly if the inserted bytes are right

xor_last : (x from n : ℕ) (u : List ℕ) → xor_on x from (suc n) u ≡ xor_on x from n u ⊕ u ! (from + n)
xor_last x from zero u = ap (λ (i : ℕ). x ⊕ u ! i) (sym (add-zero from))
xor_last x from (suc n) u =
    xor_last (x ⊕ u ! from) (suc from) n u ∙ ap (λ (i : ℕ). xor_on (x ⊕ u ! from) (suc from) n u ⊕ u ! i) (suc-add from n ∙ sym (add-suc from n))

pub right_even : (ns : List ℕ) (from : ℕ) (u : List ℕ) → inserted ns from u ≡ expected ns from u → Even ns from u
right_even [] from u e = tt
right_even (n ∷ ns) from u e =
    let first : u ! (from + n) ≡ xor_of from n u = cc in
    let rest : inserted ns (suc (from + n)) u ≡ expected ns (suc (from + n)) u = cc in
    (xor_last 0 from n u ∙ ap (◌⊕◌ (xor_of from n u)) first ∙ xor_self (xor_of from n u), right_even ns (suc (from + n)) u rest)

pub even_right : (ns : List ℕ) (from : ℕ) (u : List ℕ) → Even ns from u → inserted ns from u ≡ expected ns from u
even_right [] from u e = refl
even_right (n ∷ ns) from u e =
    let x = xor_of from n u in
    let y = u ! (from + n) in
    let same : y ≡ x = sym (sym (xor_cancel_r x y) ∙ ap (λ (z : ℕ). z ⊕ y) (sym (xor_last 0 from n u) ∙ e.0)) in
    ap₂ ◌∷◌ same (even_right ns (suc (from + n)) u e.1)

-- ---- of an algorithm

-- what the check finds is what it wants, if none fails
pub found_wanted : (a : Algorithm) (u : List ℕ) → failed (form_of a) u ≡ 0 → (form_of a).found u ≡ (form_of a).wanted u
found_wanted a u z = same_eq ((form_of a).found u) ((form_of a).wanted u) (sym (clear_same a u) ∙ eq-eqb _ 0 z)

-- so the groups are right
pub groups_even : (a : Algorithm) (u : List ℕ) → failed (form_of a) u ≡ 0 → Even (groups_of a) 0 u
groups_even Ta31 u z = right_even exp1_groups 0 u (found_wanted Ta31 u z)
groups_even Ta51 u z = right_even exp3_groups 0 u (ap (part 0 4) (found_wanted Ta51 u z))
groups_even Ta81 u z = right_even x16_groups 0 u (found_wanted Ta81 u z)
groups_even Ta91 u z = right_even x16_groups 0 u (found_wanted Ta91 u z)

pub fifteen : (a : Algorithm) → full (groups_of a) ≡ 15
fifteen Ta31 = refl
fifteen Ta51 = refl
fifteen Ta81 = refl
fifteen Ta91 = refl

-- ---- one byte changed

module _ (m i d : ℕ) (u : List ℕ) where
  -- it was no change
  pub no_change : (ns : List ℕ) (from : ℕ) → Even ns from u → Even ns from (changed m i d u) → from ≤ i → i < from + full ns → from + full ns ≤ m → d ≡ 0
  no_change [] from e e' a b h = absurd (omega arith)
  no_change (n ∷ ns) from e e' a b h =
      go (ltb i (from + suc n)) refl (λ l. no_change ns (suc (from + n)) e.1 e'.1 (omega arith) (omega arith) (omega arith))
    where
      go : (t : Bool) → ltb i (from + suc n) ≡ t → (from + suc n ≤ i → d ≡ 0) → d ≡ 0
      go true z later =
          sym (xor_comm 0 d ∙ xor_zero_r d) ∙ ap (λ (x : ℕ). x ⊕ d) (sym e.0)
          ∙ sym (xor_changed m i d u from (suc n) a (ltb-true i _ z) (omega arith)) ∙ e'.0
      go false z later = later (ltb-false i _ z)

-- ---- two bytes changed alike

-- a place counted from the start of a group
within : (from n i : ℕ) → i - from ≤ n → i < from + suc n
within from n i h = omega arith

beyond : (from n i : ℕ) → n < i - from → suc (from + n) ≤ i
beyond from n i h = omega arith

next_start : (from n i : ℕ) → i - from - suc n ≡ i - suc (from + n)
next_start from n i = omega arith

module _ (m i j d : ℕ) (u : List ℕ) (other : i ≡ j → ⊥) where
  abbrev both : List ℕ
  both = changed m j d (changed m i d u)

  -- groups that have neither
  neither : (ns : List ℕ) (from : ℕ) → i < from → j < from → from + full ns ≤ m → Even ns from u → Even ns from both
  neither [] from a b h e = tt
  neither (n ∷ ns) from a b h e = (
    xor_unchanged m j d (changed m i d u) from (suc n) (λ k l r z. omega (arith, z)) (omega arith)
        ∙ xor_unchanged m i d u from (suc n) (λ k l r z. omega (arith, z)) (omega arith) ∙ e.0,
    neither ns (suc (from + n)) (omega arith) (omega arith) (omega arith) e.1,
  )

  -- the first group has both, or neither
  in_first : (n : ℕ) (ns : List ℕ) (from : ℕ) → from ≤ i → from ≤ j → from + full (n ∷ ns) ≤ m → Even (n ∷ ns) from u
      → i < from + suc n → j < from + suc n → Even (n ∷ ns) from both
  in_first n ns from a b h e li lj = (
    xor_changed m j d (changed m i d u) from (suc n) b lj (omega arith)
        ∙ ap (λ (x : ℕ). x ⊕ d) (xor_changed m i d u from (suc n) a li (omega arith)) ∙ xor_cancel_r _ d ∙ e.0,
    neither ns (suc (from + n)) (omega arith) (omega arith) (omega arith) e.1,
  )

  in_later : (n : ℕ) (ns : List ℕ) (from : ℕ) → from + full (n ∷ ns) ≤ m → Even (n ∷ ns) from u
      → suc (from + n) ≤ i → suc (from + n) ≤ j → Even ns (suc (from + n)) both → Even (n ∷ ns) from both
  in_later n ns from h e li lj later = (
    xor_unchanged m j d (changed m i d u) from (suc n) (λ k l r z. omega (arith, z)) (omega arith)
        ∙ xor_unchanged m i d u from (suc n) (λ k l r z. omega (arith, z)) (omega arith) ∙ e.0,
    later,
  )

  pub alike : (ns : List ℕ) (from : ℕ) → from ≤ i → from ≤ j → from + full ns ≤ m → group_at ns (i - from) ≡ group_at ns (j - from)
      → Even ns from u → Even ns from both
  alike [] from a b h g e = tt
  alike (n ∷ ns) from a b h g e = go (leb (i - from) n) refl (leb (j - from) n) refl g (λ l r q. alike ns (suc (from + n)) l r (fits h) q e.1)
    where
      fits : from + full (n ∷ ns) ≤ m → suc (from + n) + full ns ≤ m
      fits k = omega (arith, k)

      go : (s : Bool) → leb (i - from) n ≡ s → (t : Bool) → leb (j - from) n ≡ t
          → choose s 0 (suc (group_at ns (i - from - suc n))) ≡ choose t 0 (suc (group_at ns (j - from - suc n)))
          → (suc (from + n) ≤ i → suc (from + n) ≤ j → group_at ns (i - suc (from + n)) ≡ group_at ns (j - suc (from + n)) → Even ns (suc (from + n)) both)
          → Even (n ∷ ns) from both
      go true es true et q later = in_first n ns from a b h e (within from n i (leb-true _ n es)) (within from n j (leb-true _ n et))
      go true es false et q later = absurd (suc-ne-zero _ (sym q))
      go false es true et q later = absurd (suc-ne-zero _ q)
      go false es false et q later =
          let hi = beyond from n i (leb-false _ n es) in
          let hj = beyond from n j (leb-false _ n et) in
          in_later n ns from h e hi hj
          (later hi hj (ap (group_at ns) (sym (next_start from n i)) ∙ suc_inj q ∙ ap (group_at ns) (next_start from n j)))
