-- Changes of BL2's output: one byte, and two bytes of one group alike.
use Rattle.standard.proofs.Prelude.{◌≡◌, refl, sym, ap, ◌∙◌, Bool, true, false, ◌&&◌, List, ℕ, ◌+◌, ◌-◌, ◌*◌, ◌/◌, zero-le, arith}
use Rattle.standard.proofs.Prelude.{zero-add, eqb, leb, eqb-true, eqb-false, ne_eqb, leb-true}
use mathlib.Core.Bool.{◌||◌}
use borrow.Author.Tests.{leb-false}
use lib.Bits.{xor_shr}
use Rattle.standard.specs.Bytes.{◌!◌, ◌⊕◌, same, choose}
use Rattle.standard.specs.Expansions.{inserted, expected, exp1_groups, exp3_groups, x16_groups}
use Rattle.standard.specs.Seals.{form_of, failed}
use Rattle.standard.specs.SealsFacts.{groups_of}
use Rattle.standard.specs.declared.Algorithm.{Algorithm}
use Rattle.standard.specs.declared.Algorithm.TheVariants.{Ta31, Ta51, Ta81, Ta91}
use Rattle.standard.proofs.BytesLaws.{same_refl}
use Rattle.standard.proofs.CheckLaws.{clear_same}
use Rattle.claims.specs.FalseClaims.{group_at, top_bits, EqualChanges}
use Rattle.claims.specs.TrueClaims.{fifth_alone, changed, OneOfOutput}
use Rattle.claims.proofs.BitsClaims.{four_pass, fifth}
use Rattle.claims.proofs.ChangeLaws.{changed_here, changed_elsewhere}
use Rattle.claims.proofs.GroupLaws.{Even, even_right, found_wanted, groups_even, fifteen, no_change, alike}

pub one_of_output : OneOfOutput
one_of_output a u i d z h other z' =
    other (no_change 15 i d u (groups_of a) 0 (groups_even a u z) (groups_even a (changed 15 i d u) z') zero-le (rw (fifteen a) (omega arith))
    (rw (fifteen a) (omega arith)))

-- ---- two equal changes

-- no check fails where the groups are right, but for that of the three bits
even_found : (ns : List ℕ) (u : List ℕ) → Even ns 0 u → same (inserted ns 0 u) (expected ns 0 u) ≡ true
even_found ns u e = ap (λ (l : List ℕ). same l (expected ns 0 u)) (even_right ns 0 u e) ∙ same_refl (expected ns 0 u)

-- the failed check of the three bits, from the number byte's change
bits_failed : (x d : ℕ) (t : Bool) → x / 32 ≡ 0 → 16 * choose (eqb (choose t (x ⊕ d) x / 32) 0) 0 1 ≡ choose (t && leb 32 d) fifth_alone 0
bits_failed x d false z = rw z
bits_failed x d true z = go (leb 32 d) refl (xor_shr x d 5 ∙ ap (λ (y : ℕ). y ⊕ (d / 32)) z)
  where
    go : (s : Bool) → leb 32 d ≡ s → (x ⊕ d) / 32 ≡ d / 32 → 16 * choose (eqb ((x ⊕ d) / 32) 0) 0 1 ≡ choose s fifth_alone 0
    go true l e = let some : (x ⊕ d) / 32 ≡ 0 → ⊥ = λ q. omega (arith, leb-true 32 d l, e, q) in rw (ne_eqb _ 0 some)
    go false l e = let none : (x ⊕ d) / 32 ≡ 0 = e ∙ omega (arith, leb-false 32 d l) in rw none

module _ (u : List ℕ) (i j d : ℕ) (other : i ≡ j → ⊥) where
  abbrev twice : List ℕ
  twice = changed 15 j d (changed 15 i d u)

  still_even : (a : Algorithm) → failed (form_of a) u ≡ 0 → group_at (groups_of a) i ≡ group_at (groups_of a) j → Even (groups_of a) 0 twice
  still_even a z g =
      let ei : i - 0 ≡ i = omega arith in
      let ej : j - 0 ≡ j = omega arith in
      alike 15 i j d u other (groups_of a) 0 zero-le zero-le (rw (fifteen a) (omega arith)) (rw (ei, ej) g) (groups_even a u z)

  number_byte : twice ! 13 ≡ choose (eqb i 13 || eqb j 13) (u ! 13 ⊕ d) (u ! 13)
  number_byte = go (eqb i 13) refl (eqb j 13) refl
    where
      go : (s : Bool) → eqb i 13 ≡ s → (t : Bool) → eqb j 13 ≡ t → twice ! 13 ≡ choose (s || t) (u ! 13 ⊕ d) (u ! 13)
      go true es t et =
          let e = eqb-true i 13 es in
          changed_elsewhere 15 j d (changed 15 i d u) 13 (omega arith) (λ z. other (e ∙ z)) ∙ changed_here 15 i d u 13 (omega arith) (sym e)
      go false es true et =
          changed_here 15 j d (changed 15 i d u) 13 (omega arith) (sym (eqb-true j 13 et))
          ∙ ap (λ (x : ℕ). x ⊕ d) (changed_elsewhere 15 i d u 13 (omega arith) (λ z. eqb-false i 13 es (sym z)))
      go false es false et =
          changed_elsewhere 15 j d (changed 15 i d u) 13 (omega arith) (λ z. eqb-false j 13 et (sym z))
          ∙ changed_elsewhere 15 i d u 13 (omega arith) (λ z. eqb-false i 13 es (sym z))

  by_kind : (a : Algorithm) → failed (form_of a) u ≡ 0 → Even (groups_of a) 0 twice → failed (form_of a) twice ≡ choose (top_bits a i j d) fifth_alone 0
  by_kind Ta31 z e = eqb-true _ 0 (clear_same Ta31 twice ∙ even_found exp1_groups twice e)
  by_kind Ta51 z e =
      let bits : u ! 13 / 32 ≡ 0 = ap (λ (l : List ℕ). l ! 4) (found_wanted Ta51 u z) in
      fifth twice ∙ ap (λ (x : ℕ). x + 16 * choose (eqb (twice ! 13 / 32) 0) 0 1) ((four_pass twice).1 (even_found exp3_groups twice e))
      ∙ ap (λ (x : ℕ). 0 + 16 * choose (eqb (x / 32) 0) 0 1) number_byte ∙ zero-add _ ∙ bits_failed (u ! 13) d (eqb i 13 || eqb j 13) bits
  by_kind Ta81 z e = eqb-true _ 0 (clear_same Ta81 twice ∙ even_found x16_groups twice e)
  by_kind Ta91 z e = eqb-true _ 0 (clear_same Ta91 twice ∙ even_found x16_groups twice e)

pub equal_changes : EqualChanges
equal_changes a u i j d z other g = by_kind u i j d other a z (still_even u i j d other a z g)
