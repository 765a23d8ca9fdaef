-- The checks of a text: no bit of their number is set exactly if each finds what it wants, and exactly if their or is 0 (02, 3, 6).
use Rattle.standard.proofs.Prelude.{◌≡◌, refl, sym, ap, ap₂, ◌∙◌, subst, Bool, true, false, ◌&&◌, List, [], ◌∷◌, ℕ, zero, suc, ◌+◌, ◌*◌, ◌/◌}
use Rattle.standard.proofs.Prelude.{◌%◌, ◌^◌, ◌<◌, suc_inj, suc-ne-zero, arith, xor_self, eqb, length, eqb-true, eqb-false, eq-eqb, ne_eqb}
use native.Mathlib.Nat.{pow-succ', div-div-eq-div-mul}
use lib.Bits.{bit_or, or_add_and, and_le_l, and_le_r}
use Rattle.standard.specs.Bytes.{◌!◌, bit, ◌⊕◌, same_on, same, choose}
use Rattle.standard.specs.Seals.{differences, failed_of, clear, or_on, or_of, form_of}
use Rattle.standard.specs.declared.Algorithm.{Algorithm}
use Rattle.standard.specs.declared.Algorithm.TheVariants.{Ta31, Ta51, Ta81, Ta91}
use Rattle.standard.proofs.XorLaws.{xor_cancel_r}

-- an or is 0 exactly if both its parts are
or_test : (a b : ℕ) → eqb (bit_or a b) 0 ≡ eqb a 0 && eqb b 0
or_test a b = go (eqb a 0) refl (eqb b 0) refl
  where
    go : (s : Bool) → eqb a 0 ≡ s → (t : Bool) → eqb b 0 ≡ t → eqb (bit_or a b) 0 ≡ s && t
    go true es true et = rw (eqb-true a 0 es, eqb-true b 0 et)
    go true es false et = ne_eqb (bit_or a b) 0 (λ (e : bit_or a b ≡ 0). eqb-false b 0 et (omega (arith, or_add_and a b, and_le_l a b)))
    go false es t et = ne_eqb (bit_or a b) 0 (λ (e : bit_or a b ≡ 0). eqb-false a 0 es (omega (arith, or_add_and a b, and_le_r a b)))

-- a difference is 0 exactly if both are the same
pub xor_test : (a b : ℕ) → eqb (b ⊕ a) 0 ≡ eqb a b
xor_test a b = go (eqb a b) refl
  where
    go : (t : Bool) → eqb a b ≡ t → eqb (b ⊕ a) 0 ≡ t
    go true e = eq-eqb (b ⊕ a) 0 (ap (λ (x : ℕ). b ⊕ x) (eqb-true a b e) ∙ xor_self b)
    go false e = ne_eqb (b ⊕ a) 0 (λ (z : b ⊕ a ≡ 0). eqb-false a b e (sym (sym (xor_cancel_r b a) ∙ ap (λ (x : ℕ). x ⊕ a) z)))

or_same : (x : ℕ) (t : Bool) → eqb x 0 ≡ t → (xs ys : List ℕ) → length xs ≡ length ys → eqb (or_on x (differences xs ys)) 0 ≡ same_on t xs ys
or_same x t e [] [] l = e
or_same x t e [] (b ∷ ys) l = absurd (suc-ne-zero (length ys) (sym l))
or_same x t e (a ∷ xs) [] l = absurd (suc-ne-zero (length xs) l)
or_same x t e (a ∷ xs) (b ∷ ys) l =
    or_same (bit_or x (b ⊕ a)) (t && eqb a b) (or_test x (b ⊕ a) ∙ ap₂ ◌&&◌ e (xor_test a b)) xs ys (suc_inj l)

and_assoc : (s t u : Bool) → s && (t && u) ≡ s && t && u
and_assoc true t u = refl
and_assoc false t u = refl

-- no bit of the number is set exactly if no check fails
failed_test : (d : ℕ) (ds : List ℕ) → eqb (failed_of (d ∷ ds)) 0 ≡ eqb d 0 && eqb (failed_of ds) 0
failed_test d ds = go (eqb d 0) (eqb (failed_of ds) 0) refl
  where
    go : (s t : Bool) → eqb (failed_of ds) 0 ≡ t → eqb (choose s 0 1 + 2 * failed_of ds) 0 ≡ s && t
    go true true e = eq-eqb (0 + 2 * failed_of ds) 0 (omega (arith, eqb-true (failed_of ds) 0 e))
    go true false e = ne_eqb (0 + 2 * failed_of ds) 0 (λ z. eqb-false (failed_of ds) 0 e (omega (arith, z)))
    go false t e = ne_eqb (1 + 2 * failed_of ds) 0 (λ z. omega (arith, z))

failed_same : (t : Bool) (xs ys : List ℕ) → length xs ≡ length ys → t && eqb (failed_of (differences xs ys)) 0 ≡ same_on t xs ys
failed_same true [] [] l = refl
failed_same false [] [] l = refl
failed_same t [] (b ∷ ys) l = absurd (suc-ne-zero (length ys) (sym l))
failed_same t (a ∷ xs) [] l = absurd (suc-ne-zero (length xs) l)
failed_same t (a ∷ xs) (b ∷ ys) l =
    ap (λ (s : Bool). t && s) (failed_test (b ⊕ a) (differences xs ys))
    ∙ and_assoc t (eqb (b ⊕ a) 0) _ ∙ ap (λ (s : Bool). t && s && eqb (failed_of (differences xs ys)) 0) (xor_test a b)
    ∙ failed_same (t && eqb a b) xs ys (suc_inj l)

-- no check fails exactly if nothing else is found than what is wanted
pub none_failed : (xs ys : List ℕ) → length xs ≡ length ys → eqb (failed_of (differences xs ys)) 0 ≡ same xs ys
none_failed xs ys l = failed_same true xs ys l

-- an algorithm finds as much as it wants
pub as_many : (a : Algorithm) (u : List ℕ) → length ((form_of a).found u) ≡ length ((form_of a).wanted u)
as_many Ta31 u = refl
as_many Ta51 u = refl
as_many Ta81 u = refl
as_many Ta91 u = refl

pub clear_same : (a : Algorithm) (u : List ℕ) → clear (form_of a) u ≡ same ((form_of a).found u) ((form_of a).wanted u)
clear_same a u = none_failed ((form_of a).found u) ((form_of a).wanted u) (as_many a u)

pub or_clear : (a : Algorithm) (u : List ℕ) → eqb (or_of (form_of a) u) 0 ≡ clear (form_of a) u
or_clear a u = or_same 0 true refl ((form_of a).found u) ((form_of a).wanted u) (as_many a u) ∙ sym (clear_same a u)

-- ---- the bits of the number (02, 6)

-- a number below 2, and twice another after it
bit_first : (b n : ℕ) → b < 2 → bit 0 (b + 2 * n) ≡ b
unfolding bit
bit_first b n h = omega arith

bit_suc : (b n i : ℕ) → b < 2 → bit (suc i) (b + 2 * n) ≡ bit i n
unfolding bit
bit_suc b n i h =
    let half : (b + 2 * n) / 2 ≡ n = omega arith in
    ap (λ (x : ℕ). x % 2) (ap (λ (x : ℕ). (b + 2 * n) / x) (pow-succ' 2 i) ∙ sym (div-div-eq-div-mul (b + 2 * n) 2 (2 ^ i)) ∙ ap (λ (x : ℕ). x / 2 ^ i) half)

fails_bit : (d : ℕ) → choose (eqb d 0) 0 1 < 2
fails_bit d = go (eqb d 0)
  where
    go : (t : Bool) → choose t 0 1 < 2
    go true = omega arith
    go false = omega arith

-- bit i is that of check i, and no other is set
pub failed_bit : (ds : List ℕ) (i : ℕ) → i < length ds → bit i (failed_of ds) ≡ choose (eqb (ds ! i) 0) 0 1
failed_bit [] i h = omega arith
failed_bit (d ∷ ds) zero h = bit_first _ (failed_of ds) (fails_bit d)
failed_bit (d ∷ ds) (suc i) h = bit_suc _ (failed_of ds) i (fails_bit d) ∙ failed_bit ds i (omega (arith, h))

pub failed_below : (ds : List ℕ) → failed_of ds < 2 ^ length ds
failed_below [] = omega arith
failed_below (d ∷ ds) =
    let below : choose (eqb d 0) 0 1 + 2 * failed_of ds < 2 * 2 ^ length ds = omega (arith, failed_below ds, fails_bit d) in
    subst (λ (x : ℕ). failed_of (d ∷ ds) < x) (sym (pow-succ' 2 (length ds))) below

-- check i is the difference of what is found and wanted there
pub difference_at : (xs ys : List ℕ) → length xs ≡ length ys → (i : ℕ) → i < length xs → differences xs ys ! i ≡ ys ! i ⊕ xs ! i
difference_at [] ys l i h = omega arith
difference_at (x ∷ xs) [] l i h = absurd (suc-ne-zero (length xs) l)
difference_at (x ∷ xs) (y ∷ ys) l zero h = refl
difference_at (x ∷ xs) (y ∷ ys) l (suc i) h = difference_at xs ys (suc_inj l) i (omega (arith, h))

pub differences_length : (xs ys : List ℕ) → length xs ≡ length ys → length (differences xs ys) ≡ length xs
differences_length [] ys l = refl
differences_length (x ∷ xs) [] l = absurd (suc-ne-zero (length xs) l)
differences_length (x ∷ xs) (y ∷ ys) l = ap suc (differences_length xs ys (suc_inj l))

-- so bit i is 0 where both are the same, and 1 where not
pub failed_at : (xs ys : List ℕ) → length xs ≡ length ys → (i : ℕ) → i < length xs → bit i (failed_of (differences xs ys)) ≡ choose (eqb (xs ! i) (ys ! i)) 0 1
failed_at xs ys l i h =
    failed_bit (differences xs ys) i (omega (arith, h, differences_length xs ys l))
    ∙ ap (λ (t : Bool). choose t 0 1) (ap (λ (d : ℕ). eqb d 0) (difference_at xs ys l i h) ∙ xor_test (xs ! i) (ys ! i))
