-- Masks: what their tests tell, and how many bytes they choose. The ring recipe on strings of the right lengths.
use Rattle.standard.proofs.Prelude.{◌≡◌, refl, sym, ap, ◌∙◌, true, List, ◌∷◌, ℕ, zero, suc, ◌+◌, ◌/◌, ◌%◌, ◌^◌, ◌<◌, zero-add, mod-lt}
use Rattle.standard.proofs.Prelude.{mod-eq_of_lt, zero-lt-suc, arith, eqb, length, pow_pos, eqb-true}
use native.Mathlib.Nat.{mod-one}
use native.Mathlib.Numerals.{one-add}
use lib.Count.{ones, ones_in, ones_cat}
use lib.Pow.{mod-pow-add}
use Rattle.standard.specs.Bytes.{byte, bit, part, choose}
use Rattle.standard.specs.Keys.{chosen_of, chosen, ring_of, have_lengths, ring_call}
use Rattle.standard.specs.Refusals.{has_length, mask_tests, first}
use Rattle.standard.proofs.BytesLaws.{length_spelled, and_split}
use Rattle.standard.proofs.FirstLaws.{all_pass}

-- masks that no test refuses
pub masks_ones : (rm km : ℕ) → first (mask_tests rm km) ≡ 0 → (ones rm ≡ 4) × (ones km ≡ 10)
masks_ones rm km e =
    let s = and_split _ _ (all_pass (mask_tests rm km) refl e 0) in
    (eqb-true _ _ s.0, eqb-true _ _ s.1)

-- ---- a mask chooses as many bytes as it has ones

length_choose : (b x : ℕ) (xs : List ℕ) → b < 2 → length (choose (eqb b 1) (x ∷ xs) xs) ≡ ones b + length xs
unfolding ones ones_in
length_choose zero x xs h = rw zero-add
length_choose (suc zero) x xs h = rw one-add
length_choose (suc (suc b)) x xs h = omega arith

length_of : (n m : ℕ) (o : List ℕ) → length (chosen_of n m o) ≡ ones (m % 2 ^ n)
unfolding ones ones_in bit
length_of zero m o = rw mod-one
length_of (suc n) m o =
    length_choose (bit n m) (byte 16 o n) (chosen_of n m o) (mod-lt (m / 2 ^ n) (zero-lt-suc 1))
    ∙ ap (λ (k : ℕ). ones (bit n m) + k) (length_of n m o)
    ∙ sym (ones_cat n (bit n m) (m % 2 ^ n) (mod-lt m (pow_pos n)))
    ∙ ap ones (rw one-add at (sym (mod-pow-add m 1 n)))

pub length_chosen : (m : ℕ) (o : List ℕ) → m < 2 ^ 16 → length (chosen m o) ≡ ones m
unfolding chosen
length_chosen m o h = length_of 16 m o ∙ ap ones (mod-eq_of_lt h)

-- ---- the ring recipe

-- the seven strings, one by one
pub lengths_split : (root rs rso rand1 rand2 c gk : List ℕ) → have_lengths root rs rso rand1 rand2 c gk ≡ true
    → (has_length 16 root ≡ true) × (has_length 10 rs ≡ true) × (has_length 10 rso ≡ true) × (has_length 10 rand1 ≡ true) × (has_length 10 rand2 ≡ true)
    × (has_length 10 c ≡ true) × (has_length 12 gk ≡ true)
lengths_split root rs rso rand1 rand2 c gk t =
    let s₆ = and_split _ _ t in
    let s₅ = and_split _ _ s₆.0 in
    let s₄ = and_split _ _ s₅.0 in
    let s₃ = and_split _ _ s₄.0 in
    let s₂ = and_split _ _ s₃.0 in
    let s₁ = and_split _ _ s₂.0 in
    (s₁.0, s₁.1, s₂.1, s₃.1, s₄.1, s₅.1, s₆.1)

pub ring_long : (root rs rso rand1 rand2 c gk : List ℕ) (sides rm km : ℕ) → have_lengths root rs rso rand1 rand2 c gk ≡ true
    → ring_of (record {
      root = part 0 16 root;
      rs = part 0 10 rs;
      rso = part 0 10 rso;
      rand1 = part 0 10 rand1;
      rand2 = part 0 10 rand2;
      c = part 0 10 c;
      group_key = part 0 12 gk;
      sides = sides;
      response_mask = rm;
      key_mask = km;
    }) ≡ ring_call root rs rso rand1 rand2 c gk sides rm km
unfolding ring_of ring_call
ring_long root rs rso rand1 rand2 c gk sides rm km t =
    let s = lengths_split root rs rso rand1 rand2 c gk t in
    rw (length_spelled 16 root s.0, length_spelled 10 rs s.1, length_spelled 10 rso s.2, length_spelled 10 rand1 s.3)
    (rw (length_spelled 10 rand2 s.4, length_spelled 10 c s.5, length_spelled 12 gk s.6, t))
