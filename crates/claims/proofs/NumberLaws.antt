-- The strings of n bytes stand one to one with the numbers below 256 ^ n.
use Rattle.standard.proofs.Prelude.{◌≡◌, refl, sym, ap, ◌∙◌, List, [], ◌∷◌, ℕ, zero, suc, ◌+◌, ◌*◌, ◌/◌, ◌%◌, ◌^◌, ◌<◌, mod-eq_of_lt, suc_inj}
use Rattle.standard.proofs.Prelude.{suc-ne-zero, arith, length, pow-add}
use native.Mathlib.Nat.{pow-suc}
use native.Mathlib.Numerals.{one-add}
use lib.Arith.{digits_lt}
use Rattle.standard.specs.Bytes.{◌!◌, bytes_of, number_on, number, Bytes}
use Rattle.standard.proofs.BytesLaws.{bytes_of_lem}
use Rattle.standard.proofs.FindLaws.{number_bytes}
use Rattle.standard.proofs.InverseLaws.{Inverse}
use Rattle.standard.proofs.MixingLaws.{bytes_cat}

-- 8 n bits are n bytes
pow_bytes : (n : ℕ) → 256 ^ n ≡ 2 ^ (8 * n)
pow_bytes zero = refl
pow_bytes (suc n) =
    let e : 8 * n + 8 ≡ 8 * suc n = omega arith in
    pow-suc 256 n ∙ ap (λ (x : ℕ). x * 256) (pow_bytes n) ∙ sym (pow-add 2 (8 * n) 8) ∙ ap (λ (x : ℕ). 2 ^ x) e

-- a byte in front
number_front : (bs : List ℕ) (n acc : ℕ) → length bs ≡ n → number_on acc bs ≡ acc * 2 ^ (8 * n) + number_on 0 bs
number_front [] zero acc e = omega arith
number_front [] (suc n) acc e = absurd (suc-ne-zero n (sym e))
number_front (b ∷ bs) zero acc e = absurd (suc-ne-zero (length bs) e)
number_front (b ∷ bs) (suc n) acc e =
    let s : 8 * suc n ≡ 8 + 8 * n = omega arith in
    let p : 2 ^ (8 * suc n) ≡ 256 * 2 ^ (8 * n) = ap (λ (k : ℕ). 2 ^ k) s ∙ pow-add 2 8 (8 * n) in
    let l = suc_inj e in
    rw (p, number_front bs n (acc * 256 + b) l, number_front bs n (0 * 256 + b) l) (omega arith)

-- the number of a string of bytes, and its bytes again
spelled_out : (bs : List ℕ) (n : ℕ) → length bs ≡ n → ((i : ℕ) → bs ! i < 256) → (number_on 0 bs < 2 ^ (8 * n)) × (bytes_of n (number_on 0 bs) ≡ bs)
spelled_out [] zero e h = (omega arith, refl)
spelled_out [] (suc n) e h = absurd (suc-ne-zero n (sym e))
spelled_out (b ∷ bs) zero e h = absurd (suc-ne-zero (length bs) e)
spelled_out (b ∷ bs) (suc n) e h =
    let l = suc_inj e in
    let ih = spelled_out bs n l (λ i. h (suc i)) in
    let f : number_on 0 (b ∷ bs) ≡ b * 2 ^ (8 * n) + number_on 0 bs = number_front bs n (0 * 256 + b) l ∙ omega arith in
    let s : 8 * suc n ≡ 8 + 8 * n = omega arith in
    let p : 2 ^ (8 * suc n) ≡ 256 * 2 ^ (8 * n) = ap (λ (k : ℕ). 2 ^ k) s ∙ pow-add 2 8 (8 * n) in
    let first : b / 2 ^ (8 * 0) % 256 ≡ b = omega (arith, h 0) in (
      rw (f, p) (digits_lt (h 0) ih.0),
      rw f (rw one-add at (bytes_cat 1 n b (number_on 0 bs) ih.0) ∙ rw (first, ih.1)),
    )

pub numbered : (n : ℕ) → Inverse (λ i. i < 256 ^ n) (Bytes n) (bytes_of n) number
unfolding number
numbered n = record {
  to = λ i h. bytes_of_lem n i;
  from = λ x h. rw (pow_bytes n) (spelled_out x n h.len h.bound).0;
  back = λ i h. number_bytes n i ∙ mod-eq_of_lt (rw (pow_bytes n) at h);
  forth = λ x h. (spelled_out x n h.len h.bound).1;
}
