-- Numbers as bytes, and what TB1 repeats.
--     bytes_cat  a number in two parts, each in its own bytes
--     tb1_at     byte j of TB1, as the code takes it out of two copies of the value
--     tb1_bit    bit i of TB1 is bit i modulo the width of the value, both counted from the left
use Rattle.standard.proofs.Prelude.{◌≡◌, refl, sym, ap, ap₂, ◌∙◌, ◌∷◌, ◌++◌, ℕ, zero, suc, ◌+◌, ◌-◌, ◌*◌, ◌/◌, ◌%◌, ◌^◌, ◌≤◌, ◌<◌, add-zero}
use Rattle.standard.proofs.Prelude.{zero-add, add-suc, add-mul, mod-lt, arith, pow-add, shl_exact}
use native.Mathlib.Nat.{suc-add, add_assoc, add_comm, zero-mul, suc-mul, mul-one, mul_assoc}
use native.Mathlib.Nat.{mul-add-mod_self_right, lt_of_lt_of_le, div-add-mod'}
use lib.Arith.{digits_lt}
use lib.Pow.{pow_mono, shr-shr, split, high, field}
use Rattle.standard.specs.Bytes.{◌!◌, bit, bytes_of}
use Rattle.standard.specs.Mixing.{tb1}

-- ---- digits and bytes

-- n bits from bit s on do not show what stands above them
pub below : (a x k s n : ℕ) → n + s ≤ k → (a * 2 ^ k + x) / 2 ^ s % 2 ^ n ≡ x / 2 ^ s % 2 ^ n
below a x k s n h =
    let e : k ≡ k - (n + s) + (n + s) = omega arith in
    let m : (a * 2 ^ k + x) % 2 ^ (n + s) ≡ x % 2 ^ (n + s) =
    ap (λ (j : ℕ). (a * 2 ^ j + x) % 2 ^ (n + s)) e ∙ rw (pow-add, ← mul_assoc, mul-add-mod_self_right) in
    sym (field (a * 2 ^ k + x) n s) ∙ ap (λ (j : ℕ). j / 2 ^ s) m ∙ field x n s

bytes_below : (n k a x : ℕ) → 8 * n ≤ k → bytes_of n (a * 2 ^ k + x) ≡ bytes_of n x
bytes_below zero k a x h = refl
bytes_below (suc n) k a x h = ap₂ ◌∷◌ (below a x k (8 * n) 8 (omega arith)) (bytes_below n k a x (omega arith))

-- a number in two parts, the right one of n bytes
pub bytes_cat : (m n a x : ℕ) → x < 2 ^ (8 * n) → bytes_of (m + n) (a * 2 ^ (8 * n) + x) ≡ bytes_of m a ++ bytes_of n x
bytes_cat zero n a x h = rw zero-add (bytes_below n (8 * n) a x (omega arith))
bytes_cat (suc m) n a x h =
    let e : 8 * (m + n) ≡ 8 * n + 8 * m = omega arith in
    rw suc-add (ap₂ ◌∷◌ (rw (e, ← shr-shr, high a (8 * n) h)) (bytes_cat m n a x h))

bytes_at : (j k x : ℕ) → bytes_of (j + suc k) x ! j ≡ x / 2 ^ (8 * k) % 256
bytes_at zero k x = rw zero-add
bytes_at (suc j) k x = rw suc-add (bytes_at j k x)

-- a bit of a number's lowest byte is the number's
bit_byte : (x k : ℕ) → k < 8 → bit k (x % 256) ≡ bit k x
unfolding bit
bit_byte x k h = sym (below (x / 256) (x % 256) 8 k 1 (omega arith)) ∙ ap (λ (y : ℕ). y / 2 ^ k % 2) (split x 8)

-- ---- a value of w bits, written n times

module _ (v w : ℕ) where
  abbrev copies : ℕ → ℕ
  copies zero = 0
  copies (suc n) = copies n * 2 ^ w + v

  copies_add : (m n : ℕ) → copies (m + n) ≡ copies m * 2 ^ (n * w) + copies n
  copies_add m zero = rw (add-zero, zero-mul, mul-one, add-zero)
  copies_add m (suc n) = rw (add-suc, copies_add m n, add-mul, mul_assoc, ← pow-add, suc-mul, add_assoc)

  module _ (h : v < 2 ^ w) where
    copies_lt : (n : ℕ) → copies n < 2 ^ (n * w)
    copies_lt zero = rw zero-mul (omega arith)
    copies_lt (suc n) = rw (suc-mul, pow-add) (digits_lt (copies_lt n) h)

    -- the t leftmost bits are the same of any number of copies
    lead : (m n t : ℕ) → t ≤ m * w → copies (m + n) / 2 ^ ((m + n) * w - t) ≡ copies m / 2 ^ (m * w - t)
    lead m n t l =
        let e : (m + n) * w - t ≡ n * w + (m * w - t) = rw add-mul (omega arith) in
        rw (e, ← shr-shr, copies_add, high (copies m) (n * w) (copies_lt n))

    leads : (m n t : ℕ) → t ≤ m * w → t ≤ n * w → copies m / 2 ^ (m * w - t) ≡ copies n / 2 ^ (n * w - t)
    leads m n t l k = sym (lead m n t l) ∙ rw (add_comm m n) (lead n m t k)

    -- n bits from bit t of TB1 on, counted from the left, stand in k copies that have them
    in_copies : 16 ≤ w → (k t n : ℕ) → t % w + n ≤ k * w → t + n ≤ 128
        → copies 8 / 2 ^ (8 * w - 128) / 2 ^ (128 - (t + n)) % 2 ^ n ≡ copies k / 2 ^ (k * w - (t % w + n)) % 2 ^ n
    in_copies l k t n a b =
        let q : ℕ = t / w in
        let z : q * w + t % w ≡ t = div-add-mod' t w in
        let r : (q + k) * w ≡ q * w + k * w = add-mul q k w in
        let e : 8 * w - 128 + (128 - (t + n)) ≡ 8 * w - (t + n) = omega arith in
        let f : (q + k) * w - (t + n) ≡ k * w - (t % w + n) = omega arith in
        rw (shr-shr, e, leads 8 (q + k) (t + n) (omega arith) (omega arith), f, copies_add)
        (below (copies q) (copies k) (k * w) (k * w - (t % w + n)) n (omega arith))

    tb1_byte : (j : ℕ) → j < 16 → tb1 v w ! j ≡ copies 8 / 2 ^ (8 * w - 128) / 2 ^ (8 * (15 - j)) % 256
    unfolding tb1
    tb1_byte j k =
        let x : ℕ = copies 8 / 2 ^ (8 * w - 128) in
        let e : 16 ≡ j + suc (15 - j) = omega arith in
        ap (λ (n : ℕ). bytes_of n x ! j) e ∙ bytes_at j (15 - j) x

    -- byte j: eight bits of two copies
    pub tb1_at : 16 ≤ w → (j : ℕ) → j < 16 → tb1 v w ! j ≡ (v * 2 ^ w + v) / 2 ^ (2 * w - 8 - 8 * j % w) % 256
    tb1_at l j k =
        let u : 8 * j % w < w = mod-lt (8 * j) (omega arith) in
        let e : 8 * (15 - j) ≡ 128 - (8 * j + 8) = omega arith in
        let f : 2 * w - (8 * j % w + 8) ≡ 2 * w - 8 - 8 * j % w = omega arith in
        rw (tb1_byte j k, e, in_copies l 2 (8 * j) 8 (omega arith) (omega arith), f, zero-mul, zero-add)

    -- bit i of the 128 is bit i mod w of the value, both counted from the left
    pub tb1_bit : 16 ≤ w → (i : ℕ) → i < 128 → bit (7 - i % 8) (tb1 v w ! (i / 8)) ≡ bit (w - 1 - i % w) v
    unfolding bit
    tb1_bit l i k =
        let u : i % w < w = mod-lt i (omega arith) in
        let x : ℕ = copies 8 / 2 ^ (8 * w - 128) in
        let e : 8 * (15 - i / 8) + (7 - i % 8) ≡ 128 - (i + 1) = omega arith in
        let f : 1 * w - (i % w + 1) ≡ w - 1 - i % w = omega arith in
        ap (bit (7 - i % 8)) (tb1_byte (i / 8) (omega arith)) ∙ bit_byte (x / 2 ^ (8 * (15 - i / 8))) (7 - i % 8) (omega arith)
        ∙ rw (shr-shr x (8 * (15 - i / 8)) (7 - i % 8), e, in_copies l 1 i 1 (omega arith) (omega arith), f, zero-mul, zero-add)

  -- two copies fit in 64 bits, and nothing is shifted out
  pub twice_exact : v < 2 ^ w → w ≤ 32 → v * 2 ^ w % 2 ^ 64 ≡ v * 2 ^ w
  twice_exact h l = shl_exact w w 64 h (omega arith)

  pub twice_fits : v < 2 ^ w → w ≤ 32 → v * 2 ^ w + v < 2 ^ 64
  twice_fits h l = lt_of_lt_of_le (rw (← pow-add) at (digits_lt h h)) (pow_mono {i = w + w} {j = 64} (omega arith))
