-- ⊕ is associative and undoes itself, on all numbers and not on bytes alone.
use Rattle.standard.proofs.Prelude.{◌≡◌, refl, sym, ap, ap₂, ◌∙◌, ℕ, zero, suc, ◌+◌, ◌*◌, ◌/◌, ◌%◌, ◌<◌, mod-lt, zero-lt-suc, arith, xor_comm}
use Rattle.standard.proofs.Prelude.{xor_self, xor_zero_r}
use lib.Arith.{bin_ind, digits_mod}
use lib.Bits.{differ, xor_step, xor_shr, xor_lt}
use Rattle.standard.specs.Bytes.{◌⊕◌}

differ_assoc : (x y z : ℕ) → x < 2 → y < 2 → z < 2 → differ (differ x y) z ≡ differ x (differ y z)
differ_assoc zero y z hx hy hz = refl
differ_assoc (suc zero) zero z hx hy hz = refl
differ_assoc (suc zero) (suc zero) zero hx hy hz = refl
differ_assoc (suc zero) (suc zero) (suc zero) hx hy hz = refl
differ_assoc (suc zero) (suc zero) (suc (suc z)) hx hy hz = omega arith
differ_assoc (suc zero) (suc (suc y)) z hx hy hz = omega arith
differ_assoc (suc (suc x)) y z hx hy hz = omega arith

differ_lt : (x y : ℕ) → x < 2 → y < 2 → differ x y < 2
differ_lt zero y hx hy = hy
differ_lt (suc zero) zero hx hy = hx
differ_lt (suc zero) (suc zero) hx hy = omega arith
differ_lt (suc zero) (suc (suc y)) hx hy = omega arith
differ_lt (suc (suc x)) y hx hy = omega arith

odd : (a : ℕ) → a % 2 < 2
odd a = mod-lt a (zero-lt-suc 1)

digit : (a b : ℕ) → (a ⊕ b) % 2 ≡ differ (a % 2) (b % 2)
digit a b = ap (λ (n : ℕ). n % 2) (xor_step a b) ∙ digits_mod _ (differ_lt _ _ (odd a) (odd b))

pub xor_assoc : (a b c : ℕ) → (a ⊕ b) ⊕ c ≡ a ⊕ (b ⊕ c)
xor_assoc =
    bin_ind (λ (a : ℕ). (b c : ℕ) → (a ⊕ b) ⊕ c ≡ a ⊕ (b ⊕ c)) (λ b c. refl)
    (λ a ih b c.
    xor_step (a ⊕ b) c
    ∙ ap₂ (λ (x y : ℕ). x * 2 + y)
    (ap (λ (x : ℕ). x ⊕ (c / 2)) (xor_shr a b 1) ∙ ih (b / 2) (c / 2) ∙ sym (ap (◌⊕◌ (a / 2)) (xor_shr b c 1)))
    (ap (λ (x : ℕ). differ x (c % 2)) (digit a b) ∙ differ_assoc _ _ _ (odd a) (odd b) (odd c)
    ∙ sym (ap (differ (a % 2)) (digit b c)))
    ∙ sym (xor_step a (b ⊕ c)))

-- what is put in twice cancels
pub xor_cancel_l : (a b : ℕ) → a ⊕ (a ⊕ b) ≡ b
xor_cancel_l a b = simp (← xor_assoc, xor_self)

pub xor_cancel_r : (a b : ℕ) → (a ⊕ b) ⊕ b ≡ a
xor_cancel_r a b = xor_assoc a b b ∙ ap (◌⊕◌ a) (xor_self b) ∙ xor_zero_r a

pub xor_cancel_m : (a b : ℕ) → (a ⊕ b) ⊕ a ≡ b
xor_cancel_m a b = ap (λ (n : ℕ). n ⊕ a) (xor_comm a b) ∙ xor_cancel_r b a

pub xor_byte : (a b : ℕ) → a < 256 → b < 256 → a ⊕ b < 256
xor_byte a b = xor_lt 8 a b
