-- The texts of numbers: their digits, one by one, and their lengths.
use Rattle.standard.proofs.Prelude.{◌≡◌, refl, ap, ◌∙◌, Bool, true, false, List, [], ◌∷◌, ◌++◌, ℕ, zero, suc, ◌+◌, ◌-◌, ◌/◌, ◌%◌, ◌≤◌, ◌<◌, arith}
use Rattle.standard.proofs.Prelude.{ltb, length, length-append, lt-ltb, le-ltb}
use native.Mathlib.Numerals.{sub-one}
use Rattle.standard.specs.Bytes.{choose}
use Rattle.standard.specs.Lines.{digits, hex_byte, hex}

-- a byte more, at the end
pub hex_step : (s : List ℕ) (b : ℕ) → hex (s ++ (b ∷ [])) ≡ hex s ++ hex_byte b
unfolding hex
hex_step [] b = refl
hex_step (a ∷ s) b = ap (λ (t : List ℕ). hex_byte a ++ t) (hex_step s b)

-- ---- digits

pub digits_none : (n x : ℕ) → n ≡ 0 → digits n x ≡ []
unfolding digits
digits_none n x e = ap (λ (k : ℕ). digits k x) e

digits_some : (n x : ℕ) → (n ≡ 0 → ⊥) → digits n x ≡ choose (ltb x 10) [] (digits (n - 1) (x / 10)) ++ ((48 + x % 10) ∷ [])
unfolding digits
digits_some zero x h = absurd (h refl)
digits_some (suc n) x h = rw sub-one

pub digits_last : (n x : ℕ) → (n ≡ 0 → ⊥) → x < 10 → digits n x ≡ (48 + x % 10) ∷ []
digits_last n x h l = digits_some n x h ∙ rw (lt-ltb x 10 l)

pub digits_more : (n x : ℕ) → (n ≡ 0 → ⊥) → 10 ≤ x → digits n x ≡ digits (n - 1) (x / 10) ++ ((48 + x % 10) ∷ [])
digits_more n x h l = digits_some n x h ∙ rw (le-ltb x 10 l)

-- ---- lengths

pub digits_few : (n x : ℕ) → length (digits n x) ≤ n
unfolding digits
digits_few zero x = omega arith
digits_few (suc n) x = go (ltb x 10) (digits_few n (x / 10))
  where
    go : (t : Bool) → length (digits n (x / 10)) ≤ n → length (choose t [] (digits n (x / 10)) ++ ((48 + x % 10) ∷ [])) ≤ suc n
    go true h = omega arith
    go false h = simp length-append (omega arith)

pub hex_twice : (s : List ℕ) → length (hex s) ≡ length s + length s
unfolding hex
hex_twice [] = refl
hex_twice (b ∷ s) = omega (arith, hex_twice s)
