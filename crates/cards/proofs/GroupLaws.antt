-- The four bits of a mask that stand for a group.
use Rattle.standard.proofs.Prelude.{◌≡◌, refl, sym, ap, ◌∙◌, ℕ, suc, ◌+◌, ◌-◌, ◌/◌, ◌%◌, ◌^◌, ◌≤◌, ◌<◌, arith, eqb, eqb-true}
use lib.Pow.{shr-shr}
use Rattle.std.specs.Int.Count.{ones}
use Rattle.standard.proofs.BytesLaws.{every_at}
use Rattle.standard.specs.Bytes.{bit}
use Rattle.standard.specs.Cards.{erasures}

digits : ℕ → ℕ
digits x = x / 8 % 2 + (x / 4 % 2 + (x / 2 % 2 + (x % 2 + 0)))

ones_of_four : (x : ℕ) → x < 16 → ones x ≡ digits x
unfolding digits ones
ones_of_four x h = eqb-true _ _ (every_at 16 (λ n. eqb (ones n) (digits n)) refl x h)

pub erasures_are_ones : (m a : ℕ) → a ≤ 12 → ones (m / 2 ^ (12 - a) % 16) ≡ erasures m a
unfolding bit digits
erasures_are_ones m a h =
    let y : ℕ = m / 2 ^ (12 - a) in
    let at3 : m / 2 ^ (15 - a) ≡ y / 8 = ap (λ (k : ℕ). m / 2 ^ k) (omega arith) ∙ sym (shr-shr m (12 - a) 3) in
    let at2 : m / 2 ^ (15 - suc a) ≡ y / 4 = ap (λ (k : ℕ). m / 2 ^ k) (omega arith) ∙ sym (shr-shr m (12 - a) 2) in
    let at1 : m / 2 ^ (15 - suc (suc a)) ≡ y / 2 = ap (λ (k : ℕ). m / 2 ^ k) (omega arith) ∙ sym (shr-shr m (12 - a) 1) in
    let at0 : m / 2 ^ (15 - suc (suc (suc a))) ≡ y = ap (λ (k : ℕ). m / 2 ^ k) (omega arith) in
    ones_of_four (y % 16) (omega arith) ∙ rw (at3, at2, at1, at0) (omega arith)
