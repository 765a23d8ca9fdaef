-- TA71's key input as the ⊕ of two strings that overlap.
use Rattle.standard.proofs.Prelude.{◌≡◌, sym, ap, ◌∙◌, List, ◌++◌, ℕ, ◌+◌, length, xor_zero_r, xor_comm}
use Rattle.standard.proofs.BytesLaws.{spelled}
use Rattle.standard.specs.Bytes.{◌!◌, ◌⊕◌, table, part, xors, zeros}

zero_xor : (x : ℕ) → 0 ⊕ x ≡ x
zero_xor x = xor_comm 0 x ∙ xor_zero_r x

written_out : (a b : List ℕ) → xors 16 (part 0 16 (part 0 10 a)) (zeros 6 ++ part 0 10 b) ≡ part 0 6 a ++ table 4 (λ i. a ! (6 + i) ⊕ b ! i) ++ part 4 6 b
written_out a b = simp (xor_zero_r, zero_xor)

pub overlap : (a b : List ℕ) → length a ≡ 10 → {left right twelve joined : List ℕ}
    → left ≡ part 0 16 a → twelve ≡ part 0 12 b → joined ≡ zeros 6 ++ part 0 12 twelve → right ≡ part 0 16 joined
    → xors 16 left right ≡ part 0 6 a ++ table 4 (λ i. a ! (6 + i) ⊕ b ! i) ++ part 4 6 b
overlap a b ha f g h k =
    rw (f, k, h, g) (ap (λ (z : List ℕ). xors 16 (part 0 16 z) (zeros 6 ++ part 0 10 b)) (sym (spelled 10 a ha)) ∙ written_out a b)
