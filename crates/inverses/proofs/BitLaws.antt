-- Eight bytes as a number, and the bits cut out of it.
use Rattle.standard.proofs.Prelude.{◌≡◌, ap, ◌∙◌, List, ℕ, ◌*◌, ◌%◌, ◌^◌, ◌≤◌, one-mul, arith, length, shl_exact}
use Rattle.std.specs.Int.{w64, from_be_bytes}
use Rattle.standard.proofs.BytesLaws.{spelled}
use Rattle.standard.specs.Bytes.{◌!◌, table, number}

pub number8 : (b : List ℕ) → length b ≡ 8 → from_be_bytes w64 b ≡ number b
unfolding number
number8 b n =
    let e : from_be_bytes w64 b ≡ number (table 8 (λ i. b ! i)) = omega arith in
    e ∙ ap number (spelled 8 b n)

pub shl_one : (w : ℕ) → w ≤ 32 → 1 * 2 ^ w % 2 ^ 64 ≡ 2 ^ w
shl_one w h = shl_exact {a = 1} 1 w 64 (omega arith) (omega arith) ∙ one-mul (2 ^ w)
