-- The bytes of the number that four bytes spell.
use Rattle.standard.proofs.Prelude.{◌≡◌, [], ◌∷◌, ℕ, ◌+◌, ◌*◌, ◌/◌, ◌%◌, ◌^◌, ◌<◌, arith}
use Rattle.standard.specs.Bytes.{bytes_of}

pub word_bytes : (a b c d : ℕ) → a < 256 → b < 256 → c < 256 → d < 256 → bytes_of 4 (16777216 * a + 65536 * b + 256 * c + d) ≡ a ∷ b ∷ c ∷ d ∷ []
word_bytes a b c d ha hb hc hd =
    let w = 16777216 * a + 65536 * b + 256 * c + d in
    let e3 : w / 2 ^ 24 % 256 ≡ a = omega arith in
    let e2 : w / 2 ^ 16 % 256 ≡ b = omega arith in
    let e1 : w / 2 ^ 8 % 256 ≡ c = omega arith in
    let e0 : w / 2 ^ 0 % 256 ≡ d = omega arith in
    cc
