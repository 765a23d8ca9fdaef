-- Texts, as the bytes that a program writes: fixed words, numbers, and the call that writes a text.
use Rattle.std.specs.Prelude.{List, [], ◌∷◌, ◌++◌, ℕ, zero, suc, ◌+◌, ◌/◌, ◌%◌, ltb, length, drop}
use Prim.Native.Char.{code}
use Prim.Native.String.{String, [] as []ˢ, ◌∷◌ as ◌∷ˢ◌}
use Rattle.standard.specs.Bytes.{choose}
use Rattle.standard.specs.Refusals.{output_short}

-- the bytes of a text in ASCII
abbrev pub ascii : String → List ℕ
ascii []ˢ = []
ascii (c ∷ˢ s) = code c ∷ ascii s

-- ---- numbers

-- the decimal digits of a number that has at most n, without leading zeros
unfoldable pub digits : ℕ → ℕ → List ℕ
digits zero x = []
digits (suc n) x = choose (ltb x 10) [] (digits n (x / 10)) ++ ((48 + x % 10) ∷ [])

-- twenty are enough for 64 bits
abbrev pub decimal : ℕ → List ℕ
decimal x = digits 20 x

-- 0 to 9, then a to f
unfoldable pub hex_digit : ℕ → ℕ
hex_digit d = choose (ltb d 10) (48 + d) (87 + d)

abbrev pub hex_byte : ℕ → List ℕ
hex_byte b = hex_digit (b / 16) ∷ hex_digit (b % 16) ∷ []

-- two digits for each byte
unfoldable pub hex : List ℕ → List ℕ
hex [] = []
hex (b ∷ s) = hex_byte b ++ hex s

-- ---- the call

-- A text into an output: 0 and the text's length, the output at exit being the text and then its own rest; or 12 and the output as it was
-- if it has fewer bytes than the text.
pub record TextAnswer : Type 0 where
  pub refusal : ℕ
  pub written : ℕ

unfoldable pub text_call : List ℕ → List ℕ → TextAnswer × List ℕ
text_call t out =
    choose (ltb (length out) (length t))
    (record { refusal = output_short; written = 0 }, out)
    (record { refusal = 0; written = length t }, t ++ drop (length t) out)
