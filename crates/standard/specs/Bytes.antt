-- Byte strings (01, Byte order): lists of bytes, the leftmost first, as a lent buffer holds them.
-- A string of known length is written out by its indexes: `table 3 f` is `f 0 ∷ f 1 ∷ f 2 ∷ []`.
use Rattle.std.specs.Prelude.{Bool, true, false, ◌&&◌, List, [], ◌∷◌, ◌≡◌, ℕ, zero, suc, ◌+◌, ◌-◌, ◌*◌, ◌/◌, ◌%◌, ◌^◌, ◌<◌, eqb, length, get_or}
use Rattle.std.specs.Int.Bits.{bit_xor}

infixl 90 ◌!◌
infixl 75 ◌⊕◌
infixl 75 ◌⊞◌
-- the byte at index i from the left; 0 past the end
abbrev pub ◌!◌ : List ℕ → ℕ → ℕ
xs ! i = get_or xs i 0

-- byte j of a string of n bytes, numbered from the right: byte 0 is rightmost
abbrev pub byte : ℕ → List ℕ → ℕ → ℕ
byte n xs j = xs ! (n - suc j)

-- bit n of a number, bit 0 the lowest
unfoldable pub bit : ℕ → ℕ → ℕ
bit n x = x / 2 ^ n % 2

-- bitwise exclusive or
abbrev pub ◌⊕◌ : ℕ → ℕ → ℕ
a ⊕ b = bit_xor a b

-- byte sums wrap at 256
abbrev pub ◌⊞◌ : ℕ → ℕ → ℕ
a ⊞ b = (a + b) % 256

-- f 0, f 1, .. f (n - 1)
abbrev pub table : ℕ → (ℕ → ℕ) → List ℕ
table zero f = []
table (suc n) f = f zero ∷ table n (λ i. f (suc i))

-- the n bytes from index `from` on
abbrev pub part : ℕ → ℕ → List ℕ → List ℕ
part from n xs = table n (λ i. xs ! (from + i))

-- the ⊕ of two strings of n bytes
abbrev pub xors : ℕ → List ℕ → List ℕ → List ℕ
xors n xs ys = table n (λ i. xs ! i ⊕ ys ! i)

abbrev pub zeros : ℕ → List ℕ
zeros n = table n (λ i. 0)

-- a number's n lowest bytes, big-endian
abbrev pub bytes_of : ℕ → ℕ → List ℕ
bytes_of zero x = []
bytes_of (suc n) x = x / 2 ^ (8 * n) % 256 ∷ bytes_of n x

-- the number that a string of three bytes spells
abbrev pub number3 : List ℕ → ℕ
number3 b = 65536 * b ! 0 + 256 * b ! 1 + b ! 2

-- the number that a string of any length spells (02, 10)
abbrev pub number_on : ℕ → List ℕ → ℕ
number_on acc [] = acc
number_on acc (b ∷ bs) = number_on (acc * 256 + b) bs

unfoldable pub number : List ℕ → ℕ
number bs = number_on 0 bs

-- two strings are the same, as a test: from left to right
abbrev pub same_on : Bool → List ℕ → List ℕ → Bool
same_on t [] [] = t
same_on t [] (y ∷ ys) = false
same_on t (x ∷ xs) [] = false
same_on t (x ∷ xs) (y ∷ ys) = same_on (t && eqb x y) xs ys

abbrev pub same : List ℕ → List ℕ → Bool
same xs ys = same_on true xs ys

-- the first if the test passes, the second if not
abbrev pub choose : {A : Type 0} → Bool → A → A → A
choose true a b = a
choose false a b = b

-- xs is a string of n bytes. The bound holds at every index: past the end stands 0
pub record Bytes (n : ℕ) (xs : List ℕ) : Type 0 where
  pub len : length xs ≡ n
  pub bound : (i : ℕ) → xs ! i < 256
