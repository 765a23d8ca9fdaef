-- The diffusion tally (02, 12): how many output bits of HURDLE-II change when one bit of the block is flipped.
use mathlib.Core.List.{List, [], ◌∷◌, foldl}
use Rattle.std.specs.Prelude.{ℕ, ◌+◌, ◌/◌, ◌^◌, min, max, eqb, length}
use Rattle.std.specs.Int.Count.{ones}
use Rattle.standard.specs.Bytes.{table, part, xors, bytes_of, choose}
use Rattle.standard.specs.Hurdle.{encrypt}
use Rattle.standard.specs.Lists.{each, length_tests}
use Rattle.standard.specs.Refusals.{first}
use Rattle.standard.specs.Sizes.{diffusion_size}
use Rattle.standard.specs.declared.Tally.{Tally}

-- ---- the changes

-- a block with bit i flipped; bit 0 is the lowest of the rightmost byte
unfoldable pub flipped : ℕ → List ℕ → List ℕ
flipped i b = xors 8 b (bytes_of 8 (2 ^ i))

-- how many bits are set in a string
abbrev pub bits_set : List ℕ → ℕ
bits_set [] = 0
bits_set (x ∷ xs) = ones x + bits_set xs

-- how many output bits change when bit i of the block is flipped
unfoldable pub change : (key block : List ℕ) → ℕ → ℕ
change k b i = bits_set (xors 8 (encrypt k b) (encrypt k (flipped i b)))

-- the changes of the 64 flips of a record, which is a key and then a block
unfoldable pub record_changes : List ℕ → List ℕ
record_changes r = table 64 (change (part 0 16 r) (part 16 8 r))

-- all changes, record by record and bit by bit
abbrev pub changes : List ℕ → List ℕ
changes xs = each (length xs / diffusion_size) diffusion_size record_changes xs

-- ---- their sum and their extremes; 0 where there are none

unfoldable pub total : List ℕ → ℕ
total cs = foldl ◌+◌ 0 cs

unfoldable pub least : List ℕ → ℕ
least [] = 0
least (c ∷ cs) = foldl min c cs

unfoldable pub greatest : List ℕ → ℕ
greatest cs = foldl max 0 cs

-- ---- the call

abbrev pub tally : ℕ → List ℕ → Tally
tally r cs = record { refusal = r; flips = length cs; total = total cs; least = least cs; greatest = greatest cs }

-- refusals 1 and 2; a refused list has no changes
unfoldable pub diffusion_call : List ℕ → Tally
diffusion_call xs = let r = first (length_tests diffusion_size (length xs)) in tally r (choose (eqb r 0) (changes xs) [])
