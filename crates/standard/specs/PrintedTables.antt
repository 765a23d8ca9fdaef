-- The printed tables (02, 13): S's inverse, the schedule's running rotations, and the text that printtables writes.
use Rattle.std.specs.Prelude.{List, [], ◌∷◌, ◌++◌, ℕ, zero, suc, ◌+◌, ◌%◌, eqb}
use Rattle.standard.specs.Bytes.{◌!◌, table, part, choose}
use Rattle.standard.specs.Hurdle.{S, a}
use Rattle.standard.specs.Lists.{each}
use Rattle.standard.specs.Lines.{ascii, hex_byte, text_call}
use Rattle.standard.specs.Lines.{TextAnswer}

-- ---- the tables

-- the index at which y first stands
abbrev pub place_of : ℕ → List ℕ → ℕ
place_of y [] = 0
place_of y (x ∷ xs) = choose (eqb x y) 0 (suc (place_of y xs))

-- the inverse of s: entry y is the index at which s has y
unfoldable pub inverse : List ℕ → List ℕ
inverse s = table 256 (λ y. place_of y s)

-- a1 + .. + ai
unfoldable pub running_sum : ℕ → ℕ
running_sum zero = 0
running_sum (suc i) = running_sum i + a ! i

-- how far the key is rotated in Q(i+1)
abbrev pub turn : ℕ → ℕ
turn i = running_sum i % 16

-- the running rotations: those by a1, by a1 and a2, and so on, to all sixteen
unfoldable pub rotations : List ℕ
rotations = table 16 (λ i. turn (suc i))

-- ---- the text

-- entries, with a space after each
unfoldable pub spaced : List ℕ → List ℕ
spaced [] = []
spaced (x ∷ xs) = (hex_byte x ++ ascii " ") ++ spaced xs

-- a line of sixteen entries: a space after each but the last
unfoldable pub table_line : List ℕ → List ℕ
table_line t = spaced (part 0 15 t) ++ hex_byte (t ! 15) ++ ascii "\n"

-- the first n lines of a table
unfoldable pub table_lines : ℕ → List ℕ → List ℕ
table_lines n t = each n 16 table_line t

-- sixteen lines of the inverse, then one of the rotations
unfoldable pub tables_text : List ℕ
tables_text = table_lines 16 (inverse S) ++ table_line rotations

-- the call: the text into an output
abbrev pub tables_call : List ℕ → TextAnswer × List ℕ
tables_call out = text_call tables_text out
