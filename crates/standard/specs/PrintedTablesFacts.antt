-- The printed tables (02, 13): what the request asks for, stated. The proofs are in proofs/PrintedTablesLaws.
use Rattle.std.specs.Prelude.{[], ◌∷◌, ◌≡◌, ℕ, ◌<◌}
use Rattle.standard.specs.Bytes.{◌!◌}
use Rattle.standard.specs.Hurdle.{S, S⁻¹}
use Rattle.standard.specs.PrintedTables.{inverse, rotations, table_line}
use Rattle.standard.specs.Lines.{ascii}

-- the inverse made is the stored constant, entry for entry
abbrev pub InverseMade : Type 0
InverseMade = inverse S ≡ S⁻¹

-- the rotations are these; each value from 0 to 15 stands at one place among them, and at no other
pub record Rotations : Type 0 where
  pub are : rotations ≡ 5 ∷ 10 ∷ 15 ∷ 4 ∷ 7 ∷ 14 ∷ 3 ∷ 8 ∷ 13 ∷ 2 ∷ 9 ∷ 12 ∷ 1 ∷ 6 ∷ 11 ∷ 0 ∷ []
  pub once : (v : ℕ) → v < 16 → (i : ℕ) × (i < 16) × (rotations ! i ≡ v) × ((j : ℕ) → j < 16 → rotations ! j ≡ v → j ≡ i)

-- the last line printed
abbrev pub LastLine : Type 0
LastLine = table_line rotations ≡ ascii "05 0a 0f 04 07 0e 03 08 0d 02 09 0c 01 06 0b 00\n"
