-- The lineage sheet (02, 5): a value depends on the ancestry alone, stated. The proofs are in proofs/LineageLaws.
use Rattle.std.specs.Prelude.{List, ◌≡◌, ℕ, ◌/◌, ◌<◌, length}
use Rattle.standard.specs.Lineage.{operation, parent1, parent2, value_from, value_of, lineage_call}
use Rattle.standard.specs.Lists.{record_at}
use Rattle.standard.specs.Sizes.{sheet_size, value_size}

-- record i of s and its ancestors: itself, and with each of them that has parents its first and its second
pub data Ancestor (s : List ℕ) (i : ℕ) : ℕ → Type 0 where
  itself : Ancestor s i i
  by_first : (j : ℕ) → Ancestor s i j → (operation (record_at sheet_size s j) ≡ 0 → ⊥) → Ancestor s i (parent1 (record_at sheet_size s j))
  by_second : (j : ℕ) → Ancestor s i j → (operation (record_at sheet_size s j) ≡ 0 → ⊥) → Ancestor s i (parent2 (record_at sheet_size s j))

-- so where two accepted sheets have the same record i, and the same records at the indexes of its ancestors, both calls write the same value for it
abbrev pub AncestorLaw : Type 0
AncestorLaw = (s t out₁ out₂ : List ℕ) → (lineage_call s out₁).0.refusal ≡ 0 → (lineage_call t out₂).0.refusal ≡ 0
    → (i : ℕ) → i < length s / sheet_size → i < length t / sheet_size
    → ((j : ℕ) → Ancestor s i j → record_at sheet_size s j ≡ record_at sheet_size t j)
    → (value_of s i ≡ value_of t i) × (record_at value_size (lineage_call s out₁).1 i ≡ record_at value_size (lineage_call t out₂).1 i)

-- in an accepted sheet, what is written for a record is its operation's value of what is written for its parents
abbrev pub LineageSound : Type 0
LineageSound = (s out : List ℕ) → (lineage_call s out).0.refusal ≡ 0 → (i : ℕ) → i < length s / sheet_size
    → let p = record_at sheet_size s i in
    let value = record_at value_size (lineage_call s out).1 in
    value i ≡ value_from p (value (parent1 p)) (value (parent2 p))
