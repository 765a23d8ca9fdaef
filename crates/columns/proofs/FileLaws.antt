-- A transposition by code, column by column.
use Rattle.standard.proofs.Prelude.{◌≡◌, List, ◌++◌, ℕ, ◌+◌, ◌-◌, ◌*◌, ◌≤◌, ◌<◌, length, take, drop}
use Rattle.lists.proofs.WalkLaws.{PrefixWritten, prefix_next, end_fits}
use Rattle.standard.proofs.ColumnsLaws.{column_length}
use Rattle.standard.specs.Columns.{column}

-- the first j columns of n rows are written, and after them the output is as it was
abbrev pub Filed : (n width : ℕ) (rows out₀ : List ℕ) (j : ℕ) (out : List ℕ) → Type 0
Filed n width rows out₀ j out = PrefixWritten n (column n width rows) out₀ j out

-- one more, into its own part of the output
pub filed_more : (n width : ℕ) (rows out₀ : List ℕ) (j : ℕ) (out exit : List ℕ) → Filed n width rows out₀ j out
    → j < width → n * width ≤ length out₀ → exit ≡ column n width rows j
    → Filed n width rows out₀ (j + 1) (take (n * j) out ++ (exit ++ drop (n * j + n - n * j) (drop (n * j) out)))
filed_more n width rows out₀ j out exit h l most e =
    prefix_next n (column n width rows) (column_length n width rows) out₀ j out h (end_fits n j width (length out₀) l most) exit e
