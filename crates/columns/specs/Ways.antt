-- The way in which a book is filed, as a function of the record's size and the number of records.
use Rattle.std.specs.Prelude.{List, ℕ}
use Rattle.columns.specs.declared.Way.{Way}
use Rattle.columns.specs.declared.Way.TheVariants.{ToColumns, FromColumns}
use Rattle.standard.specs.Columns.{to_columns, from_columns}

abbrev pub filed : Way → (w n : ℕ) → List ℕ → List ℕ
filed ToColumns = to_columns
filed FromColumns = from_columns
