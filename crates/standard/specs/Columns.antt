-- Books filed by column (02, 9): byte 0 of each record, in the records' order, then byte 1 of each, up to the last byte; and back.
use Rattle.std.specs.Prelude.{List, ℕ, ◌+◌, ◌*◌, ◌/◌, length}
use Rattle.standard.specs.Bytes.{◌!◌, table}
use Rattle.standard.specs.Lists.{joined, list_tests, records_call}
use Rattle.standard.specs.declared.BookAnswer.{BookAnswer}

-- ---- the columns of rows of `width` bytes

-- byte j of each row
abbrev pub column : (rows width : ℕ) → List ℕ → ℕ → List ℕ
column rows width xs j = table rows (λ i. xs ! (width * i + j))

-- all columns, one after the other
unfoldable pub transposed : (rows width : ℕ) → List ℕ → List ℕ
transposed rows width xs = joined width (column rows width xs)

-- ---- a book of n records of w bytes and its columns, which are w rows of n bytes

abbrev pub to_columns : (w n : ℕ) → List ℕ → List ℕ
to_columns w n xs = transposed n w xs

abbrev pub from_columns : (w n : ℕ) → List ℕ → List ℕ
from_columns w n xs = transposed w n xs

-- the call, over the record size and one of the two: the refusals in the order 1, 2, 12; contents are not looked at
unfoldable pub columns_call : ℕ → (ℕ → ℕ → List ℕ → List ℕ) → (xs out : List ℕ) → BookAnswer × List ℕ
columns_call w f xs out =
    let n = length xs / w in
    records_call (list_tests w w (length xs) (length out)) n (λ i. 0) w (f w n xs) out
