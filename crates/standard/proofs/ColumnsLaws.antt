-- Rows and their columns: transposing with the sizes exchanged undoes it, and so do the calls.
use Rattle.standard.proofs.Prelude.{◌≡◌, refl, sym, ap, ◌∙◌, List, ◌++◌, ℕ, ◌+◌, ◌*◌, ◌/◌, ◌≤◌, ◌<◌, mul_comm, mul-le-mul_left}
use Rattle.standard.proofs.Prelude.{mul-div_cancel_left, length, drop, take_at, eq-eqb, le-leb}
use native.Mathlib.Nat.{mul-mod_right}
use Rattle.standard.specs.Bytes.{◌!◌}
use Rattle.standard.specs.Columns.{column, transposed, to_columns, from_columns, columns_call}
use Rattle.standard.specs.ColumnsFacts.{Undoes, ColumnsLaw}
use Rattle.standard.specs.Lists.{record_at, list_tests, records_call}
use Rattle.standard.specs.Refusals.{first}
use Rattle.standard.specs.Sizes.{most_records}
use Rattle.standard.proofs.AnswerLaws.{accepted}
use Rattle.standard.proofs.BookLaws.{joined_same, joined_length, joined_at, each_self}
use Rattle.standard.proofs.BytesLaws.{length_table, table_at, table_same}

module _ (rows width : ℕ) (xs : List ℕ) where
  pub column_length : (j : ℕ) → length (column rows width xs j) ≡ rows
  column_length j = length_table rows (λ i. xs ! (width * i + j))

  pub length_transposed : length (transposed rows width xs) ≡ rows * width
  unfolding transposed
  length_transposed = joined_length rows (column rows width xs) width (λ j h. column_length j)

  -- byte i of column j is byte j of row i
  column_at : (i j : ℕ) → i < rows → j < width → transposed rows width xs ! (rows * j + i) ≡ xs ! (width * i + j)
  unfolding transposed
  column_at i j h k =
      sym (table_at rows (λ r. transposed rows width xs ! (rows * j + r)) i h)
      ∙ ap (λ (c : List ℕ). c ! i) (joined_at rows (column rows width xs) width (λ l m. column_length l) j k)
      ∙ table_at rows (λ r. xs ! (width * r + j)) i h

  -- the columns of the columns are the rows
  pub transposed_back : length xs ≡ width * rows → transposed width rows (transposed rows width xs) ≡ xs
  unfolding transposed
  transposed_back e =
      joined_same rows (column width rows (transposed rows width xs)) (record_at width xs)
      (λ i h. table_same width (λ j. transposed rows width xs ! (rows * j + i)) (λ j. xs ! (width * i + j)) (λ j k. column_at i j h k))
      ∙ each_self rows width xs e

-- ---- the calls

-- a book of at most 1,024 records is taken where the output has room for it
call_accepts : (f : ℕ → ℕ → List ℕ → List ℕ) (w n : ℕ) → 0 < w → n ≤ most_records → (xs out : List ℕ) → length xs ≡ w * n → w * n ≤ length out
    → columns_call w f xs out ≡ (record { refusal = 0; index = n; written = w * n }, f w n xs ++ drop (w * n) out)
unfolding columns_call records_call
call_accepts f w n hw few xs out e room =
    let count : w * n / w ≡ n = mul-div_cancel_left n hw in
    let head : first (list_tests w w (length xs) (length out)) ≡ 0 =
    rw (e, count, le-leb _ _ (mul-le-mul_left w few), eq-eqb _ _ (mul-mod_right w n), le-leb _ _ room) in
    rw (accepted (first (list_tests w w (length xs) (length out))) (length xs / w) (λ i. 0) (w * (length xs / w)) head (λ i h. refl), e, count)

undoes : (f g : ℕ → ℕ → List ℕ → List ℕ) → ((w n : ℕ) (xs : List ℕ) → length (f w n xs) ≡ w * n)
    → ((w n : ℕ) (xs : List ℕ) → length xs ≡ w * n → g w n (f w n xs) ≡ xs) → Undoes f g
undoes f g long back = record {
  strings = λ w n hw xs e. back w n xs e;
  calls = λ w n hw few xs out home e room room'.
      let there = call_accepts f w n hw few xs out e room in
      rw (there, take_at (f w n xs) (drop (w * n) out) (w * n) (long w n xs), call_accepts g w n hw few (f w n xs) home (long w n xs) room', back w n xs e)
      (refl, refl);
}

pub columns_law : ColumnsLaw
columns_law = (
  undoes to_columns from_columns (λ w n xs. length_transposed n w xs ∙ mul_comm n w) (λ w n xs e. transposed_back n w xs e),
  undoes from_columns to_columns (λ w n xs. length_transposed w n xs) (λ w n xs e. transposed_back w n xs (e ∙ mul_comm w n)),
)
