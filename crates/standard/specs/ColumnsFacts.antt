-- Books filed by column (02, 9): each of the two ways undoes the other, stated. The proofs are in proofs/ColumnsLaws.
use Rattle.std.specs.Prelude.{List, ◌++◌, ◌≡◌, ℕ, ◌*◌, ◌<◌, ◌≤◌, length, take, drop}
use Rattle.standard.specs.Columns.{to_columns, from_columns, columns_call}
use Rattle.standard.specs.Sizes.{most_records}
use Rattle.standard.specs.declared.BookAnswer.{BookAnswer}

-- g undoes f on every string of n records of w bytes, for every w above 0 and every n, 0 included
pub record Undoes (f g : ℕ → ℕ → List ℕ → List ℕ) : Type 0 where
  pub strings : (w n : ℕ) → 0 < w → (xs : List ℕ) → length xs ≡ w * n → g w n (f w n xs) ≡ xs
  -- in the terms of the calls, up to 1,024 records: what the call of f wrote, the call of g takes back to the book
  pub calls : (w n : ℕ) → 0 < w → n ≤ most_records
      → (xs out back : List ℕ) → length xs ≡ w * n → w * n ≤ length out → w * n ≤ length back
      → let accepted : BookAnswer = record { refusal = 0; index = n; written = w * n } in
      let there : BookAnswer × List ℕ = columns_call w f xs out in
      (there.0 ≡ accepted) × (columns_call w g (take there.0.written there.1) back ≡ (accepted, xs ++ drop (w * n) back))

abbrev pub ColumnsLaw : Type 0
ColumnsLaw = Undoes to_columns from_columns × Undoes from_columns to_columns
