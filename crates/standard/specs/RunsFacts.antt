-- How many cipher runs the book calls take (02, 8), stated. The proofs are in proofs/RunLaws.
use Rattle.std.specs.Prelude.{List, ◌≡◌, ℕ, ◌+◌, ◌*◌, ◌/◌, ◌≤◌, eqb, length}
use Rattle.standard.specs.Books.{seal_book, open_book}
use Rattle.standard.specs.Bytes.{choose}
use Rattle.standard.specs.Refusals.{wrong_kind, flag_set}
use Rattle.standard.specs.Sizes.{plain_size, sealed_size}
use Rattle.standard.specs.declared.CountedAnswer.{CountedAnswer}

-- An accepted book of n records that takes k runs for each of them, and one for the identity strings; the empty book takes none.
abbrev pub accepted_runs : (k n : ℕ) → ℕ
accepted_runs k n = choose (eqb n 0) 0 (1 + k * n)

-- sealing n records: 1 + 2n if they are accepted, 0 if n is 0 or the book is refused; never more than 1 + 2n
pub record SealRuns : Type 0 where
  pub accepted : (r p out : List ℕ) → (seal_book r p out).0.refusal ≡ 0 → (seal_book r p out).0.runs ≡ accepted_runs 2 (length p / plain_size)
  pub refused : (r p out : List ℕ) → ((seal_book r p out).0.refusal ≡ 0 → ⊥) → (seal_book r p out).0.runs ≡ 0
  pub most : (r p out : List ℕ) → (seal_book r p out).0.runs ≤ 1 + 2 * (length p / plain_size)

-- opening n records: 1 + 4n if they are accepted, 0 if n is 0; never more than 1 + 4n
pub record OpenRuns : Type 0 where
  pub accepted : (r s out : List ℕ) → (open_book r s out).0.refusal ≡ 0 → (open_book r s out).0.runs ≡ accepted_runs 4 (length s / sealed_size)
  pub most : (r s out : List ℕ) → (open_book r s out).0.runs ≤ 1 + 4 * (length s / sealed_size)

-- a refused opening: two for each record as far as the one whose flag was set, two for each record before one of an unknown kind, and none
-- if it was refused for another reason
pub record RefusedRuns : Type 0 where
  pub flag : (r s out : List ℕ) → let a : CountedAnswer = (open_book r s out).0 in a.refusal ≡ flag_set → a.runs ≡ 2 * (a.index + 1)
  pub kind : (r s out : List ℕ) → let a : CountedAnswer = (open_book r s out).0 in a.refusal ≡ wrong_kind → a.runs ≡ 2 * a.index
  pub other : (r s out : List ℕ) → let a : CountedAnswer = (open_book r s out).0 in
      (a.refusal ≡ 0 → ⊥) → (a.refusal ≡ flag_set → ⊥) → (a.refusal ≡ wrong_kind → ⊥) → a.runs ≡ 0
