-- Demand 3, stated; and two facts on the checks: opening by 01's flag (02, 6), and plainlist's (01). The proofs are in proofs/Demand3Laws
-- and proofs/FactLaws.
use Rattle.std.specs.Prelude.{List, [], ◌∷◌, ◌++◌, ◌↔◌, ◌≡◌, ℕ, ◌*◌, ◌/◌, ◌<◌, ◌≤◌, length, drop}
use Rattle.standard.specs.Books.{WellFormed, sealed_form, seal_book, open_book, is_known, record_kind, sealing_key, open_record, inspection_runs}
use Rattle.standard.specs.Books.{book_call, check_plain}
use Rattle.standard.specs.Bytes.{◌!◌, Bytes, part}
use Rattle.standard.specs.Refusals.{wrong_kind, flag_set, first}
use Rattle.standard.specs.RunsFacts.{accepted_runs}
use Rattle.standard.specs.Seals.{kind_of, form, opened}
use Rattle.standard.specs.SealsFacts.{flag_clear}
use Rattle.standard.specs.Sizes.{ring_size, plain_size, sealed_size}
use Rattle.standard.specs.declared.Kind.{Kind}

-- s is the sealed form, under the ring r, of the well-formed plain book p
pub record IsSealedForm (r p s : List ℕ) : Type 0 where
  pub formed : WellFormed p
  pub is : sealed_form r p ≡ s

-- of the ring r, the bytes s handed in as a sealed book, and the output
pub record Demand3 (r s out : List ℕ) : Type 0 where
  -- they open exactly if sealing makes them of some well-formed plain book
  pub opens : ((open_book r s out).0.refusal ≡ 0) ↔ ((p : List ℕ) × IsSealedForm r p s)
  -- then of one such book and no other
  pub unique : (p q : List ℕ) → IsSealedForm r p s → IsSealedForm r q s → p ≡ q
  -- opening writes that book and nothing after it
  pub writes : (p : List ℕ) → IsSealedForm r p s
      → open_book r s out
      ≡ (record { refusal = 0; index = length p / plain_size; written = length p; runs = accepted_runs 4 (length p / plain_size) }, p ++ drop (length p) out)
  -- sealing that book under the same ring, into any output long enough, writes those bytes again and nothing after them
  pub back : (p : List ℕ) → IsSealedForm r p s → (out' : List ℕ) → sealed_size * (length p / plain_size) ≤ length out'
      → seal_book r p out'
      ≡ (record { refusal = 0; index = length p / plain_size; written = length s; runs = accepted_runs 2 (length p / plain_size) }, s ++ drop (length s) out')
  -- all other bytes are refused and the output stays as it was
  pub refuses : (((p : List ℕ) × IsSealedForm r p s) → ⊥)
      → ((open_book r s out).0.refusal ≡ 0 → ⊥) × ((open_book r s out).0.written ≡ 0) × ((open_book r s out).1 ≡ out)

-- for every ring, whatever bytes are handed in, and every output long enough: a plain record for each whole one
abbrev pub Demand3Holds : Type 0
Demand3Holds =
    (r : List ℕ) → Bytes ring_size r → (s : List ℕ) → ((i : ℕ) → s ! i < 256)
    → (out : List ℕ) → plain_size * (length s / sealed_size) ≤ length out → Demand3 r s out

-- ---- the checks

-- the refusal of a sealed record by 01's flag: 3, then 6; or 0
abbrev pub flag_fault : List ℕ → List ℕ → ℕ
flag_fault r t =
    let k : Kind = record_kind t in
    first ((is_known (kind_of (t ! 0)), wrong_kind) ∷ (flag_clear k.algorithm (opened ((form k).key (sealing_key k r) (part 4 2 t)) (part 6 15 t)), flag_set) ∷ [])

-- by 01's flag every book gets the same answer: it opens, or is refused, with the same number and index
abbrev pub SameBooks : Type 0
SameBooks = (r s out : List ℕ)
    → open_book r s out
    ≡ book_call (record { size = sealed_size; output_size = plain_size; fault = flag_fault r; inspection = inspection_runs; convert = open_record r }) r s out

-- sealing's, but for 11 and 12: for every ring of 52 bytes and every output long enough, sealing a book and checking it give the same
-- refusal and index
abbrev pub SameChecks : Type 0
SameChecks = (r p out : List ℕ) → length r ≡ ring_size → sealed_size * (length p / plain_size) ≤ length out
    → ((seal_book r p out).0.refusal ≡ (check_plain p).refusal) × ((seal_book r p out).0.index ≡ (check_plain p).index)
