-- Sentences about whole books (docs/ARGUMENT.md): under which rings they open, and what is noticed of their records.
use Rattle.std.specs.Prelude.{List, [], ◌++◌, ◌↔◌, ◌≡◌, ℕ, suc, ◌-◌, ◌*◌, ◌/◌, ◌%◌, ◌<◌, ◌≤◌, leb, ltb, length, drop}
use Rattle.standard.specs.Books.{open_fault, open_record, open_book}
use Rattle.standard.specs.Bytes.{◌!◌, part, choose, Bytes}
use Rattle.standard.specs.Lists.{record_at}
use Rattle.standard.specs.RunsFacts.{accepted_runs}
use Rattle.standard.specs.ShufflesFacts.{Reordering, reordered}
use Rattle.standard.specs.Sizes.{ring_size, plain_size, sealed_size, most_records}

-- the bytes s open under the ring r to the plain book p: into every output long enough opening writes p, and nothing after it
abbrev pub OpensTo : (r s p : List ℕ) → Type 0
OpensTo r s p = (out : List ℕ) → length p ≤ length out
    → open_book r s out
    ≡ (record { refusal = 0; index = length p / plain_size; written = length p; runs = accepted_runs 4 (length p / plain_size) }, p ++ drop (length p) out)

-- ---- a book and its ring

-- the ring r with d for its D
abbrev pub with_d : List ℕ → List ℕ → List ℕ
with_d d r = part 0 10 d ++ part 10 42 r

-- 1i: "A sealed book opens under one ring only." The empty book opens under every ring, and a book without a record of kind 1 opens with
-- any other D as it does with the ring's. Ring and book consist of bytes, as in `OneBook`
pub record ManyRings : Type 0 where
  pub empty : (r : List ℕ) → Bytes ring_size r → OpensTo r [] []
  pub other_d : (r d s p : List ℕ) → Bytes ring_size r → Bytes 10 d → ((i : ℕ) → s ! i < 256)
      → ((i : ℕ) → i < length s / sealed_size → record_at sealed_size s i ! 0 ≡ 1 → ⊥) → OpensTo r s p → OpensTo (with_d d r) s p

-- ---- a book and its records

-- 8b: "A book opens exactly if each of its records does alone, and each then opens to what it opens to alone." A book opens exactly if each
-- of its records does, by itself (`RecordAlone`); and of what opening writes, record i is what record i of the sealed book opens to. The
-- lengths are those that the call takes
pub record WithinABook : Type 0 where
  pub exactly : (r s out : List ℕ) → length r ≡ ring_size → length s ≤ sealed_size * most_records → length s % sealed_size ≡ 0
      → plain_size * (length s / sealed_size) ≤ length out
      → ((open_book r s out).0.refusal ≡ 0) ↔ ((i : ℕ) → i < length s / sealed_size → open_fault r (record_at sealed_size s i) ≡ 0)
  pub writes : (r s out : List ℕ) → (open_book r s out).0.refusal ≡ 0 → (i : ℕ) → i < length s / sealed_size
      → record_at plain_size (open_book r s out).1 i ≡ open_record r (record_at sealed_size s i)

-- 8c: "One bad record spoils only itself." The whole book is refused, and the output stays as it was
abbrev pub Spoiled : Type 0
Spoiled = (r s out : List ℕ) (i : ℕ) → i < length s / sealed_size → (open_fault r (record_at sealed_size s i) ≡ 0 → ⊥)
    → ((open_book r s out).0.refusal ≡ 0 → ⊥) × ((open_book r s out).0.written ≡ 0) × ((open_book r s out).1 ≡ out)

-- Of a book of n records that opens, records left out, taken twice or put in another order: it opens again, to the plain book with the same
-- done to it. `reordered n w π xs` has n records, of which record i is record π i of xs.

-- where record i comes from if record k is left out
abbrev pub skipping : ℕ → ℕ → ℕ
skipping k i = choose (ltb i k) i (suc i)

-- and if it stands twice, one after the other
abbrev pub repeating : ℕ → ℕ → ℕ
repeating k i = choose (leb i k) i (i - 1)

-- 8d: "A missing record is noticed." Said of one; again of the book that is left, and so of any
abbrev pub Missing : Type 0
Missing = (r s p : List ℕ) (n k : ℕ) → Bytes ring_size r → ((i : ℕ) → s ! i < 256) → length s ≡ sealed_size * suc n → k < suc n → OpensTo r s p
    → OpensTo r (reordered n sealed_size (skipping k) s) (reordered n plain_size (skipping k) p)

-- 8e: "A doubled record is noticed." As long as there are at most 1,024: more are refused with 1, doubled or not
abbrev pub Doubled : Type 0
Doubled = (r s p : List ℕ) (n k : ℕ) → Bytes ring_size r → ((i : ℕ) → s ! i < 256) → length s ≡ sealed_size * n → suc n ≤ most_records → k < n
    → OpensTo r s p → OpensTo r (reordered (suc n) sealed_size (repeating k) s) (reordered (suc n) plain_size (repeating k) p)

-- 8f: "A changed order of records is noticed."
abbrev pub OrderChanged : Type 0
OrderChanged = (r s p : List ℕ) (n : ℕ) (π : ℕ → ℕ) → Bytes ring_size r → ((i : ℕ) → s ! i < 256) → length s ≡ sealed_size * n → Reordering n π
    → OpensTo r s p → OpensTo r (reordered n sealed_size π s) (reordered n plain_size π p)
