-- Shuffled and joined books (02, 14), stated. The proofs are in proofs/ShuffleLaws.
use Rattle.std.specs.Prelude.{List, ◌++◌, ◌≡◌, ℕ, ◌+◌, ◌*◌, ◌/◌, ◌<◌, ◌≤◌, length, drop}
use Rattle.standard.specs.Books.{WellFormed, sealed_form, seal_book, open_book}
use Rattle.standard.specs.Bytes.{Bytes}
use Rattle.standard.specs.Lists.{record_at, joined}
use Rattle.standard.specs.Refusals.{book_too_long}
use Rattle.standard.specs.RunsFacts.{accepted_runs}
use Rattle.standard.specs.Sizes.{ring_size, plain_size, sealed_size, most_records}

-- ---- records in another order

-- a map of the indexes 0 to n - 1 to themselves that has an inverse there
pub record Reordering (n : ℕ) (π : ℕ → ℕ) : Type 0 where
  pub inverse : ℕ → ℕ
  pub within : (i : ℕ) → i < n → π i < n
  pub within_back : (i : ℕ) → i < n → inverse i < n
  pub back : (i : ℕ) → i < n → inverse (π i) ≡ i
  pub forth : (i : ℕ) → i < n → π (inverse i) ≡ i

-- n records of w bytes, of which record i is record π i of xs
abbrev pub reordered : (n w : ℕ) → (ℕ → ℕ) → List ℕ → List ℕ
reordered n w π xs = joined n (λ i. record_at w xs (π i))

-- of the ring r, a book p of n records, and a reordering π of them
pub record ShuffledBook (r p : List ℕ) (n : ℕ) (π : ℕ → ℕ) : Type 0 where
  pub formed : WellFormed (reordered n plain_size π p)
  -- its sealed form is p's with the records reordered alike
  pub form : sealed_form r (reordered n plain_size π p) ≡ reordered n sealed_size π (sealed_form r p)
  -- that is what sealing it writes, and nothing after it
  pub seals : (out : List ℕ) → sealed_size * n ≤ length out
      → seal_book r (reordered n plain_size π p) out
      ≡ (
        record { refusal = 0; index = n; written = sealed_size * n; runs = accepted_runs 2 n },
        reordered n sealed_size π (sealed_form r p) ++ drop (sealed_size * n) out,
      )
  -- opening that writes the reordered plain book and nothing after it
  pub opens : (out : List ℕ) → plain_size * n ≤ length out
      → open_book r (reordered n sealed_size π (sealed_form r p)) out
      ≡ (record { refusal = 0; index = n; written = plain_size * n; runs = accepted_runs 4 n }, reordered n plain_size π p ++ drop (plain_size * n) out)
  -- and the inverse brings the records back into their order
  pub undone : (ρ : Reordering n π) → reordered n plain_size ρ.inverse (reordered n plain_size π p) ≡ p

-- for every ring, every well-formed book and every reordering of its records
abbrev pub Shuffled : Type 0
Shuffled = (r : List ℕ) → Bytes ring_size r → (p : List ℕ) → WellFormed p
    → (π : ℕ → ℕ) → Reordering (length p / plain_size) π → ShuffledBook r p (length p / plain_size) π

-- ---- books joined

-- of the ring r, and books p and q that together have n records
pub record JoinedBooks (r p q : List ℕ) (n : ℕ) : Type 0 where
  pub formed : WellFormed (p ++ q)
  -- the joined book's sealed form is the two sealed forms joined
  pub form : sealed_form r (p ++ q) ≡ sealed_form r p ++ sealed_form r q
  -- that is what sealing it writes, and nothing after it
  pub seals : (out : List ℕ) → sealed_size * n ≤ length out
      → seal_book r (p ++ q) out
      ≡ (record { refusal = 0; index = n; written = sealed_size * n; runs = accepted_runs 2 n }, (sealed_form r p ++ sealed_form r q) ++ drop (sealed_size * n) out)
  -- opening that writes the joined plain book and nothing after it
  pub opens : (out : List ℕ) → plain_size * n ≤ length out
      → open_book r (sealed_form r p ++ sealed_form r q) out
      ≡ (record { refusal = 0; index = n; written = plain_size * n; runs = accepted_runs 4 n }, (p ++ q) ++ drop (plain_size * n) out)

-- for every ring and every two well-formed books that together have at most 1,024 records
abbrev pub BooksJoined : Type 0
BooksJoined = (r : List ℕ) → Bytes ring_size r → (p q : List ℕ) → WellFormed p → WellFormed q
    → length p / plain_size + length q / plain_size ≤ most_records → JoinedBooks r p q (length p / plain_size + length q / plain_size)

-- ---- where the two facts end

-- a map that takes one record twice is no reordering, and neither is one that leaves one out
pub record NoReordering : Type 0 where
  pub twice : (n : ℕ) (π : ℕ → ℕ) (i j : ℕ) → i < n → j < n → (i ≡ j → ⊥) → π i ≡ π j → Reordering n π → ⊥
  pub left_out : (n : ℕ) (π : ℕ → ℕ) (k : ℕ) → k < n → ((i : ℕ) → i < n → π i ≡ k → ⊥) → Reordering n π → ⊥

-- two well-formed books that together have more than 1,024 records are refused with 1 when they are joined, and so are their sealed forms
abbrev pub TooManyJoined : Type 0
TooManyJoined = (r : List ℕ) → Bytes ring_size r → (p q : List ℕ) → WellFormed p → WellFormed q
    → most_records < length p / plain_size + length q / plain_size → (out : List ℕ)
    → (seal_book r (p ++ q) out ≡ (record { refusal = book_too_long; index = 0; written = 0; runs = 0 }, out))
    × (open_book r (sealed_form r p ++ sealed_form r q) out ≡ (record { refusal = book_too_long; index = 0; written = 0; runs = 0 }, out))
