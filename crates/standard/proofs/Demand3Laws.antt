-- Demand 3, proved: for every ring of its size, all bytes of any length and every output long enough.
use Rattle.standard.proofs.Prelude.{◌≡◌, refl, sym, ap, ◌∙◌, ◌↔◌, List, ◌++◌, ℕ, ◌*◌, ◌/◌, ◌≤◌, ◌<◌, arith, eqb, length, take, drop, take_at}
use Rattle.standard.proofs.Prelude.{eq-eqb, le-leb}
use Rattle.standard.specs.Books.{plain_fault, seal_record, open_fault, open_record, WellFormed, sealed_form}
use Rattle.standard.specs.Books.{sealing, opening, seal_book, open_book, check_plain}
use Rattle.standard.specs.Bytes.{◌!◌, Bytes}
use Rattle.standard.specs.BooksFacts.{IsSealedForm, Demand3, Demand3Holds}
use Rattle.standard.specs.Lists.{each, length_tests}
use Rattle.standard.specs.Refusals.{first}
use Rattle.standard.specs.RunsFacts.{accepted_runs}
use Rattle.standard.specs.Sizes.{ring_size, plain_size, sealed_size}
use Rattle.standard.specs.declared.BookAnswer.{BookAnswer}
use Rattle.standard.specs.declared.CountedAnswer.{CountedAnswer}
use Rattle.standard.proofs.AnswerLaws.{is_accepted, accepted, lengths_fine, book_of, few_of, whole_of, good_of}
use Rattle.standard.proofs.AnswerLaws.{call_lengths, call_book, call_accepts, call_refuses}
use Rattle.standard.proofs.BookLaws.{Book, books, mapped_length}
use Rattle.standard.proofs.InverseLaws.{Inverse, is_image, of_one, reversed}
use Rattle.standard.proofs.RecordLaws.{record_law}
use Rattle.standard.proofs.RunLaws.{inspection_clear}

abbrev PlainBook : List ℕ → Type 0
PlainBook = Book plain_size (λ p. eqb (plain_fault p) 0)

abbrev SealedBook : List ℕ → List ℕ → Type 0
SealedBook r = Book sealed_size (λ t. eqb (open_fault r t) 0)

-- a well-formed plain book, in the terms of the laws
pub book : {p : List ℕ} → WellFormed p → PlainBook p
book {p} w = book_of plain_size plain_fault p w.bytes w.short w.whole w.legal

pub well_formed : {p : List ℕ} → PlainBook p → WellFormed p
well_formed {p} b = record {
  bytes = b.bytes.bound;
  short = few_of plain_size plain_fault p b;
  whole = whole_of plain_size plain_fault p b;
  legal = good_of plain_size plain_fault p b;
}

opening_lengths : (r s plain : List ℕ) → (open_book r s plain).0.refusal ≡ 0 → (length r ≡ ring_size) × (plain_size * (length s / sealed_size) ≤ length plain)
unfolding open_book
opening_lengths r s plain e = call_lengths (opening r) r s plain e

module _ (r : List ℕ) (hr : Bytes ring_size r) where
  -- the sealed form and what opening writes are inverse
  pub book_law : Inverse PlainBook (SealedBook r)
      (λ p. each (length p / plain_size) plain_size (seal_record r) p)
      (λ s. each (length s / sealed_size) sealed_size (open_record r) s)
  book_law = books (omega arith) (omega arith) (record_law r hr)

  module _ (s : List ℕ) (bs : (i : ℕ) → s ! i < 256) where
    sealed_book : (p : List ℕ) → IsSealedForm r p s → SealedBook r s
    unfolding sealed_form
    sealed_book p q = (is_image book_law s).1 (p, book q.formed, q.is)

    -- the book is what opening writes
    opened : (p : List ℕ) → IsSealedForm r p s → p ≡ each (length s / sealed_size) sealed_size (open_record r) s
    unfolding sealed_form
    opened p q = of_one book_law p s (book q.formed) q.is

    from_sealed : SealedBook r s → (p : List ℕ) × IsSealedForm r p s
    unfolding sealed_form
    from_sealed b = let i = (is_image book_law s).0 b in (i.0, record { formed = well_formed i.1; is = i.2 })

    plain_length : (p : List ℕ) → IsSealedForm r p s → length p ≡ plain_size * (length s / sealed_size)
    plain_length p q = ap length (opened p q) ∙ mapped_length (omega arith) (omega arith) (reversed (record_law r hr)) s (sealed_book p q)

    sealed_length : (p : List ℕ) → IsSealedForm r p s → length s ≡ sealed_size * (length p / plain_size)
    unfolding sealed_form
    sealed_length p q = ap length (sym q.is) ∙ mapped_length (omega arith) (omega arith) (record_law r hr) p (book q.formed)

    module _ (out : List ℕ) (room : plain_size * (length s / sealed_size) ≤ length out) where
      accepts : SealedBook r s
          → let n = length s / sealed_size in
          open_book r s out
          ≡ (
            record { refusal = 0; index = n; written = plain_size * n; runs = accepted_runs 4 n },
            each n sealed_size (open_record r) s ++ drop (plain_size * n) out,
          )
      unfolding open_book
      accepts b = call_accepts (opening r) r s out bs 2 (inspection_clear r) hr.len room b

      opens : ((open_book r s out).0.refusal ≡ 0) ↔ ((p : List ℕ) × IsSealedForm r p s)
      unfolding open_book
      opens = (
        λ e. from_sealed (call_book (opening r) r s out bs e),
        λ q. ap (λ (a : CountedAnswer × List ℕ). a.0.refusal) (accepts (sealed_book q.0 q.1)),
      )

      writes : (p : List ℕ) → IsSealedForm r p s
          → open_book r s out
          ≡ (record { refusal = 0; index = length p / plain_size; written = length p; runs = accepted_runs 4 (length p / plain_size) }, p ++ drop (length p) out)
      writes p q =
          let l = plain_length p q in
          let n : length p / plain_size ≡ length s / sealed_size = omega arith in
          rw (n, l) (accepts (sealed_book p q) ∙ rw (← opened p q))

      back : (p : List ℕ) → IsSealedForm r p s → (out' : List ℕ) → sealed_size * (length p / plain_size) ≤ length out'
          → seal_book r p out'
          ≡ (record { refusal = 0; index = length p / plain_size; written = length s; runs = accepted_runs 2 (length p / plain_size) }, s ++ drop (length s) out')
      unfolding seal_book sealed_form
      back p q out' h =
          let l = sealed_length p q in
          call_accepts (sealing r) r p out' q.formed.bytes 0 (λ x e. refl) hr.len h (book q.formed) ∙ rw (q.is, ← l)

      refuses : (((p : List ℕ) × IsSealedForm r p s) → ⊥)
          → ((open_book r s out).0.refusal ≡ 0 → ⊥) × ((open_book r s out).0.written ≡ 0) × ((open_book r s out).1 ≡ out)
      unfolding open_book
      refuses none =
          let shut : (open_book r s out).0.refusal ≡ 0 → ⊥ = λ e. none (opens.0 e) in
          let k = call_refuses (opening r) r s out shut in
          (shut, k.0, k.1)

      all : Demand3 r s out
      all = record {
        opens = opens;
        unique = λ p q hp hq. opened p hp ∙ sym (opened q hq);
        writes = writes;
        back = back;
        refuses = refuses;
      }

pub demand3 : Demand3Holds
demand3 r hr s bs out room = all r hr s bs out room

-- ---- a book that opens, sealed again from what opening wrote, comes back byte for byte

pub comes_back : (r s plain out : List ℕ) → ((i : ℕ) → r ! i < 256) → ((i : ℕ) → s ! i < 256) → (open_book r s plain).0.refusal ≡ 0 → length s ≤ length out
    → (seal_book r (take (open_book r s plain).0.written (open_book r s plain).1) out).1 ≡ s ++ drop (length s) out
comes_back r s plain out br bs e h =
    let l = opening_lengths r s plain e in
    let hr : Bytes ring_size r = record { len = l.0; bound = br } in
    let d = demand3 r hr s bs plain l.1 in
    let q = d.opens.0 e in
    let p = q.0 in
    let room : sealed_size * (length p / plain_size) ≤ length out = omega (arith, sealed_length r hr s bs p q.1, h) in
    rw (d.writes p q.1, take_at p (drop (length p) plain) (length p) refl, d.back p q.1 out room)

-- ---- the checks answer 0 exactly for the well-formed plain books, and so does sealing into an output long enough

pub checks_exactly : (p : List ℕ) → ((i : ℕ) → p ! i < 256) → ((check_plain p).refusal ≡ 0) ↔ WellFormed p
unfolding check_plain
checks_exactly p b = (
  λ e.
      let a = is_accepted _ _ _ _ e in
      let l = lengths_fine plain_size plain_fault p a.0 in
      record { bytes = b; short = l.0; whole = l.1; legal = a.1 },
  λ w.
      let head : first (length_tests plain_size (length p)) ≡ 0 = rw (le-leb _ _ w.short, eq-eqb _ _ w.whole) in
      ap (λ (a : BookAnswer). a.refusal) (accepted _ _ _ _ head w.legal),
)

pub seals_exactly : (r p out : List ℕ) → length r ≡ ring_size → ((i : ℕ) → p ! i < 256) → sealed_size * (length p / plain_size) ≤ length out
    → ((seal_book r p out).0.refusal ≡ 0) ↔ WellFormed p
unfolding seal_book
seals_exactly r p out hr b room = (
  λ e. well_formed (call_book (sealing r) r p out b e),
  λ w. ap (λ (a : CountedAnswer × List ℕ). a.0.refusal) (call_accepts (sealing r) r p out b 0 (λ x e. refl) hr room (book w)),
)
