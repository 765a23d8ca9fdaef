-- How a book call returns.
use Rattle.standard.proofs.Prelude.{◌≡◌, ap, ap₂, ◌∙◌, Bool, true, false, List, ◌∷◌, ◌++◌, ℕ, ◌+◌, ◌*◌, ◌/◌, ◌≤◌, arith, eqb, length, drop, eq-eqb, ne_eqb, eqb-false}
use Rattle.std.specs.Prelude.{Ok, Err}
use Rattle.lists.proofs.ListReturnLaws.{stopped_first, call_refused, call_stopped, call_done}
use Rattle.lists.specs.Walks.{Clean, FirstFault}
use Rattle.standard.proofs.AnswerLaws.{no_fault}
use Rattle.standard.proofs.RefusalLaws.{not_zero, taken}
use Rattle.standard.specs.Answers.{refusal_number, refused_by, exactly, counted_answer}
use Rattle.standard.specs.Books.{counted, book_call}
use Rattle.standard.specs.Bytes.{choose}
use Rattle.standard.specs.Lists.{each, list_tests}
use Rattle.standard.specs.Refusals.{wrong_length, has_length, first}
use Rattle.standard.specs.Runs.{first_pass, second_pass, call_runs}
use Rattle.standard.specs.Sizes.{ring_size}
use Rattle.standard.specs.declared.CountedAnswer.{CountedAnswer}
use Rattle.standard.specs.declared.Refusal.{Refusal}
use Rattle.standard.specs.declared.Refusal.TheVariants.{WrongLength}
use Rattle.books.specs.BothDirections.{size_of, output_size_of, record_of, conversion_of, fault_at, inspection_at}
use Rattle.books.specs.declared.direction.Direction.{Direction}

-- ---- the cipher runs

module _ (head n : ℕ) (g l : ℕ → ℕ) where
  runs_refused : (refusal : Refusal) → refusal_number refusal ≡ head → 0 ≡ call_runs head n g l
  runs_refused refusal e = rw (← e, not_zero refusal)

  runs_stopped : 0 ≡ head → {refusal : Refusal} {index : ℕ} → FirstFault n g refusal index → first_pass n g l ≡ call_runs head n g l
  runs_stopped z {refusal} {index} s =
      let other : index ≡ n → ⊥ = λ e. omega (arith, s.within) in
      rw (← z, ← stopped_first n g s, ne_eqb index n other) (omega arith)

  runs_done : 0 ≡ head → Clean g n → first_pass n g l + second_pass n ≡ call_runs head n g l
  runs_done z none = rw (← z, eq-eqb _ _ (no_fault n g none))

pub second_most : (n : ℕ) → second_pass n ≤ 1 + 2 * n
second_most n = go (eqb n 0)
  where
    go : (t : Bool) → choose t 0 1 + 2 * n ≤ 1 + 2 * n
    go true = omega arith
    go false = omega arith

-- ---- the answer, the output and the runs: the tests are the ring's length, and then those of the lengths

module _ (r : List ℕ) (d : Direction) (xs out : List ℕ) where
  abbrev n : ℕ
  n = length xs / size_of d

  abbrev lengths : List (Bool × ℕ)
  lengths = list_tests (size_of d) (output_size_of d) (length xs) (length out)

  abbrev tests : List (Bool × ℕ)
  tests = (has_length ring_size r, wrong_length) ∷ lengths

  abbrev Answers : CountedAnswer × List ℕ → Type 0
  Answers a = a ≡ book_call (conversion_of r d) r xs out

  abbrev made : List ℕ
  made = each n (size_of d) (record_of r d) xs

  refused : (refusal : Refusal) → refusal_number refusal ≡ first tests
      → Answers (counted_answer (Err (record { refusal = refusal; index = 0; runs = 0 })), out)
  unfolding book_call
  refused refusal e =
      ap₂ counted (call_refused tests n (fault_at r d xs) (output_size_of d) made out refusal e)
      (runs_refused (first tests) n (fault_at r d xs) (inspection_at d xs) refusal e)

  pub ring_refused : {refusal : Refusal} → Err refusal ≡ exactly ring_size r
      → Answers (counted_answer (Err (record { refusal = refusal; index = 0; runs = 0 })), out)
  ring_refused {refusal} e = refused refusal (go (has_length ring_size r) (ap refused_by e))
    where
      go : (t : Bool) → refusal_number refusal ≡ refused_by (choose t (Ok r) (Err WrongLength)) → refusal_number refusal ≡ choose t (first lengths) wrong_length
      go true h = absurd (eqb-false _ _ (not_zero refusal) h)
      go false h = h

  module _ {ring : List ℕ} (e : Ok ring ≡ exactly ring_size r) where
    tested : {refusal : ℕ} → refusal ≡ first lengths → refusal ≡ first tests
    tested h = rw (taken ring_size r e).0 h

    pub lengths_refused : (refusal : Refusal) → refusal_number refusal ≡ first lengths
        → Answers (counted_answer (Err (record { refusal = refusal; index = 0; runs = 0 })), out)
    lengths_refused refusal h = refused refusal (tested h)

    module _ {records : ℕ} (q : records ≡ n) (z : 0 ≡ first lengths) where
      pub record_refused : {refusal : Refusal} {index runs : ℕ} → FirstFault records (fault_at ring d xs) refusal index
          → runs ≡ first_pass records (fault_at ring d xs) (inspection_at d xs)
          → Answers (counted_answer (Err (record { refusal = refusal; index = index; runs = runs })), out)
      unfolding book_call
      record_refused {refusal} {index} s p =
          let g = fault_at r d xs in
          let s' : FirstFault n g refusal index = rw ((taken ring_size r e).1, q) at s in
          ap₂ counted (call_stopped tests n g (output_size_of d) made out (tested z) refusal index s')
          (rw ((taken ring_size r e).1, q) at p ∙ runs_stopped (first tests) n g (inspection_at d xs) (tested z) s')

      pub written : Clean (fault_at ring d xs) records
          → {inspections writes : ℕ} → inspections ≡ first_pass records (fault_at ring d xs) (inspection_at d xs) → writes ≡ second_pass records
          → {exit : List ℕ} → exit ≡ each records (size_of d) (record_of ring d) xs ++ drop (output_size_of d * records) out
          → Answers (counted_answer (Ok (record { records = records; bytes = output_size_of d * records; runs = inspections + writes })), exit)
      unfolding book_call
      written none p w x =
          rw (x, p, w, (taken ring_size r e).1, q)
          (ap₂ counted (call_done tests n (fault_at r d xs) (output_size_of d) made out (tested z) (rw ((taken ring_size r e).1, q) at none))
          (runs_done (first tests) n (fault_at r d xs) (inspection_at d xs) (tested z) (rw ((taken ring_size r e).1, q) at none)))
