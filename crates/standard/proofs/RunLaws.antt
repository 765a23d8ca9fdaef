-- How many cipher runs the book calls take (02, 8).
use Rattle.standard.proofs.Prelude.{◌≡◌, refl, sym, ap, ◌∙◌, Bool, true, false, ◌⊎◌, inl, inr, List, [], ◌∷◌, ℕ, ◌+◌, ◌*◌, ◌≤◌, ◌<◌, add-mul}
use Rattle.standard.proofs.Prelude.{arith, eqb, eqb-true, eqb-false}
use Rattle.standard.specs.Books.{Conversion, sealing, opening, sealing_key, is_known, record_kind, open_fault, inspection_runs, book_call, seal_book, open_book}
use Rattle.standard.specs.Bytes.{◌!◌, part, choose}
use Rattle.standard.specs.Lists.{record_at, first_fault, refused, answer, records_call}
use Rattle.standard.specs.Refusals.{wrong_kind, flag_set, first}
use Rattle.standard.specs.RunsFacts.{SealRuns, OpenRuns, RefusedRuns}
use Rattle.standard.specs.Runs.{text_runs, first_pass, second_pass, call_runs}
use Rattle.standard.specs.RunsFacts.{accepted_runs}
use Rattle.standard.specs.Seals.{kind_of, form, clears}
use Rattle.standard.specs.Sizes.{sealed_size}
use Rattle.standard.specs.declared.BookAnswer.{BookAnswer}
use Rattle.standard.specs.declared.CountedAnswer.{CountedAnswer}
use Rattle.standard.proofs.AnswerLaws.{IsFirst, first_fault_lem, pass_stopped, pass_clean, pass_most, passes, n, g, l, tests}
use Rattle.standard.proofs.FirstLaws.{lacks, not_first}

-- ---- the ends of a call: its tests refuse, a record is refused, or nothing is

record Shut (head refusal runs : ℕ) : Type 0 where
  some : head ≡ 0 → ⊥
  is : refusal ≡ head
  took : runs ≡ 0

record Stopped (n : ℕ) (g l : ℕ → ℕ) (refusal index runs : ℕ) : Type 0 where
  some : refusal ≡ 0 → ⊥
  is : refusal ≡ g index
  below : (j : ℕ) → j < index → g j ≡ 0
  took : runs ≡ first_pass index g l + l index

record Done (n : ℕ) (g l : ℕ → ℕ) (refusal runs : ℕ) : Type 0 where
  none : (j : ℕ) → j < n → g j ≡ 0
  is : refusal ≡ 0
  took : runs ≡ first_pass n g l + second_pass n

module _ (head n : ℕ) (g l : ℕ → ℕ) (bytes : ℕ) where
  abbrev Ends : BookAnswer → ℕ → Type 0
  Ends a runs = Shut head a.refusal runs ⊎ (Stopped n g l a.refusal a.index runs ⊎ Done n g l a.refusal runs)

  ends : Ends (answer head n g bytes) (call_runs head n g l)
  unfolding answer
  ends = outer (eqb head 0) refl
    where
      inner : {f : ℕ} → IsFirst n g f → (t : Bool) → eqb f n ≡ t
          → Ends (choose t (record { refusal = 0; index = n; written = bytes }) (refused (g f) f)) (first_pass n g l + choose t (second_pass n) 0)
      inner {f} p true e = inr (inr (record { none = λ j h. p.below j (omega (arith, eqb-true f n e)); is = refl; took = refl }))
      inner {f} p false e = inr (inl (record { some = p.stop short; is = refl; below = p.below; took = took }))
        where
          short : f < n
          short = omega (arith, p.within, eqb-false f n e)

          took : first_pass n g l + 0 ≡ first_pass f g l + l f
          took = omega (arith, pass_stopped g l n f short p.below (p.stop short))

      outer : (t : Bool) → eqb head 0 ≡ t
          → let i = first_fault n g in
          Ends (choose t (choose (eqb i n) (record { refusal = 0; index = n; written = bytes }) (refused (g i) i)) (refused head 0))
          (choose t (first_pass n g l + choose (eqb i n) (second_pass n) 0) 0)
      outer true e = inner (first_fault_lem n g) (eqb (first_fault n g) n) refl
      outer false e = inl (record { some = eqb-false head 0 e; is = refl; took = refl })

-- ---- an inspection of a sealed record

-- by whether its kind is known and its check clear
abbrev Inspected : (fault inspection : ℕ) → Type 0
Inspected fault inspection =
    ((fault ≡ 0) × (inspection ≡ 2)) ⊎ (((fault ≡ flag_set) × (inspection ≡ 2)) ⊎ ((fault ≡ wrong_kind) × (inspection ≡ 0)))

inspected : (r t : List ℕ) → Inspected (open_fault r t) (inspection_runs t)
unfolding open_fault inspection_runs
inspected r t = go (is_known (kind_of (t ! 0))) (clears (form (record_kind t)) (sealing_key (record_kind t) r) (part 4 2 t) (part 6 15 t))
  where
    go : (known clear : Bool) → Inspected (first ((known, wrong_kind) ∷ (clear, flag_set) ∷ [])) (choose known text_runs 0)
    go true true = inl (refl, refl)
    go true false = inr (inl (refl, refl))
    go false clear = inr (inr (refl, refl))

pub inspection_clear : (r t : List ℕ) → open_fault r t ≡ 0 → inspection_runs t ≡ 2
inspection_clear r t e = go (inspected r t)
  where
    go : Inspected (open_fault r t) (inspection_runs t) → inspection_runs t ≡ 2
    go (inl a) = a.1
    go (inr (inl a)) = a.1
    go (inr (inr a)) = absurd (omega (arith, e, a.0))

pub inspection_most : (t : List ℕ) → inspection_runs t ≤ 2
unfolding inspection_runs
inspection_most t = go (is_known (kind_of (t ! 0)))
  where
    go : (known : Bool) → choose known text_runs 0 ≤ 2
    go true = omega arith
    go false = omega arith

-- ---- a call, either way

module _ (C : Conversion) (r xs out : List ℕ) where
  abbrev refusal_of : ℕ
  refusal_of = (book_call C r xs out).0.refusal

  abbrev index_of : ℕ
  index_of = (book_call C r xs out).0.index

  abbrev runs_of : ℕ
  runs_of = (book_call C r xs out).0.runs

  abbrev CallEnds : Type 0
  CallEnds =
      Shut (first (tests C r xs out)) refusal_of runs_of
      ⊎ (Stopped (n C r xs out) (g C r xs out) (l C r xs out) refusal_of index_of runs_of ⊎ Done (n C r xs out) (g C r xs out) (l C r xs out) refusal_of runs_of)

  call_ends : CallEnds
  unfolding book_call records_call
  call_ends = ends (first (tests C r xs out)) (n C r xs out) (g C r xs out) (l C r xs out) (C.output_size * n C r xs out)

  -- where an inspection of a record without a fault takes c runs
  module _ (c : ℕ) (inspection : (x : List ℕ) → C.fault x ≡ 0 → C.inspection x ≡ c) where
    accepted_runs_lem : refusal_of ≡ 0 → runs_of ≡ accepted_runs (c + 2) (n C r xs out)
    accepted_runs_lem e = go call_ends
      where
        go : CallEnds → runs_of ≡ accepted_runs (c + 2) (n C r xs out)
        go (inl h) = absurd (h.some (sym h.is ∙ e))
        go (inr (inl h)) = absurd (h.some e)
        go (inr (inr h)) =
            h.took ∙ ap (λ (k : ℕ). k + second_pass (n C r xs out)) (pass_clean _ _ c _ h.none (λ j k. inspection _ (h.none j k))) ∙ passes c (n C r xs out)

    stopped_runs : Stopped (n C r xs out) (g C r xs out) (l C r xs out) refusal_of index_of runs_of → runs_of ≡ c * index_of + l C r xs out index_of
    stopped_runs h =
        h.took ∙ ap (λ (k : ℕ). k + l C r xs out index_of) (pass_clean _ _ c index_of h.below (λ j k. inspection _ (h.below j k)))

  -- where no inspection takes more than c
  most_runs : (c : ℕ) → ((x : List ℕ) → C.inspection x ≤ c) → runs_of ≤ 1 + (c + 2) * n C r xs out
  unfolding book_call records_call
  most_runs c inspection = go (eqb (first (tests C r xs out)) 0) (eqb (first_fault (n C r xs out) (g C r xs out)) (n C r xs out)) (eqb (n C r xs out) 0)
    where
      first_most : first_pass (n C r xs out) (g C r xs out) (l C r xs out) ≤ c * n C r xs out
      first_most = pass_most (g C r xs out) (l C r xs out) c (n C r xs out) (λ j. inspection _)

      go : (s t u : Bool)
          → choose s (first_pass (n C r xs out) (g C r xs out) (l C r xs out) + choose t (choose u 0 1 + 2 * n C r xs out) 0) 0 ≤ 1 + (c + 2) * n C r xs out
      go false t u = omega arith
      go true false u = rw add-mul (omega (arith, first_most))
      go true true true = rw add-mul (omega (arith, first_most))
      go true true false = rw add-mul (omega (arith, first_most))

-- ---- the facts

pub seal_runs : SealRuns
unfolding seal_book
seal_runs = record {
  accepted = λ r p out. accepted_runs_lem (sealing r) r p out 0 (λ x e. refl);
  refused = λ r p out z. go r p out z (call_ends (sealing r) r p out);
  most = λ r p out. most_runs (sealing r) r p out 0 (λ x. omega arith);
}
  where
    go : (r p out : List ℕ) → (refusal_of (sealing r) r p out ≡ 0 → ⊥) → CallEnds (sealing r) r p out → runs_of (sealing r) r p out ≡ 0
    go r p out z (inl h) = h.took
    go r p out z (inr (inl h)) = omega (arith, stopped_runs (sealing r) r p out 0 (λ x e. refl) h)
    go r p out z (inr (inr h)) = absurd (z h.is)

pub open_runs : OpenRuns
unfolding open_book
open_runs = record {
  accepted = λ r s out. accepted_runs_lem (opening r) r s out 2 (inspection_clear r);
  most = λ r s out. most_runs (opening r) r s out 2 inspection_most;
}

module _ (r s out : List ℕ) where
  abbrev a : CountedAnswer
  a = (book_call (opening r) r s out).0

  abbrev fault : ℕ
  fault = open_fault r (record_at sealed_size s a.index)

  abbrev inspection : ℕ
  inspection = inspection_runs (record_at sealed_size s a.index)

  -- a refusal that no test of the lengths gives is that of the record at the index
  refused_at_lem : (k : ℕ) → lacks k (tests (opening r) r s out) ≡ true → (k ≡ 0 → ⊥) → a.refusal ≡ k → (fault ≡ k) × (a.runs ≡ 2 * a.index + inspection)
  refused_at_lem k h some e = go (call_ends (opening r) r s out)
    where
      go : CallEnds (opening r) r s out → (fault ≡ k) × (a.runs ≡ 2 * a.index + inspection)
      go (inl q) = absurd (not_first k (tests (opening r) r s out) h (sym q.is ∙ e))
      go (inr (inl q)) = (sym q.is ∙ e, stopped_runs (opening r) r s out 2 (inspection_clear r) q)
      go (inr (inr q)) = absurd (some (sym e ∙ q.is))

  flag : a.refusal ≡ flag_set → a.runs ≡ 2 * (a.index + 1)
  flag e = let f = refused_at_lem flag_set refl (λ z. omega arith) e in go f (inspected r _)
    where
      go : (fault ≡ flag_set) × (a.runs ≡ 2 * a.index + inspection) → Inspected fault inspection → a.runs ≡ 2 * (a.index + 1)
      go f (inl q) = omega (arith, f.0, q.0)
      go f (inr (inl q)) = omega (arith, f.1, q.1)
      go f (inr (inr q)) = omega (arith, f.0, q.0)

  kind : a.refusal ≡ wrong_kind → a.runs ≡ 2 * a.index
  kind e = let f = refused_at_lem wrong_kind refl (λ z. omega arith) e in go f (inspected r _)
    where
      go : (fault ≡ wrong_kind) × (a.runs ≡ 2 * a.index + inspection) → Inspected fault inspection → a.runs ≡ 2 * a.index
      go f (inl q) = omega (arith, f.0, q.0)
      go f (inr (inl q)) = omega (arith, f.0, q.0)
      go f (inr (inr q)) = omega (arith, f.1, q.1)

  other : (a.refusal ≡ 0 → ⊥) → (a.refusal ≡ flag_set → ⊥) → (a.refusal ≡ wrong_kind → ⊥) → a.runs ≡ 0
  other z f k = go (call_ends (opening r) r s out)
    where
      record_refused : a.refusal ≡ fault → Inspected fault inspection → ⊥
      record_refused e (inl q) = z (e ∙ q.0)
      record_refused e (inr (inl q)) = f (e ∙ q.0)
      record_refused e (inr (inr q)) = k (e ∙ q.0)

      go : CallEnds (opening r) r s out → a.runs ≡ 0
      go (inl q) = q.took
      go (inr (inl q)) = absurd (record_refused q.is (inspected r _))
      go (inr (inr q)) = absurd (z q.is)

pub refused_runs : RefusedRuns
unfolding open_book
refused_runs = record { flag = flag; kind = kind; other = other }
