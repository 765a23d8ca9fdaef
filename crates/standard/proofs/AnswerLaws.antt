-- The answers of the book calls: when they are 0, and what they are then.
use Rattle.standard.proofs.Prelude.{◌≡◌, refl, sym, ap, ap₂, ◌∙◌, subst, Bool, true, false, ◌⊎◌, inl, inr, List, ◌∷◌, ◌++◌, ℕ, zero, suc, ◌+◌}
use Rattle.standard.proofs.Prelude.{◌*◌, ◌/◌, ◌%◌, ◌≤◌, ◌<◌, add-zero, add-mul, mul-zero, mul-suc, mul-le-mul_left, le_of_suc-le-suc}
use Rattle.standard.proofs.Prelude.{eq-or-lt_of_le, arith, eqb, ltb, length, drop, eqb-true, eqb-false, eq-eqb, ne_eqb, leb-true, le-leb}
use Rattle.standard.proofs.Prelude.{ltb-true, ltb-false}
use native.Mathlib.Nat.{div-add-mod, mul-mod_right, div-le_of_le-mul}
use Rattle.standard.specs.Books.{Conversion, book_call}
use Rattle.standard.specs.Bytes.{◌!◌, choose}
use Rattle.standard.specs.Lists.{record_at, each, first_fault, refused, answer, length_tests, list_tests, records_call}
use Rattle.standard.specs.Refusals.{wrong_length, has_length, first}
use Rattle.standard.specs.Runs.{first_pass, second_pass}
use Rattle.standard.specs.RunsFacts.{accepted_runs}
use Rattle.standard.specs.Sizes.{ring_size, most_records}
use Rattle.standard.specs.declared.BookAnswer.{BookAnswer}
use Rattle.standard.proofs.BookLaws.{Book}
use Rattle.standard.proofs.FirstLaws.{test_at, all_pass}

-- ---- the first fault

pub record IsFirst (n : ℕ) (g : ℕ → ℕ) (f : ℕ) : Type 0 where
  pub within : f ≤ n
  pub below : (j : ℕ) → j < f → g j ≡ 0
  pub stop : f < n → g f ≡ 0 → ⊥

pub first_fault_lem : (n : ℕ) (g : ℕ → ℕ) → IsFirst n g (first_fault n g)
first_fault_lem zero g = record { within = omega arith; below = λ j h. omega arith; stop = λ h e. omega arith }
first_fault_lem (suc n) g = go (first_fault_lem n (λ i. g (suc i))) (eqb (g 0) 0) refl
  where
    below : (f : ℕ) → g 0 ≡ 0 → ((j : ℕ) → j < f → g (suc j) ≡ 0) → (j : ℕ) → j < suc f → g j ≡ 0
    below f e h zero k = e
    below f e h (suc j) k = h j (le_of_suc-le-suc k)

    go : {f : ℕ} → IsFirst n (λ i. g (suc i)) f → (t : Bool) → eqb (g 0) 0 ≡ t → IsFirst (suc n) g (choose t (suc f) 0)
    go {f} p true e = record {
      within = omega (arith, p.within);
      below = below f (eqb-true (g 0) 0 e) p.below;
      stop = λ h z. p.stop (le_of_suc-le-suc h) z;
    }
    go p false e = record { within = omega arith; below = λ j h. omega arith; stop = λ h z. eqb-false (g 0) 0 e z }

-- there is one only: what a loop finds is it
pub first_one : {n : ℕ} {g : ℕ → ℕ} {a b : ℕ} → IsFirst n g a → IsFirst n g b → a ≡ b
first_one {n} {g} {a} {b} p q = go (ltb a b) refl (ltb b a) refl
  where
    go : (s : Bool) → ltb a b ≡ s → (u : Bool) → ltb b a ≡ u → a ≡ b
    go true es u eu = absurd (p.stop (omega (arith, ltb-true a b es, q.within)) (q.below a (ltb-true a b es)))
    go false es true eu = absurd (q.stop (omega (arith, ltb-true b a eu, p.within)) (p.below b (ltb-true b a eu)))
    go false es false eu = omega (arith, ltb-false a b es, ltb-false b a eu)

pub no_fault : (n : ℕ) (g : ℕ → ℕ) → ((j : ℕ) → j < n → g j ≡ 0) → first_fault n g ≡ n
no_fault n g h = first_one (first_fault_lem n g) (record { within = omega arith; below = h; stop = λ l e. omega arith })

-- ---- the cipher runs (02, 8)

module _ (g l : ℕ → ℕ) where
  -- a record after some without a fault is looked at
  pub pass_more : (n : ℕ) → ((j : ℕ) → j < n → g j ≡ 0) → first_pass (suc n) g l ≡ first_pass n g l + l n
  pass_more n none = rw (eq-eqb _ _ (no_fault n g none))

  -- a record after one with a fault is not
  pub pass_stopped : (n i : ℕ) → i < n → ((j : ℕ) → j < i → g j ≡ 0) → (g i ≡ 0 → ⊥) → first_pass n g l ≡ first_pass i g l + l i
  pass_stopped zero i h none f = absurd (omega arith)
  pass_stopped (suc n) i h none f = go (eq-or-lt_of_le (le_of_suc-le-suc h)) (λ k. pass_stopped n i k none f)
    where
      go : (i ≡ n) ⊎ (i < n) → (i < n → first_pass n g l ≡ first_pass i g l + l i) → first_pass (suc n) g l ≡ first_pass i g l + l i
      go (inl e) ih = ap (λ (k : ℕ). first_pass (suc k) g l) (sym e) ∙ pass_more i none
      go (inr k) ih = rw (ne_eqb (first_fault n g) n (λ e. f ((first_fault_lem n g).below i (omega (arith, e, k)))), add-zero) (ih k)

  pub pass_clean : (k n : ℕ) → ((j : ℕ) → j < n → g j ≡ 0) → ((j : ℕ) → j < n → l j ≡ k) → first_pass n g l ≡ k * n
  pass_clean k zero none e = sym (mul-zero k)
  pass_clean k (suc n) none e =
      pass_more n (λ j h. none j (omega arith))
      ∙ ap₂ ◌+◌ (pass_clean k n (λ j h. none j (omega arith)) (λ j h. e j (omega arith))) (e n (omega arith)) ∙ sym (mul-suc k n)

  pub pass_most : (k n : ℕ) → ((j : ℕ) → l j ≤ k) → first_pass n g l ≤ k * n
  pass_most k zero e = omega arith
  pass_most k (suc n) e = go (eqb (first_fault n g) n) (pass_most k n e)
    where
      go : (t : Bool) → first_pass n g l ≤ k * n → first_pass n g l + choose t (l n) 0 ≤ k * suc n
      go true h = rw mul-suc (omega (arith, h, e n))
      go false h = rw mul-suc (omega (arith, h))

-- both passes of an accepted book in which an inspection takes k runs
pub passes : (k n : ℕ) → k * n + second_pass n ≡ accepted_runs (k + 2) n
passes k zero = rw mul-zero
passes k (suc n) = rw (ne_eqb (suc n) 0 (λ e. omega arith), add-mul) (omega arith)

-- ---- an answer is 0 exactly if no refusal applies

module _ (head n : ℕ) (g : ℕ → ℕ) (written : ℕ) where
  abbrev all_accepted : BookAnswer
  all_accepted = record { refusal = 0; index = n; written = written }

  abbrev first_refused : BookAnswer
  first_refused = refused (g (first_fault n g)) (first_fault n g)

  pub is_accepted : (answer head n g written).refusal ≡ 0 → (head ≡ 0) × ((i : ℕ) → i < n → g i ≡ 0)
  unfolding answer
  is_accepted e = outer (eqb head 0) refl e
    where
      inner : {f : ℕ} → IsFirst n g f → (t : Bool) → eqb f n ≡ t
          → (choose t (record { refusal = 0; index = n; written = written }) (refused (g f) f)).refusal ≡ 0 → (i : ℕ) → i < n → g i ≡ 0
      inner {f} p true et e i h = p.below i (omega (arith, eqb-true f n et))
      inner {f} p false et e i h = absurd (p.stop (short (eq-or-lt_of_le p.within)) e)
        where
          short : (f ≡ n) ⊎ (f < n) → f < n
          short (inl q) = absurd (eqb-false f n et q)
          short (inr q) = q

      outer : (t : Bool) → eqb head 0 ≡ t
          → (choose t (choose (eqb (first_fault n g) n) all_accepted first_refused) (refused head 0)).refusal ≡ 0
          → (head ≡ 0) × ((i : ℕ) → i < n → g i ≡ 0)
      outer true et e = (eqb-true head 0 et, inner (first_fault_lem n g) (eqb (first_fault n g) n) refl e)
      outer false et e = absurd (eqb-false head 0 et e)

  pub accepted : head ≡ 0 → ((i : ℕ) → i < n → g i ≡ 0) → answer head n g written ≡ record { refusal = 0; index = n; written = written }
  unfolding answer
  accepted h l = simp (eq-eqb _ _ h, eq-eqb _ _ (no_fault n g l))

  -- a refusal writes nothing
  pub refusal_writes : ((answer head n g written).refusal ≡ 0 → ⊥) → (answer head n g written).written ≡ 0
  unfolding answer
  refusal_writes r = go (eqb head 0) (eqb (first_fault n g) n) r
    where
      go : (s t : Bool)
          → ((choose s (choose t all_accepted first_refused) (refused head 0)).refusal ≡ 0 → ⊥)
          → (choose s (choose t all_accepted first_refused) (refused head 0)).written ≡ 0
      go true true r = absurd (r refl)
      go true false r = refl
      go false t r = refl

-- the refusal and the index do not depend on the bytes written
pub answer_alike : (head n : ℕ) (g : ℕ → ℕ) (v w : ℕ)
    → ((answer head n g v).refusal ≡ (answer head n g w).refusal) × ((answer head n g v).index ≡ (answer head n g w).index)
unfolding answer
answer_alike head n g v w = go (eqb head 0) (eqb (first_fault n g) n)
  where
    made : Bool → Bool → ℕ → BookAnswer
    made s t k = choose s (choose t (record { refusal = 0; index = n; written = k }) (refused (g (first_fault n g)) (first_fault n g))) (refused head 0)

    go : (s t : Bool) → ((made s t v).refusal ≡ (made s t w).refusal) × ((made s t v).index ≡ (made s t w).index)
    go true true = (refl, refl)
    go true false = (refl, refl)
    go false t = (refl, refl)

-- ---- the lengths

-- bytes are a book of records without a fault exactly if refusals 1, 2 and the records' do not apply
module _ (w : ℕ) (fault : List ℕ → ℕ) (xs : List ℕ) where
  pub lengths_fine : first (length_tests w (length xs)) ≡ 0 → (length xs ≤ w * most_records) × (length xs % w ≡ 0)
  lengths_fine e = let t = all_pass (length_tests w (length xs)) refl e in (leb-true _ _ (t 0), eqb-true _ _ (t 1))

  pub book_of : ((i : ℕ) → xs ! i < 256) → length xs ≤ w * most_records → length xs % w ≡ 0
      → ((i : ℕ) → i < length xs / w → fault (record_at w xs i) ≡ 0) → Book w (λ x. eqb (fault x) 0) xs
  book_of b few whole good = record {
    bytes = record { len = sym (div-add-mod (length xs) w) ∙ ap (λ (k : ℕ). w * (length xs / w) + k) whole ∙ add-zero _; bound = b };
    few = div-le_of_le-mul w few;
    pass = λ i h. eq-eqb _ 0 (good i h);
  }

  module _ (b : Book w (λ x. eqb (fault x) 0) xs) where
    pub few_of : length xs ≤ w * most_records
    few_of = subst (λ (l : ℕ). l ≤ w * most_records) (sym b.bytes.len) (mul-le-mul_left w b.few)

    pub whole_of : length xs % w ≡ 0
    whole_of = ap (λ (l : ℕ). l % w) b.bytes.len ∙ mul-mod_right w (length xs / w)

    pub good_of : (i : ℕ) → i < length xs / w → fault (record_at w xs i) ≡ 0
    good_of i h = eqb-true _ 0 (b.pass i h)

-- ---- the calls, in one direction

module _ (C : Conversion) (r xs out : List ℕ) where
  abbrev pub n : ℕ
  n = length xs / C.size

  abbrev pub g : ℕ → ℕ
  g i = C.fault (record_at C.size xs i)

  abbrev pub l : ℕ → ℕ
  l i = C.inspection (record_at C.size xs i)

  abbrev pub tests : List (Bool × ℕ)
  tests = (has_length ring_size r, wrong_length) ∷ list_tests C.size C.output_size (length xs) (length out)

  -- an accepted call had no test that failed, and no record with a fault
  pub call_tests : (book_call C r xs out).0.refusal ≡ 0 → ((i : ℕ) → test_at tests i ≡ true) × ((i : ℕ) → i < n → g i ≡ 0)
  unfolding book_call records_call
  call_tests e = let a = is_accepted (first tests) n g (C.output_size * n) e in (all_pass tests refl a.0, a.1)

  pub call_lengths : (book_call C r xs out).0.refusal ≡ 0 → (length r ≡ ring_size) × (C.output_size * n ≤ length out)
  call_lengths e = let t = (call_tests e).0 in (eqb-true _ _ (t 0), leb-true _ _ (t 3))

  -- what is written fits the output
  pub written_fits : (book_call C r xs out).0.refusal ≡ 0 → (book_call C r xs out).0.written ≤ length out
  unfolding book_call records_call
  written_fits e =
      let a = is_accepted (first tests) n g (C.output_size * n) e in
      rw (accepted (first tests) n g (C.output_size * n) a.0 a.1) (call_lengths e).1

  pub call_refuses : ((book_call C r xs out).0.refusal ≡ 0 → ⊥) → ((book_call C r xs out).0.written ≡ 0) × ((book_call C r xs out).1 ≡ out)
  unfolding book_call records_call
  call_refuses e = (refusal_writes _ _ _ _ e, rw (ne_eqb _ 0 e))

  module _ (b : (i : ℕ) → xs ! i < 256) where
    abbrev Good : List ℕ → Type 0
    Good = Book C.size (λ x. eqb (C.fault x) 0)

    pub call_book : (book_call C r xs out).0.refusal ≡ 0 → Good xs
    call_book e =
        let t = call_tests e in
        book_of C.size C.fault xs b (leb-true _ _ (t.0 1)) (eqb-true _ _ (t.0 2)) t.1

    -- where an inspection of a record without a fault takes c runs
    pub call_accepts : (c : ℕ) → ((x : List ℕ) → C.fault x ≡ 0 → C.inspection x ≡ c) → length r ≡ ring_size → C.output_size * n ≤ length out → Good xs
        → book_call C r xs out
        ≡ (
          record { refusal = 0; index = n; written = C.output_size * n; runs = accepted_runs (c + 2) n },
          each n C.size C.convert xs ++ drop (C.output_size * n) out,
        )
    unfolding book_call records_call
    call_accepts c inspection hr room k =
        let head : first tests ≡ 0 =
        rw (eq-eqb _ _ hr, le-leb _ _ (few_of C.size C.fault xs k), eq-eqb _ _ (whole_of C.size C.fault xs k), le-leb _ _ room) in
        let good = good_of C.size C.fault xs k in
        let clean = pass_clean g l c n good (λ i h. inspection _ (good i h)) in
        rw (accepted (first tests) n g (C.output_size * n) head good, head, eq-eqb _ _ (no_fault n g good), clean, passes c n)
