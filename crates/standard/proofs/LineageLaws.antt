-- The lineage sheet: a value is that of the record's operation on its parents' values, and depends on its ancestry alone.
use Rattle.standard.proofs.Prelude.{◌≡◌, refl, sym, ap, ◌∙◌, Bool, true, false, List, ◌∷◌, ◌++◌, ℕ, zero, suc, ◌*◌, ◌/◌, ◌<◌, arith, eqb}
use Rattle.standard.proofs.Prelude.{length, drop, eqb-false, ne_eqb, ltb-true}
use Rattle.standard.specs.Bytes.{part, choose}
use Rattle.standard.specs.Lineage.{operation, parent1, parent2, derived_filled, parent_tests, lineage_fault}
use Rattle.standard.specs.Lineage.{derived, value_from, value_within, value_of, lineage_call}
use Rattle.standard.specs.LineageFacts.{Ancestor, itself, by_first, by_second, AncestorLaw, LineageSound}
use Rattle.standard.specs.Lists.{record_at, joined, list_tests, records_call}
use Rattle.standard.specs.Refusals.{wrong_filling, first}
use Rattle.standard.specs.Sizes.{sheet_size, value_size}
use Rattle.standard.proofs.AnswerLaws.{is_accepted, accepted}
use Rattle.standard.proofs.BookLaws.{joined_front}
use Rattle.standard.proofs.BytesLaws.{and_split}
use Rattle.standard.proofs.FirstLaws.{all_pass}

-- the set A of indexes has with each record of s its parents, where the record has any
abbrev pub WithParents : List ℕ → (ℕ → Type 0) → Type 0
WithParents s A =
    (i : ℕ) → A i → let p = record_at sheet_size s i in (operation p ≡ 0 → ⊥) → A (parent1 p) × A (parent2 p)

-- a given key has no parents to look at
pub from_same : (p a b c d : List ℕ) → ((operation p ≡ 0 → ⊥) → (a ≡ c) × (b ≡ d)) → value_from p a b ≡ value_from p c d
unfolding value_from
from_same p a b c d h = go (eqb (operation p) 0) refl
  where
    go : (t : Bool) → eqb (operation p) 0 ≡ t
        → part 0 value_size (choose t (part 6 16 p) (derived (operation p) a b)) ≡ part 0 value_size (choose t (part 6 16 p) (derived (operation p) c d))
    go true e = refl
    go false e = let q = h (eqb-false (operation p) 0 e) in rw (q.0, q.1)

-- ---- by the ancestry alone

module _ (s t : List ℕ) (A : ℕ → Type 0) (closed : WithParents s A)
    (agree : (i : ℕ) → A i → record_at sheet_size s i ≡ record_at sheet_size t i) where
  same_within : (n i : ℕ) → A i → value_within n s i ≡ value_within n t i
  unfolding value_within
  same_within zero i a = refl
  same_within (suc n) i a =
      let p = record_at sheet_size s i in
      from_same p (value_within n s (parent1 p)) (value_within n s (parent2 p)) (value_within n t (parent1 p)) (value_within n t (parent2 p))
      (λ z. let q = closed i a z in (same_within n (parent1 p) q.0, same_within n (parent2 p) q.1))
      ∙ ap (λ (q : List ℕ). value_from q (value_within n t (parent1 q)) (value_within n t (parent2 q))) (agree i a)

  same_value : (i : ℕ) → A i → value_of s i ≡ value_of t i
  unfolding value_of
  same_value i a = same_within (suc i) i a

-- ---- a sheet whose first n records have no fault

pub value_length : (s : List ℕ) (i : ℕ) → length (value_of s i) ≡ value_size
unfolding value_of value_within value_from
value_length s i = refl

-- parents stand before their record
pub parents_before : (s : List ℕ) (i : ℕ) → lineage_fault s i ≡ 0 → (operation (record_at sheet_size s i) ≡ 0 → ⊥)
    → (parent1 (record_at sheet_size s i) < i) × (parent2 (record_at sheet_size s i) < i)
unfolding lineage_fault
parents_before s i e z =
    let p = record_at sheet_size s i in
    let t : first ((derived_filled p, wrong_filling) ∷ parent_tests s p i) ≡ 0 = rw (ne_eqb (operation p) 0 z) at e in
    let q = and_split _ _ (all_pass ((derived_filled p, wrong_filling) ∷ parent_tests s p i) refl t 1) in
    (ltb-true _ _ q.0, ltb-true _ _ q.1)

module _ (s : List ℕ) (n : ℕ) (clean : (i : ℕ) → i < n → lineage_fault s i ≡ 0) where
  -- further generations change nothing once all ancestors are in
  all_in : (j k i : ℕ) → i < j → i < k → i < n → value_within j s i ≡ value_within k s i
  unfolding value_within
  all_in zero k i hj hk h = absurd (omega arith)
  all_in (suc j) zero i hj hk h = absurd (omega arith)
  all_in (suc j) (suc k) i hj hk h =
      from_same (record_at sheet_size s i) _ _ _ _
      (λ z.
      let q = parents_before s i (clean i h) z in
      let parent : (m : ℕ) → m < i → value_within j s m ≡ value_within k s m = λ m b. all_in j k m (omega arith) (omega arith) (omega arith) in
      (parent _ q.0, parent _ q.1))

  -- the value of a record, from its parents' values
  pub value_step : (i : ℕ) → i < n
      → let p = record_at sheet_size s i in value_of s i ≡ value_from p (value_of s (parent1 p)) (value_of s (parent2 p))
  unfolding value_of value_within
  value_step i h =
      let p = record_at sheet_size s i in
      from_same p _ _ _ _
      (λ z.
      let q = parents_before s i (clean i h) z in
      let parent : (m : ℕ) → m < i → value_within i s m ≡ value_within (suc m) s m = λ m b. all_in i (suc m) m b (omega arith) (omega arith) in
      (parent _ q.0, parent _ q.1))

-- ---- an accepted sheet

module _ (s out : List ℕ) (z : (lineage_call s out).0.refusal ≡ 0) where
  abbrev n : ℕ
  n = length s / sheet_size

  abbrev head : ℕ
  head = first (list_tests sheet_size value_size (length s) (length out))

  tested : (head ≡ 0) × ((i : ℕ) → i < n → lineage_fault s i ≡ 0)
  unfolding lineage_call records_call
  tested = is_accepted head n (lineage_fault s) (value_size * n) z

  all_written : (lineage_call s out).1 ≡ joined n (value_of s) ++ drop (value_size * n) out
  unfolding lineage_call records_call
  all_written = rw (accepted head n (lineage_fault s) (value_size * n) tested.0 tested.1)

  -- what is written for a record is its value
  written_value : (i : ℕ) → i < n → record_at value_size (lineage_call s out).1 i ≡ value_of s i
  written_value i h =
      rw all_written (joined_front value_size (value_of s) n (λ j k. value_length s j) (drop (value_size * n) out) i h)

  sound : (i : ℕ) → i < n
      → let p = record_at sheet_size s i in
      let value = record_at value_size (lineage_call s out).1 in
      value i ≡ value_from p (value (parent1 p)) (value (parent2 p))
  sound i h =
      written_value i h ∙ value_step s n tested.1 i h
      ∙ from_same (record_at sheet_size s i) _ _ _ _
      (λ e.
      let q = parents_before s i (tested.1 i h) e in
      (sym (written_value _ (omega (arith, q.0))), sym (written_value _ (omega (arith, q.1)))))

-- a value is defined by the record's ancestry alone: where two accepted sheets agree on a set of records with their parents, each of
-- these has the same value in both, and both calls write the same bytes for it
abbrev pub LineageLaw : Type 1
LineageLaw = (s t out₁ out₂ : List ℕ) → (lineage_call s out₁).0.refusal ≡ 0 → (lineage_call t out₂).0.refusal ≡ 0
    → (A : ℕ → Type 0) → WithParents s A → ((i : ℕ) → A i → record_at sheet_size s i ≡ record_at sheet_size t i)
    → (i : ℕ) → A i → i < length s / sheet_size → i < length t / sheet_size
    → (value_of s i ≡ value_of t i) × (record_at value_size (lineage_call s out₁).1 i ≡ record_at value_size (lineage_call t out₂).1 i)

pub lineage_law : LineageLaw
lineage_law s t out₁ out₂ y z A closed agree i a h k =
    let e = same_value s t A closed agree i a in
    (e, written_value s out₁ y i h ∙ e ∙ sym (written_value t out₂ z i k))

pub ancestor_law : AncestorLaw
ancestor_law s t out₁ out₂ y z i h k agree =
    lineage_law s t out₁ out₂ y z (Ancestor s i) (λ j a n. (by_first j a n, by_second j a n)) agree i itself h k

pub lineage_sound : LineageSound
lineage_sound s out z i h = sound s out z i h
