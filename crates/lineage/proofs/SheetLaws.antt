-- A sheet's records and values as code comes to them.
use Rattle.standard.proofs.Prelude.{◌≡◌, sym, ap, ◌∙◌, true, false, List, ℕ, ◌-◌, ◌<◌, length}
use Rattle.standard.proofs.Prelude.{◌⊎◌, inl, inr, eq-eqb, ne_eqb}
use Rattle.lists.proofs.WalkLaws.{PrefixWritten, prefix_at}
use Rattle.lists.specs.Walks.{Clean}
use Rattle.standard.proofs.BytesLaws.{spelled}
use Rattle.standard.proofs.LineageLaws.{from_same, value_length, parents_before, value_step}
use Rattle.standard.specs.Bytes.{◌!◌, table, part}
use Rattle.standard.specs.Keys.{core, ta71}
use Rattle.standard.specs.Lineage.{operation, parent1, parent2, filled, parent_tests, lineage_fault, value_from}
use Rattle.standard.specs.Lineage.{derived, value_of}
use Rattle.standard.specs.Lists.{record_at}
use Rattle.standard.specs.Mixing.{tb4}
use Rattle.standard.specs.Refusals.{wrong_filling, first}
use Rattle.standard.specs.Sizes.{sheet_size, value_size}
use Rattle.lineage.specs.SheetValues.{from_values}

-- ---- the refusal of a record

module _ (s : List ℕ) (i : ℕ) (p : List ℕ) (e : p ≡ record_at sheet_size s i) where
  pub fault_filling : filled p ≡ false → wrong_filling ≡ lineage_fault s i
  unfolding lineage_fault
  fault_filling f = rw (sym (ap filled e) ∙ f)

  pub fault_given : filled p ≡ true → operation p ≡ 0 → 0 ≡ lineage_fault s i
  unfolding lineage_fault
  fault_given f z = rw (sym (ap filled e) ∙ f, eq-eqb _ 0 (sym (ap operation e) ∙ z))

  pub fault_parents : filled p ≡ true → (operation p ≡ 0 → ⊥) → first (parent_tests s p i) ≡ lineage_fault s i
  unfolding lineage_fault
  fault_parents f z =
      ap (λ (q : List ℕ). first (parent_tests s q i)) e ∙ rw (sym (ap filled e) ∙ f, ne_eqb _ 0 (λ k. z (ap operation e ∙ k)))

-- ---- the value o of an operation k, as code makes it of two values and the ten bytes t of the second

as_value : (o x : List ℕ) → length o ≡ value_size → o ≡ x → o ≡ part 0 value_size x
as_value o x l e = sym (spelled value_size o l) ∙ ap (part 0 value_size) e

module _ (k : ℕ) (a b : List ℕ) {t o : List ℕ} (et : t ≡ part 0 10 b) where
  module _ (la : length a ≡ 16) (lo : length o ≡ value_size) where
    -- TA11, or TA41, which does the same
    pub by_ta11 : (k ≡ 1) ⊎ (k ≡ 3) → o ≡ core a t → o ≡ part 0 value_size (derived k a b)
    unfolding derived
    by_ta11 (inl e) f = as_value o (derived k a b) lo (f ∙ rw (et, e, spelled 16 a la))
    by_ta11 (inr e) f = as_value o (derived k a b) lo (f ∙ rw (et, e, spelled 16 a la))

    pub by_ta21 : k ≡ 2 → {r : List ℕ} → r ≡ table 10 (λ i. t ! (9 - i)) → o ≡ core a r → o ≡ part 0 value_size (derived k a b)
    unfolding derived
    by_ta21 e er f = as_value o (derived k a b) lo (f ∙ rw (er, et, e, spelled 16 a la))

  module _ {s m : List ℕ} (es : s ≡ part 0 10 a) (f : o ≡ part 0 16 m) where
    pub by_tb4 : k ≡ 4 → m ≡ tb4 s t → o ≡ part 0 value_size (derived k a b)
    unfolding derived
    by_tb4 e g = f ∙ rw (g, es, et, e)

    pub by_ta71 : ((k ≡ 1) ⊎ (k ≡ 3) → ⊥) → (k ≡ 2 → ⊥) → (k ≡ 4 → ⊥) → m ≡ ta71 s t → o ≡ part 0 value_size (derived k a b)
    unfolding derived
    by_ta71 e₁ e₂ e₄ g = f ∙ rw (g, es, et, ne_eqb k 1 (λ e. e₁ (inl e)), ne_eqb k 2 e₂, ne_eqb k 3 (λ e. e₁ (inr e)), ne_eqb k 4 e₄)

-- ---- the value of a record

module _ (s values : List ℕ) (i : ℕ) where
  pub value_derived : (a b : List ℕ) → (operation (record_at sheet_size s i) ≡ 0 → ⊥)
      → a ≡ record_at value_size values (parent1 (record_at sheet_size s i)) → b ≡ record_at value_size values (parent2 (record_at sheet_size s i))
      → part 0 value_size (derived (operation (record_at sheet_size s i)) a b) ≡ from_values s values i
  unfolding from_values value_from
  value_derived a b z ea eb = rw (ea, eb, ne_eqb (operation (record_at sheet_size s i)) 0 z)

  -- where the values before it are written, it is the record's
  pub value_next : (n : ℕ) → Clean (lineage_fault s) n → i < n → (out₀ : List ℕ) → PrefixWritten value_size (value_of s) out₀ i values
      → from_values s values i ≡ value_of s i
  unfolding from_values
  value_next n clean h out₀ prefix =
      from_same (record_at sheet_size s i) _ _ _ _
      (λ z.
      let q = parents_before s i (clean i h) z in (
        prefix_at value_size (value_of s) (value_length s) out₀ i values prefix _ q.0,
        prefix_at value_size (value_of s) (value_length s) out₀ i values prefix _ q.1,
      ))
      ∙ sym (value_step s n clean i h)
