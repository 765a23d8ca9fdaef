-- Books under other rings, and with records spoiled, left out, doubled or put in another order.
use Rattle.standard.proofs.Prelude.{◌≡◌, refl, sym, ap, ◌∙◌, Bool, true, false, ◌↔◌, List, [], ◌∷◌, ℕ, zero, suc, ◌-◌, ◌*◌, ◌/◌, ◌%◌, ◌≤◌, ◌<◌}
use Rattle.standard.proofs.Prelude.{arith, eqb, leb, ltb, length, eq-eqb, ne_eqb, le-leb}
use Rattle.standard.proofs.Prelude.{leb-true}
use Rattle.std.specs.Prelude.{Option}
use Rattle.standard.specs.Books.{ring_key, named, seal_record, open_fault, open_record, sealed_form, opening, book_call, open_book}
use Rattle.standard.specs.BooksFacts.{IsSealedForm}
use Rattle.standard.specs.Bytes.{◌!◌, choose, Bytes}
use Rattle.standard.specs.Lists.{record_at, list_tests, records_call}
use Rattle.standard.specs.Refusals.{wrong_length, has_length, first}
use Rattle.standard.specs.Seals.{kind_of}
use Rattle.standard.specs.ShufflesFacts.{reordered}
use Rattle.standard.specs.Sizes.{ring_size, plain_size, sealed_size, most_records}
use Rattle.standard.specs.declared.BookAnswer.{BookAnswer}
use Rattle.standard.specs.declared.Kind.{Kind}
use Rattle.standard.proofs.AnswerLaws.{is_accepted, accepted, call_tests, call_refuses}
use Rattle.standard.proofs.BookLaws.{Book, joined_same, joined_bytes, joined_front}
use Rattle.standard.proofs.BytesLaws.{bytes_append, bytes_part}
use Rattle.standard.proofs.Demand3Laws.{book, well_formed}
use Rattle.book_claims.specs.BookSentences.{OpensTo, with_d, ManyRings, WithinABook, Spoiled, skipping, repeating, Missing, Doubled, OrderChanged}
use Rattle.book_claims.proofs.SealedFormLaws.{sealed_bytes, sealed_at, form_opens, opens_form}
use Rattle.book_claims.proofs.ReorderedLaws.{reordered_at, reordered_whole}

-- ---- rings

-- no key but D has a byte of it
abbrev NotUnderD : (d r : List ℕ) → Option Kind → Type 0
NotUnderD d r k = ring_key (named k).under (with_d d r) ≡ ring_key (named k).under r

chosen : (d r : List ℕ) (t : Bool) (j k : Option Kind) → NotUnderD d r j → NotUnderD d r k → NotUnderD d r (choose t j k)
chosen d r true j k hj hk = hj
chosen d r false j k hj hk = hk

not_under_d : (d r : List ℕ) (b : ℕ) → (b ≡ 1 → ⊥) → NotUnderD d r (kind_of b)
unfolding kind_of
not_under_d d r b h =
    rw (ne_eqb b 1 h)
    (chosen d r (eqb b 2) _ _ refl
    (chosen d r (eqb b 3) _ _ refl (chosen d r (eqb b 4) _ _ refl (chosen d r (eqb b 5) _ _ refl (chosen d r (eqb b 6) _ _ refl refl)))))

same_record : (d r x : List ℕ) → (x ! 0 ≡ 1 → ⊥) → seal_record (with_d d r) x ≡ seal_record r x
unfolding seal_record
same_record d r x h = rw (not_under_d d r (x ! 0) h)

same_form : (d r p : List ℕ) → ((i : ℕ) → i < length p / plain_size → record_at plain_size p i ! 0 ≡ 1 → ⊥) → sealed_form (with_d d r) p ≡ sealed_form r p
unfolding sealed_form
same_form d r p none =
    joined_same (length p / plain_size) (λ i. seal_record (with_d d r) (record_at plain_size p i)) (λ i. seal_record r (record_at plain_size p i))
    (λ i h. same_record d r (record_at plain_size p i) (none i h))

-- the kind byte of record i, from the sealed form
kind_at : (r p s : List ℕ) → IsSealedForm r p s → (i : ℕ) → i < length p / plain_size
    → record_at sealed_size s i ! 0 ≡ record_at plain_size p i ! 0
unfolding seal_record
kind_at r p s q i h = ap (λ (x : List ℕ). record_at sealed_size x i ! 0) (sym q.is) ∙ ap (λ (x : List ℕ). x ! 0) (sealed_at r p i h)

empty_form : (r : List ℕ) → IsSealedForm r [] []
unfolding sealed_form
empty_form r = record {
  formed = record { bytes = λ i. omega arith; short = omega arith; whole = refl; legal = λ i h. absurd (omega arith) };
  is = refl;
}

pub many_rings : ManyRings
many_rings = record {
  empty = λ r hr. form_opens r hr [] [] (empty_form r);
  other_d = λ r d s p hr hd bs none o.
      let q = opens_form r hr p s bs o in
      let l = rw q.is at (sealed_bytes r hr p q.formed).len in
      let none' : (i : ℕ) → i < length p / plain_size → record_at plain_size p i ! 0 ≡ 1 → ⊥ =
      λ i h e. none i (omega (arith, l, h)) (kind_at r p s q i h ∙ e) in
      form_opens (with_d d r) (bytes_append (bytes_part 0 10 hd) (bytes_part 10 42 hr)) p s (record { formed = q.formed; is = same_form d r p none' ∙ q.is });
}

-- ---- a record within a book

pub spoiled : Spoiled
unfolding open_book
spoiled r s out i h bad =
    let shut : (open_book r s out).0.refusal ≡ 0 → ⊥ = λ e. bad ((call_tests (opening r) r s out e).1 i h) in
    let k = call_refuses (opening r) r s out shut in
    (shut, k.0, k.1)

abbrev tests_of : (r s out : List ℕ) → List (Bool × ℕ)
tests_of r s out = (has_length ring_size r, wrong_length) ∷ list_tests sealed_size plain_size (length s) (length out)

abbrev fault_at : (r s : List ℕ) → ℕ → ℕ
fault_at r s i = open_fault r (record_at sealed_size s i)

opens_exactly : (r s out : List ℕ) → length r ≡ ring_size → length s ≤ sealed_size * most_records → length s % sealed_size ≡ 0
    → plain_size * (length s / sealed_size) ≤ length out
    → ((open_book r s out).0.refusal ≡ 0) ↔ ((i : ℕ) → i < length s / sealed_size → open_fault r (record_at sealed_size s i) ≡ 0)
unfolding open_book book_call records_call
opens_exactly r s out hr few whole room =
    let n = length s / sealed_size in
    let head : first (tests_of r s out) ≡ 0 = rw (eq-eqb _ _ hr, le-leb _ _ few, eq-eqb _ _ whole, le-leb _ _ room) in (
      λ e. (is_accepted (first (tests_of r s out)) n (fault_at r s) (plain_size * n) e).1,
      λ good. ap (λ (a : BookAnswer). a.refusal) (accepted (first (tests_of r s out)) n (fault_at r s) (plain_size * n) head good),
    )

record_written : (r s out : List ℕ) → (open_book r s out).0.refusal ≡ 0 → (i : ℕ) → i < length s / sealed_size
    → record_at plain_size (open_book r s out).1 i ≡ open_record r (record_at sealed_size s i)
unfolding open_book book_call records_call open_record
record_written r s out e i h =
    rw (eq-eqb _ 0 e)
    (joined_front plain_size (λ j. open_record r (record_at sealed_size s j)) (length s / sealed_size) (λ j l. refl) _ i h)

pub within_a_book : WithinABook
within_a_book = record { exactly = opens_exactly; writes = record_written }

-- ---- records chosen from a book: n of them, of which record i is record π i

chosen_book : {w n : ℕ} {ok : List ℕ → Bool} {xs : List ℕ} → zero < w → n ≤ most_records → Book w ok xs
    → (π : ℕ → ℕ) → ((i : ℕ) → i < n → π i < length xs / w) → Book w ok (reordered n w π xs)
chosen_book {w} {n} {ok} {xs} hw few b π within =
    let e = reordered_whole w n hw xs π in record {
      bytes = rw e (joined_bytes w (λ i. record_at w xs (π i)) n (λ i h. bytes_part (w * π i) w b.bytes));
      few = rw e few;
      pass = λ i h. let k : i < n = rw e at h in rw (reordered_at w n hw xs π i k) (b.pass (π i) (within i k));
    }

-- their sealed records are the sealed form's, chosen alike
chosen_form : (r p s : List ℕ) → IsSealedForm r p s → (n : ℕ) → n ≤ most_records
    → (π : ℕ → ℕ) → ((i : ℕ) → i < n → π i < length p / plain_size)
    → IsSealedForm r (reordered n plain_size π p) (reordered n sealed_size π s)
unfolding sealed_form
chosen_form r p s q n few π within =
    let b = book q.formed in
    let hw : zero < plain_size = omega arith in
    record {
      formed = well_formed (chosen_book hw few b π within);
      is = rw (reordered_whole plain_size n hw p π)
          (joined_same n (λ i. seal_record r (record_at plain_size (reordered n plain_size π p) i)) (λ i. record_at sealed_size s (π i))
          (λ i h.
          ap (seal_record r) (reordered_at plain_size n hw p π i h) ∙ sym (sealed_at r p (π i) (within i h))
          ∙ ap (λ (x : List ℕ). record_at sealed_size x (π i)) q.is));
    }

chosen_opens : (r s p : List ℕ) (m n : ℕ) (π : ℕ → ℕ) → Bytes ring_size r → ((i : ℕ) → s ! i < 256) → length s ≡ sealed_size * m → n ≤ most_records
    → ((i : ℕ) → i < n → π i < m) → OpensTo r s p → OpensTo r (reordered n sealed_size π s) (reordered n plain_size π p)
chosen_opens r s p m n π hr bs l few within o =
    let q = opens_form r hr p s bs o in
    let k = rw q.is at (sealed_bytes r hr p q.formed).len in
    form_opens r hr _ _ (chosen_form r p s q n few π (λ i h. omega (arith, k, l, within i h)))

-- as many as a book has
few_records : (r s p : List ℕ) (m : ℕ) → Bytes ring_size r → ((i : ℕ) → s ! i < 256) → length s ≡ sealed_size * m → OpensTo r s p → m ≤ most_records
few_records r s p m hr bs l o =
    let q = opens_form r hr p s bs o in
    let k = rw q.is at (sealed_bytes r hr p q.formed).len in
    omega (arith, k, l, (book q.formed).few)

pub order_changed : OrderChanged
order_changed r s p n π hr bs l ρ o = chosen_opens r s p n n π hr bs l (few_records r s p n hr bs l o) ρ.within o

skipping_within : (n k i : ℕ) → i < n → skipping k i < suc n
skipping_within n k i h = go (ltb i k)
  where
    go : (t : Bool) → choose t i (suc i) < suc n
    go true = omega (arith, h)
    go false = omega (arith, h)

pub missing : Missing
missing r s p n k hr bs l h o =
    chosen_opens r s p (suc n) n (skipping k) hr bs l (omega (arith, few_records r s p (suc n) hr bs l o)) (skipping_within n k) o

repeating_within : (n k i : ℕ) → k < n → i < suc n → repeating k i < n
repeating_within n k i hk h = go (leb i k) refl
  where
    go : (t : Bool) → leb i k ≡ t → choose t i (i - 1) < n
    go true e = omega (arith, hk, leb-true i k e)
    go false e = omega (arith, hk, h)

pub doubled : Doubled
doubled r s p n k hr bs l few h o = chosen_opens r s p n (suc n) (repeating k) hr bs l few (λ i. repeating_within n k i h) o
