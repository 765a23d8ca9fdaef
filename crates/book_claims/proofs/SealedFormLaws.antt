-- A book that opens is a sealed form, and a sealed form opens.
use Rattle.standard.proofs.Prelude.{◌≡◌, refl, sym, ap, ◌∙◌, List, ℕ, ◌*◌, ◌/◌, ◌<◌}
use Rattle.standard.proofs.Prelude.{arith, length, take, drop, take_at}
use Rattle.standard.specs.Books.{seal_record, WellFormed, sealed_form, opening, open_book}
use Rattle.standard.specs.BooksFacts.{IsSealedForm}
use Rattle.standard.specs.Bytes.{◌!◌, Bytes}
use Rattle.standard.specs.Lists.{record_at}
use Rattle.standard.specs.Sizes.{ring_size, plain_size, sealed_size}
use Rattle.standard.specs.declared.CountedAnswer.{CountedAnswer}
use Rattle.standard.proofs.AnswerLaws.{call_lengths}
use Rattle.standard.proofs.BookLaws.{joined_at, mapped_length}
use Rattle.standard.proofs.Demand3Laws.{book, book_law, demand3}
use Rattle.standard.proofs.RecordLaws.{record_law}
use Rattle.book_claims.specs.BookSentences.{OpensTo}

-- record i of a sealed form
pub sealed_at : (r p : List ℕ) (i : ℕ) → i < length p / plain_size → record_at sealed_size (sealed_form r p) i ≡ seal_record r (record_at plain_size p i)
unfolding sealed_form seal_record
sealed_at r p i h = joined_at sealed_size (λ j. seal_record r (record_at plain_size p j)) (length p / plain_size) (λ j l. refl) i h

module _ (r : List ℕ) (hr : Bytes ring_size r) where
  pub sealed_bytes : (p : List ℕ) → WellFormed p → Bytes (sealed_size * (length p / plain_size)) (sealed_form r p)
  unfolding sealed_form
  sealed_bytes p w =
      record { len = mapped_length (omega arith) (omega arith) (record_law r hr) p (book w); bound = ((book_law r hr).to p (book w)).bytes.bound }

  pub form_opens : (p s : List ℕ) → IsSealedForm r p s → OpensTo r s p
  form_opens p s q out room =
      let b = rw q.is at (sealed_bytes p q.formed) in
      let l : length p ≡ plain_size * (length p / plain_size) = (book q.formed).bytes.len in
      (demand3 r hr s b.bound out (omega (arith, b.len, l, room))).writes p q

  pub opens_form : (p s : List ℕ) → ((i : ℕ) → s ! i < 256) → OpensTo r s p → IsSealedForm r p s
  unfolding open_book
  opens_form p s bs o =
      let e = o p (omega arith) in
      let z : (open_book r s p).0.refusal ≡ 0 = ap (λ (a : CountedAnswer × List ℕ). a.0.refusal) e in
      let d = demand3 r hr s bs p (call_lengths (opening r) r s p z).1 in
      let q = d.opens.0 z in
      let same = sym (d.writes q.0 q.1) ∙ e in
      let long : length q.0 ≡ length p = ap (λ (a : CountedAnswer × List ℕ). a.0.written) same in
      let is : q.0 ≡ p =
      sym (take_at q.0 (drop (length q.0) p) (length p) long)
      ∙ ap (λ (a : CountedAnswer × List ℕ). take (length p) a.1) same ∙ take_at p (drop (length p) p) (length p) refl in
      rw is at q.1
