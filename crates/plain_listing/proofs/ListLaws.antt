-- The lines of the listing: none is longer than a line may be, and the book's lines one after the other.
use Rattle.standard.proofs.Prelude.{◌≡◌, refl, ◌∙◌, Bool, true, false, List, ◌++◌, ℕ, ◌+◌, ◌*◌, ◌/◌, ◌≤◌, arith, eqb, length, length-append}
use Rattle.standard.proofs.Prelude.{eqb-true, eqb-false, ne_eqb}
use Rattle.standard.proofs.RefusalLaws.{not_zero}
use Rattle.standard.specs.Answers.{refusal_number}
use Rattle.standard.specs.declared.Refusal.{Refusal}
use Rattle.standard.specs.declared.BookAnswer.{BookAnswer}
use Rattle.standard.proofs.AnswerLaws.{is_accepted, lengths_fine}
use Rattle.standard.proofs.BytesLaws.{length_table}
use Rattle.standard.specs.Books.{record_kind, plain_fault, check_plain}
use Rattle.standard.specs.Lists.{record_at, refused}
use Rattle.standard.specs.Bytes.{◌!◌, part, choose}
use Rattle.standard.specs.PlainListing.{number_text, entry_line, entry_lines, entries_line, refused_line, listing, listing_room}
use Rattle.standard.specs.PlainListingFacts.{ListingFits}
use Rattle.standard.specs.Seals.{key_length}
use Rattle.standard.specs.Sizes.{plain_size}
use Rattle.standard.specs.Lines.{hex}
use Rattle.standard.specs.declared.Algorithm.TheVariants.{Ta31, Ta51, Ta81, Ta91}
use Rattle.standard.specs.declared.Algorithm.{Algorithm}
use Rattle.lines.proofs.LineLaws.{line_none, line_cons, line_append, line_whole, joined_most}
use Rattle.lines.proofs.TextLaws.{digits_few, hex_twice}
use Rattle.lines.specs.LineStates.{room}

-- ---- lengths

number_short : (k : Algorithm) (p : List ℕ) → length (number_text k p) ≤ 20
number_short Ta31 p = omega arith
number_short Ta51 p = digits_few 20 _
number_short Ta81 p = digits_few 20 _
number_short Ta91 p = omega arith

pub key_short : (k : Algorithm) → key_length k ≤ 12
key_short Ta31 = omega arith
key_short Ta51 = omega arith
key_short Ta81 = omega arith
key_short Ta91 = omega arith

hex_part : (from n : ℕ) (p : List ℕ) → length (hex (part from n p)) ≡ n + n
hex_part from n p = hex_twice (part from n p) ∙ rw length_table

pub entry_short : (i : ℕ) (p : List ℕ) → length (entry_line i p) ≤ room
unfolding entry_line
entry_short i p =
    let k = (record_kind p).algorithm in
    let key : length (hex (part 6 (key_length k) p)) ≤ 24 = omega (arith, hex_part 6 (key_length k) p, key_short k) in
    simp length-append
    (omega (arith, digits_few 20 i, digits_few 20 (p ! 0), digits_few 20 (256 * p ! 4 + p ! 5), hex_part 1 3 p, key, number_short k p))

pub entries_short : (n : ℕ) → length (entries_line n) ≤ room
unfolding entries_line
entries_short n = simp length-append (omega (arith, digits_few 20 n))

pub refused_short : (refusal index : ℕ) → length (refused_line refusal index) ≤ room
unfolding refused_line
refused_short refusal index = simp length-append (omega (arith, digits_few 20 refusal, digits_few 20 index))

-- what such a line follows from
pub ruleset line_steps = (line_none, line_cons, line_append, line_whole, entries_short, refused_short)

-- ---- the lines one after the other

pub lines_short : (n : ℕ) (p : List ℕ) → length (entry_lines n p) ≤ room * n
unfolding entry_lines
lines_short n p = joined_most (λ i. entry_line i (record_at 18 p i)) (λ i. entry_short i (record_at 18 p i)) n

-- those of 1,024 records and the last line have room in the output
pub entries_most : (n : ℕ) (p : List ℕ) → n ≤ 1024 → length (entry_lines n p ++ entries_line n) ≤ listing_room
entries_most n p h = simp length-append (omega (arith, h, lines_short n p, entries_short n))

-- ---- the call

module _ (p : List ℕ) where
  pub listed : {n w : ℕ} → record { refusal = 0; index = n; written = w } ≡ check_plain p
      → listing p ≡ entry_lines (length p / 18) p ++ entries_line (length p / 18)
  unfolding listing
  listed e = rw (← e)

  pub listing_refused : {a : BookAnswer} → a ≡ check_plain p → (a.refusal ≡ 0 → ⊥) → listing p ≡ refused_line a.refusal a.index
  unfolding listing
  listing_refused e r = rw (← e, ne_eqb _ _ r)

  pub refused_listed : (r : Refusal) {i : ℕ} → refused (refusal_number r) i ≡ check_plain p → listing p ≡ refused_line (refusal_number r) i
  refused_listed r e = listing_refused e (eqb-false _ _ (not_zero r))

-- an accepted book has at most 1,024 records, so that no listing is longer than its output
pub accepted_few : (p : List ℕ) → (check_plain p).refusal ≡ 0 → length p / 18 ≤ 1024
unfolding check_plain
accepted_few p z = omega (arith, (lengths_fine plain_size plain_fault p (is_accepted _ _ _ _ z).0).0)

pub listing_fits : ListingFits
unfolding listing
listing_fits p = go (eqb (check_plain p).refusal 0) refl
  where
    n : ℕ
    n = length p / 18

    go : (t : Bool) → eqb (check_plain p).refusal 0 ≡ t
        → length (choose t (entry_lines n p ++ entries_line n) (refused_line (check_plain p).refusal (check_plain p).index)) ≤ listing_room
    go true e = entries_most n p (accepted_few p (eqb-true _ 0 e))
    go false e = omega (arith, refused_short (check_plain p).refusal (check_plain p).index)
