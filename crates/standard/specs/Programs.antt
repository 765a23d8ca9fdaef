-- What the programs makering, sealbook and openbook take and say beside the calls: a sitting's file, and the line for standard error.
use Rattle.std.specs.Prelude.{List, [], ◌∷◌, ◌++◌, ℕ, ◌+◌, ◌*◌, eqb}
use Rattle.standard.specs.Bytes.{◌!◌, part, choose}
use Rattle.standard.specs.Keys.{ring_call}
use Rattle.standard.specs.PlainListing.{refused_at}
use Rattle.standard.specs.Refusals.{book_too_long, book_not_whole, wrong_kind, not_zero, wrong_number, flag_set, wrong_mask, shared_bit}
use Rattle.standard.specs.Refusals.{wrong_width, value_wide, wrong_length, output_short, wrong_sides, wrong_filling, wrong_parent}
use Rattle.standard.specs.Refusals.{parent_length, no_input, group_unreadable, group_disagrees, has_length, ring_made}
use Rattle.standard.specs.Sizes.{sitting_size}
use Rattle.standard.specs.Lines.{ascii, decimal, text_call}
use Rattle.standard.specs.declared.BookAnswer.{BookAnswer}
use Rattle.standard.specs.declared.CountedAnswer.{CountedAnswer}
use Rattle.standard.specs.declared.RingMade.{RingMade}
use Rattle.standard.specs.Lines.{TextAnswer}

-- ---- makering

-- the ring recipe on a sitting's bytes: root 16, RS, RSO, RAND1, RAND2 and C 10 each, group key 12 (02, 4), sides 1 (02, 1), response mask
-- 2, key mask 2, the high byte first
unfoldable pub sitting_ring : List ℕ → RingMade
sitting_ring s =
    choose (has_length sitting_size s)
    (ring_call (part 0 16 s) (part 16 10 s) (part 26 10 s) (part 36 10 s) (part 46 10 s) (part 56 10 s) (part 66 12 s)
    (s ! 78) (256 * s ! 79 + s ! 80) (256 * s ! 81 + s ! 82))
    (ring_made wrong_length [] [] [])

-- ---- a refusal's meaning (01, Who causes which number)

-- the text beside a number in a list
abbrev pub beside : ℕ → List (ℕ × List ℕ) → List ℕ
beside n [] = ascii "not in the list"
beside n (t ∷ ts) = choose (eqb n t.0) t.1 (beside n ts)

abbrev pub meanings : List (ℕ × List ℕ)
meanings =
    (book_too_long, ascii "book longer than 1,024 records")
    ∷ (book_not_whole, ascii "book not a whole number of records")
    ∷ (wrong_kind, ascii "kind not 1 to 6")
    ∷ (not_zero, ascii "body byte not zero")
    ∷ (wrong_number, ascii "kind 2 or 5 number above 31")
    ∷ (flag_set, ascii "flag set while opening a book")
    ∷ (wrong_mask, ascii "mask with a wrong number of ones")
    ∷ (shared_bit, ascii "masks that share a bit")
    ∷ (wrong_width, ascii "width not 16 to 32")
    ∷ (value_wide, ascii "value too wide for its field")
    ∷ (wrong_length, ascii "input of a wrong length")
    ∷ (output_short, ascii "output shorter than the result")
    ∷ (wrong_sides, ascii "number of sides not 1 to 3")
    ∷ (wrong_filling, ascii "operation above 5 or wrong filling")
    ∷ (wrong_parent, ascii "parent not before its record")
    ∷ (parent_length, ascii "parent of a wrong length")
    ∷ (no_input, ascii "no input gives this result")
    ∷ (group_unreadable, ascii "two unreadable bytes in one group")
    ∷ (group_disagrees, ascii "readable group that disagrees")
    ∷ []

unfoldable pub meaning : ℕ → List ℕ
meaning n = beside n meanings

-- ---- the line about an answer

-- "refused N at I (its meaning)"
unfoldable pub meaning_text : ℕ → ℕ → List ℕ
meaning_text refusal index = refused_at refusal index ++ ascii " (" ++ meaning refusal ++ ascii ")"

-- "wrote N bytes"
unfoldable pub wrote_text : ℕ → List ℕ
wrote_text n = ascii "wrote " ++ decimal n ++ ascii " bytes"

unfoldable pub answer_text : (refusal index written : ℕ) → List ℕ
answer_text refusal index written = choose (eqb refusal 0) (wrote_text written) (meaning_text refusal index)

unfoldable pub answer_line : BookAnswer → List ℕ
answer_line a = answer_text a.refusal a.index a.written ++ ascii "\n"

-- and the cipher runs, ", R runs" (02, 8)
unfoldable pub counted_line : CountedAnswer → List ℕ
counted_line a = answer_text a.refusal a.index a.written ++ ascii ", " ++ decimal a.runs ++ ascii " runs\n"

-- the calls: the line into an output
abbrev pub report_call : BookAnswer → List ℕ → TextAnswer × List ℕ
report_call a out = text_call (answer_line a) out

abbrev pub counted_report_call : CountedAnswer → List ℕ → TextAnswer × List ℕ
counted_report_call a out = text_call (counted_line a) out
