-- The listing of 01's example, lines about answers, and the count that a call for a text answers.
use Rattle.standard.proofs.Prelude.{◌≡◌, refl, sym, subst, Bool, true, false, List, [], ◌∷◌, ◌++◌, ℕ, ◌≤◌, arith, ltb, length, drop}
use Rattle.standard.proofs.Prelude.{length-append}
use Rattle.standard.specs.Books.{plain_fault, check_plain}
use Rattle.standard.specs.Lists.{refused as refused_book, answer}
use Rattle.standard.specs.Bytes.{choose}
use Rattle.standard.specs.PlainListing.{entry_line, entry_lines, entries_line, refused_line, listing}
use Rattle.standard.specs.Programs.{meaning, meaning_text, wrote_text, answer_text, answer_line, counted_line}
use Rattle.standard.specs.Refusals.{output_short}
use Rattle.standard.specs.Seals.{kind_of}
use Rattle.standard.specs.Lines.{ascii, digits, hex_digit, hex, text_call}
use Rattle.standard.specs.Lines.{TextAnswer}

-- 01's book and the two lines that it prints; the same book with a byte that must be zero; the empty book
pub record Listings : Type 0 where
  pub one : listing (0x02 ∷ 0x12 ∷ 0x34 ∷ 0x56 ∷ 0x00 ∷ 0x07 ∷ 0x01 ∷ 0x02 ∷ 0x03 ∷ 0x04 ∷ 0x05 ∷ 0x06 ∷ 0x07 ∷ 0x08 ∷ 0x09 ∷ 0x0a ∷ 0x00 ∷ 0x03 ∷ [])
      ≡ ascii "entry 0 kind 2 identity 123456 version 7 key 0102030405060708090a number 3\nentries 1\n"
  pub refused : listing (0x02 ∷ 0x12 ∷ 0x34 ∷ 0x56 ∷ 0x00 ∷ 0x07 ∷ 0x01 ∷ 0x02 ∷ 0x03 ∷ 0x04 ∷ 0x05 ∷ 0x06 ∷ 0x07 ∷ 0x08 ∷ 0x09 ∷ 0x0a ∷ 0x01 ∷ 0x03 ∷ [])
      ≡ ascii "refused 4 at 0\n"
  pub none : listing [] ≡ ascii "entries 0\n"

pub listings : Listings
unfolding digits hex_digit hex entry_line entry_lines entries_line refused_line listing check_plain answer plain_fault kind_of
listings = record { one = refl; refused = refl; none = refl }

-- the line about a book that was written, and about one that was refused; both with their cipher runs (02, 8)
pub record Reports : Type 0 where
  pub wrote : answer_line (record { refusal = 0; index = 6; written = 126 }) ≡ ascii "wrote 126 bytes\n"
  pub refused : answer_line (refused_book 6 3) ≡ ascii "refused 6 at 3 (flag set while opening a book)\n"
  pub counted : counted_line (record { refusal = 0; index = 6; written = 126; runs = 13 }) ≡ ascii "wrote 126 bytes, 13 runs\n"
  pub refused_counted : counted_line (record { refusal = 6; index = 3; written = 0; runs = 8 })
      ≡ ascii "refused 6 at 3 (flag set while opening a book), 8 runs\n"

pub reports : Reports
unfolding digits answer_line counted_line answer_text wrote_text meaning_text meaning
reports = record { wrote = refl; refused = refl; counted = refl; refused_counted = refl }

-- what a call that writes a text answers counts bytes of the output
abbrev Within : TextAnswer × List ℕ → Type 0
Within x = x.0.written ≤ length x.1

pub counted : (t out : List ℕ) {r : TextAnswer} {exit : List ℕ} → (r, exit) ≡ text_call t out → r.written ≤ length exit
unfolding text_call
counted t out e = subst Within (sym e) (go (ltb (length out) (length t)))
  where
    go : (s : Bool)
        → Within (choose s (record { refusal = output_short; written = 0 }, out) (record { refusal = 0; written = length t }, t ++ drop (length t) out))
    go true = omega arith
    go false = simp length-append (omega arith)
