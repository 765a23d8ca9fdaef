-- The listing of a plain book (01, Program plainlist): the bytes that plainlist prints.
use Rattle.std.specs.Prelude.{List, ◌++◌, ℕ, ◌+◌, ◌*◌, ◌/◌, eqb, length, drop}
use Rattle.standard.specs.Books.{record_kind, check_plain}
use Rattle.standard.specs.Bytes.{◌!◌, part, choose}
use Rattle.standard.specs.Lists.{record_at, joined}
use Rattle.standard.specs.Seals.{key_length}
use Rattle.standard.specs.Lines.{ascii, decimal, hex}
use Rattle.standard.specs.declared.Algorithm.{Algorithm}
use Rattle.standard.specs.declared.Algorithm.TheVariants.{Ta31, Ta51, Ta81, Ta91}

-- ---- the lines

-- the key number of a plain record
abbrev pub number_text : Algorithm → List ℕ → List ℕ
number_text Ta31 p = ascii "-"
number_text Ta51 p = decimal (p ! 17)
number_text Ta81 p = decimal (256 * p ! 16 + p ! 17)
number_text Ta91 p = ascii "-"

-- plain record p, at index i
unfoldable pub entry_line : ℕ → List ℕ → List ℕ
entry_line i p =
    ascii "entry " ++ decimal i ++ ascii " kind " ++ decimal (p ! 0) ++ ascii " identity " ++ hex (part 1 3 p)
    ++ ascii " version " ++ decimal (256 * p ! 4 + p ! 5) ++ ascii " key " ++ hex (part 6 (key_length (record_kind p).algorithm) p)
    ++ ascii " number " ++ number_text (record_kind p).algorithm p ++ ascii "\n"

-- the first n records of a book
unfoldable pub entry_lines : ℕ → List ℕ → List ℕ
entry_lines n p = joined n (λ i. entry_line i (record_at 18 p i))

unfoldable pub entries_line : ℕ → List ℕ
entries_line n = ascii "entries " ++ decimal n ++ ascii "\n"

abbrev pub refused_at : ℕ → ℕ → List ℕ
refused_at refusal index = ascii "refused " ++ decimal refusal ++ ascii " at " ++ decimal index

unfoldable pub refused_line : ℕ → ℕ → List ℕ
refused_line refusal index = refused_at refusal index ++ ascii "\n"

-- ---- the listing

unfoldable pub listing : List ℕ → List ℕ
listing p =
    choose (eqb (check_plain p).refusal 0)
    (entry_lines (length p / 18) p ++ entries_line (length p / 18))
    (refused_line (check_plain p).refusal (check_plain p).index)

-- the bytes that are enough for every listing: 160 for each of 1,024 records' lines and for the last one
abbrev pub listing_room : ℕ
listing_room = 164000

-- the call, into an output of so many bytes: the listing's length, and the listing over the front of the output
abbrev pub list_call : List ℕ → List ℕ → ℕ × List ℕ
list_call p out = (length (listing p), listing p ++ drop (length (listing p)) out)
