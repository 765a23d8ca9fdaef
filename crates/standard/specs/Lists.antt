-- Lists of records (01, Books): records of w bytes, one after the other, at most 1,024 of them, and the calls that work on them.
use Rattle.std.specs.Prelude.{Bool, List, [], ◌∷◌, ◌++◌, ℕ, zero, suc, ◌*◌, ◌/◌, ◌%◌, eqb, leb, drop}
use Rattle.standard.specs.Bytes.{part, choose}
use Rattle.standard.specs.Refusals.{book_too_long, book_not_whole, output_short, first}
use Rattle.standard.specs.Sizes.{most_records}
use Rattle.standard.specs.declared.BookAnswer.{BookAnswer}

-- record i, which starts at w times its index
abbrev pub record_at : ℕ → List ℕ → ℕ → List ℕ
record_at w xs i = part (w * i) w xs

-- g 0, g 1, .. g (n - 1), one after the other
abbrev pub joined : ℕ → (ℕ → List ℕ) → List ℕ
joined zero g = []
joined (suc n) g = joined n g ++ g n

-- f of each of the first n records, one after the other
abbrev pub each : ℕ → ℕ → (List ℕ → List ℕ) → List ℕ → List ℕ
each n w f xs = joined n (λ i. f (record_at w xs i))

-- ---- the tests of the lengths

-- 1 and 2: `size` bytes are at most 1,024 records of w bytes, and whole ones
abbrev pub length_tests : (w size : ℕ) → List (Bool × ℕ)
length_tests w size = (leb size (w * most_records), book_too_long) ∷ (eqb (size % w) 0, book_not_whole) ∷ []

-- 1, 2 and 12: the output has room for a record of v bytes for each
abbrev pub list_tests : (w v size room : ℕ) → List (Bool × ℕ)
list_tests w v size room = length_tests w size ++ (leb (v * (size / w)) room, output_short) ∷ []

-- ---- the answer

-- the first i below n at which the fault is not 0; n if there is none
abbrev pub first_fault : ℕ → (ℕ → ℕ) → ℕ
first_fault zero g = zero
first_fault (suc n) g = choose (eqb (g 0) 0) (suc (first_fault n (λ i. g (suc i)))) 0

abbrev pub refused : ℕ → ℕ → BookAnswer
refused k i = record { refusal = k; index = i; written = 0 }

-- by the refusal of the tests, or 0; then by the fault g of each of n records. Where nothing is refused: 0, how many records, and how
-- many bytes
unfoldable pub answer : ℕ → ℕ → (ℕ → ℕ) → ℕ → BookAnswer
answer head n g written =
    choose (eqb head 0)
    (choose (eqb (first_fault n g) n) (record { refusal = 0; index = n; written = written }) (refused (g (first_fault n g)) (first_fault n g)))
    (refused head 0)

-- ---- a call that writes v bytes for each of n records

-- by its tests, then by the fault g of each record. The answer, and the output at exit: what was made of the records and then the output's
-- own rest, or the output as it was
unfoldable pub records_call : (tests : List (Bool × ℕ)) (n : ℕ) (g : ℕ → ℕ) (v : ℕ) (made out : List ℕ) → BookAnswer × List ℕ
records_call tests n g v made out =
    let a = answer (first tests) n g (v * n) in
    (a, choose (eqb a.refusal 0) (made ++ drop a.written out) out)
