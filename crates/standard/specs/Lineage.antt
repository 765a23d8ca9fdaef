-- The lineage sheet (02, 5): a tree of keys, each given or derived from two others.
use Rattle.std.specs.Prelude.{Bool, ◌&&◌, ◌||◌, List, [], ◌∷◌, ℕ, zero, suc, ◌+◌, ◌*◌, ◌/◌, eqb, leb, ltb, length}
use Rattle.standard.specs.Bytes.{◌!◌, part, zeros, same, choose}
use Rattle.standard.specs.Keys.{ta11, ta21, ta41, ta71}
use Rattle.standard.specs.Lists.{record_at, joined, list_tests, records_call}
use Rattle.standard.specs.Mixing.{tb4}
use Rattle.standard.specs.Refusals.{wrong_filling, wrong_parent, parent_length, first}
use Rattle.standard.specs.Sizes.{sheet_size, value_size}
use Rattle.standard.specs.declared.BookAnswer.{BookAnswer}

-- ---- a record: the operation in byte 0, the parents' indexes in two bytes each, big-endian, the length in byte 5, and sixteen bytes of
-- value. Operation 0 has the key itself; the others derive it from the parents, by TA11 (1), TA21 (2), TA41 (3), TB4 (4) or TA71 (5)

abbrev pub operation : List ℕ → ℕ
operation p = p ! 0

abbrev pub parent1 : List ℕ → ℕ
parent1 p = 256 * p ! 1 + p ! 2

abbrev pub parent2 : List ℕ → ℕ
parent2 p = 256 * p ! 3 + p ! 4

-- the bytes that operations 1 to 5 take of the first parent, and give; of the second they take 10
abbrev pub derived_length : ℕ → ℕ
derived_length k = choose (leb k 3) 16 10

-- the bytes of a record's key
abbrev pub key_length : List ℕ → ℕ
key_length p = choose (eqb (operation p) 0) (p ! 5) (derived_length (operation p))

-- ---- the refusal of a record

-- a given key: both parents zero, a length of 10 or 16, and zero bytes after the key
abbrev pub given_filled : List ℕ → Bool
given_filled p = same (part 1 4 p) (zeros 4) && (eqb (p ! 5) 16 || (eqb (p ! 5) 10 && same (part 16 6 p) (zeros 6)))

-- a derived key: length and value zero
abbrev pub derived_filled : List ℕ → Bool
derived_filled p = leb (operation p) 5 && same (part 5 17 p) (zeros 17)

abbrev pub filled : List ℕ → Bool
filled p = choose (eqb (operation p) 0) (given_filled p) (derived_filled p)

-- both parents of record i stand before it, and then have the lengths that its operation takes
abbrev pub parent_tests : (s p : List ℕ) (i : ℕ) → List (Bool × ℕ)
parent_tests s p i =
    (ltb (parent1 p) i && ltb (parent2 p) i, wrong_parent)
    ∷ (eqb (key_length (record_at sheet_size s (parent1 p))) (derived_length (operation p)) && eqb (key_length (record_at sheet_size s (parent2 p))) 10, parent_length)
    ∷ []

-- 14, then 15 and 16 where there are parents; or 0
unfoldable pub lineage_fault : List ℕ → ℕ → ℕ
lineage_fault s i =
    let p = record_at sheet_size s i in
    first ((filled p, wrong_filling) ∷ choose (eqb (operation p) 0) [] (parent_tests s p i))

-- ---- the value of a record: its key, 16 bytes, left-aligned and zero-filled

-- the key that an operation 1 to 5 makes of the keys in two values
unfoldable pub derived : ℕ → List ℕ → List ℕ → List ℕ
derived k a b =
    let a16 = part 0 16 a in
    let a10 = part 0 10 a in
    let b10 = part 0 10 b in
    choose (eqb k 1) (ta11 a16 b10) (choose (eqb k 2) (ta21 a16 b10) (choose (eqb k 3) (ta41 a16 b10) (choose (eqb k 4) (tb4 a10 b10) (ta71 a10 b10))))

-- the value of the record p whose parents have the values a and b
unfoldable pub value_from : List ℕ → List ℕ → List ℕ → List ℕ
value_from p a b = part 0 value_size (choose (eqb (operation p) 0) (part 6 16 p) (derived (operation p) a b))

-- the value of record i, from n generations: its own, its parents' and so on
unfoldable pub value_within : ℕ → List ℕ → ℕ → List ℕ
value_within zero s i = zeros value_size
value_within (suc n) s i =
    let p = record_at sheet_size s i in
    value_from p (value_within n s (parent1 p)) (value_within n s (parent2 p))

-- a parent stands before its record, so record i has at most i generations of ancestors
unfoldable pub value_of : List ℕ → ℕ → List ℕ
value_of s i = value_within (suc i) s i

-- ---- the call: the lengths in the order 1, 2, 12, and then the records; every record's value is written

unfoldable pub lineage_call : (s out : List ℕ) → BookAnswer × List ℕ
lineage_call s out =
    let n = length s / sheet_size in
    records_call (list_tests sheet_size value_size (length s) (length out)) n (lineage_fault s) value_size (joined n (value_of s)) out
