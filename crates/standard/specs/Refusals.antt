-- Refusals (01, Who causes which number): the numbers by name, their tests, and the answers of single calls.
-- A book is tested for 11, 1, 2 and 12, and then each of its records for 3, and for 4 and 5 when it is sealed or for 6 when it is opened;
-- a class for 11, 1, 2, 12, 7 and 8; a lineage sheet for 1, 2 and 12, and then each of its records for 14, 15 and 16; a book to be filed by
-- column for 1, 2 and 12; a tally for 1 and 2. A single call tests 11, 13, 7, 8, 9, 10, 5, 17, 18, 19.
use Rattle.std.specs.Prelude.{Bool, ◌&&◌, List, [], ◌∷◌, ℕ, ◌^◌, eqb, leb, ltb, length}
use Rattle.std.specs.Int.Bits.{bit_and}
use Rattle.std.specs.Int.Count.{ones}
use Rattle.standard.specs.Bytes.{choose, zeros}
use Rattle.standard.specs.Sizes.{ring_size}
use Rattle.standard.specs.declared.Authentication.{Authentication}
use Rattle.standard.specs.declared.Bytes10.{Bytes10}
use Rattle.standard.specs.declared.Bytes15.{Bytes15}
use Rattle.standard.specs.declared.Bytes16.{Bytes16}
use Rattle.standard.specs.declared.Bytes8.{Bytes8}
use Rattle.standard.specs.declared.Card.{Card}
use Rattle.standard.specs.declared.CarrierIdentity.{CarrierIdentity}
use Rattle.standard.specs.declared.Cell.{Cell}
use Rattle.standard.specs.declared.Identity.{Identity}
use Rattle.standard.specs.declared.RingMade.{RingMade}
use Rattle.standard.specs.declared.Value.{Value}

-- ---- the candidate's

-- a book has more bytes than 1,024 records
abbrev pub book_too_long : ℕ
book_too_long = 1

-- a book ends within a record
abbrev pub book_not_whole : ℕ
book_not_whole = 2

-- a kind byte is none of 1 to 6 (02, 4)
abbrev pub wrong_kind : ℕ
wrong_kind = 3

-- a byte that fills up a body is not zero
abbrev pub not_zero : ℕ
not_zero = 4

-- a number of kind 2 or 5 has more than five bits, in a book or in TA51
abbrev pub wrong_number : ℕ
wrong_number = 5

-- a record of a book opens with its flag set
abbrev pub flag_set : ℕ
flag_set = 6

-- (02, 11) a group of a card has more than one unreadable byte
abbrev pub group_unreadable : ℕ
group_unreadable = 18

-- (02, 11) a group of a card is readable and disagrees with itself
abbrev pub group_disagrees : ℕ
group_disagrees = 19

-- ---- the setter's

-- a mask has too few or too many ones
abbrev pub wrong_mask : ℕ
wrong_mask = 7

-- a bit stands in both masks
abbrev pub shared_bit : ℕ
shared_bit = 8

-- a width is below 16 or above 32
abbrev pub wrong_width : ℕ
wrong_width = 9

-- a value has more bits than its field
abbrev pub value_wide : ℕ
value_wide = 10

-- (02, 1) the number of sides is none of 1, 2 and 3
abbrev pub wrong_sides : ℕ
wrong_sides = 13

-- (02, 5) a sheet's record has an operation above 5, or breaks its filling rule
abbrev pub wrong_filling : ℕ
wrong_filling = 14

-- (02, 5) a parent stands at or after the record itself
abbrev pub wrong_parent : ℕ
wrong_parent = 15

-- (02, 5) a parent has another length than the operation takes
abbrev pub parent_length : ℕ
parent_length = 16

-- (02, 10) no values that fit their fields give the result
abbrev pub no_input : ℕ
no_input = 17

-- ---- the host's

-- an input has another length than its call takes
abbrev pub wrong_length : ℕ
wrong_length = 11

-- the output has fewer bytes than the result
abbrev pub output_short : ℕ
output_short = 12

-- ---- tests

-- the string has n bytes
abbrev pub has_length : ℕ → List ℕ → Bool
has_length n xs = eqb (length xs) n

-- the response mask has four ones and the key mask ten; none is shared
abbrev pub mask_tests : ℕ → ℕ → List (Bool × ℕ)
mask_tests rm km = (eqb (ones rm) 4 && eqb (ones km) 10, wrong_mask) ∷ (eqb (bit_and rm km) 0, shared_bit) ∷ []

-- a width of TB1 and TB3
abbrev pub valid_width : ℕ → Bool
valid_width w = leb 16 w && leb w 32

-- the value has at most w bits
abbrev pub fits : ℕ → ℕ → Bool
fits w v = ltb v (2 ^ w)

-- the number of the first test that fails, in the order written; 0 if none does
abbrev pub first : List (Bool × ℕ) → ℕ
first [] = 0
first (t ∷ ts) = choose t.0 (first ts) t.1

-- ---- answers of single calls: 0 and the values, or a refusal and zeros

abbrev pub answer8 : ℕ → List ℕ → Bytes8
answer8 r b = record { refusal = r; bytes = choose (eqb r 0) b (zeros 8) }

abbrev pub answer10 : ℕ → List ℕ → Bytes10
answer10 r b = record { refusal = r; bytes = choose (eqb r 0) b (zeros 10) }

abbrev pub answer15 : ℕ → List ℕ → Bytes15
answer15 r b = record { refusal = r; bytes = choose (eqb r 0) b (zeros 15) }

abbrev pub answer16 : ℕ → List ℕ → Bytes16
answer16 r b = record { refusal = r; bytes = choose (eqb r 0) b (zeros 16) }

abbrev pub authentication : ℕ → List ℕ → List ℕ → Authentication
authentication r s k = record { refusal = r; response = choose (eqb r 0) s (zeros 4); key = choose (eqb r 0) k (zeros 10) }

abbrev pub identity : ℕ → ℕ → Identity
identity r n = record { refusal = r; identity = choose (eqb r 0) n 0 }

-- before key and number are taken out of the body; f has a bit for each check of the text that fails (02, 6)
pub record UnsealedBody : Type 0 where
  pub refusal : ℕ
  pub body : List ℕ
  pub failed_checks : ℕ

abbrev pub unsealed_body : ℕ → List ℕ → ℕ → UnsealedBody
unsealed_body r b f = record { refusal = r; body = choose (eqb r 0) b (zeros 12); failed_checks = choose (eqb r 0) f 0 }

abbrev pub ring_made : ℕ → List ℕ → List ℕ → List ℕ → RingMade
ring_made r k s t =
    record { refusal = r; ring = choose (eqb r 0) k (zeros ring_size); response1 = choose (eqb r 0) s (zeros 4); response2 = choose (eqb r 0) t (zeros 4) }

abbrev pub value : ℕ → ℕ → Value
value r v = record { refusal = r; value = choose (eqb r 0) v 0 }

abbrev pub cell : ℕ → ℕ → ℕ → ℕ → Cell
cell r la cn cc =
    record { refusal = r; location_area = choose (eqb r 0) la 0; carrier = choose (eqb r 0) cn 0; colour_code = choose (eqb r 0) cc 0 }

abbrev pub carrier_identity : ℕ → ℕ → ℕ → CarrierIdentity
carrier_identity r cn ssi = record { refusal = r; carrier = choose (eqb r 0) cn 0; identity = choose (eqb r 0) ssi 0 }

abbrev pub card : ℕ → List ℕ → List ℕ → Card
card r k c = record { refusal = r; key = choose (eqb r 0) k (zeros 12); card = choose (eqb r 0) c (zeros 16) }
