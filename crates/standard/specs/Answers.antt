-- What a call of the libraries gives, a value or a refusal, as C has it: 0 and the values, or the refusal's number and zeros. The calls'
-- definitions answer in C's form, and the libraries' contracts say that what they give comes to that.
use Rattle.std.specs.Prelude.{List, ℕ, Result, Ok, Err}
use Rattle.standard.specs.Bytes.{choose, zeros}
use Rattle.standard.specs.Lines.{TextAnswer}
use Rattle.standard.specs.Lists.{refused}
use Rattle.standard.specs.Refusals.{book_too_long, book_not_whole, wrong_kind, not_zero, wrong_number, flag_set, wrong_mask, shared_bit, wrong_width, value_wide}
use Rattle.standard.specs.Refusals.{wrong_length, output_short, wrong_sides, wrong_filling, wrong_parent, parent_length, no_input, group_unreadable, group_disagrees}
use Rattle.standard.specs.Refusals.{has_length}
use Rattle.standard.specs.Sizes.{ring_size}
use Rattle.standard.specs.declared.Authentication.{Authentication}
use Rattle.standard.specs.declared.BookAnswer.{BookAnswer}
use Rattle.standard.specs.declared.Bytes10.{Bytes10}
use Rattle.standard.specs.declared.Bytes15.{Bytes15}
use Rattle.standard.specs.declared.Bytes16.{Bytes16}
use Rattle.standard.specs.declared.Bytes8.{Bytes8}
use Rattle.standard.specs.declared.Card.{Card}
use Rattle.standard.specs.declared.CarrierFields.{CarrierFields}
use Rattle.standard.specs.declared.CarrierIdentity.{CarrierIdentity}
use Rattle.standard.specs.declared.Cell.{Cell}
use Rattle.standard.specs.declared.CellFields.{CellFields}
use Rattle.standard.specs.declared.Changes.{Changes}
use Rattle.standard.specs.declared.CountedAnswer.{CountedAnswer}
use Rattle.standard.specs.declared.CountedRefusal.{CountedRefusal}
use Rattle.standard.specs.declared.CountedWritten.{CountedWritten}
use Rattle.standard.specs.declared.Identity.{Identity}
use Rattle.standard.specs.declared.Opened.{Opened}
use Rattle.standard.specs.declared.OpenedNumbered.{OpenedNumbered}
use Rattle.standard.specs.declared.Refusal.{Refusal}
use Rattle.standard.specs.declared.Refusal.TheVariants.{BookTooLong, BookNotWhole, WrongKind, NotZero, WrongNumber, FlagSet, WrongMask, SharedBit, WrongWidth, ValueWide, WrongLength, OutputShort, WrongSides, WrongFilling, WrongParent, ParentLength, NoInput, GroupUnreadable, GroupDisagrees}
use Rattle.standard.specs.declared.RefusedAt.{RefusedAt}
use Rattle.standard.specs.declared.ResponseAndKey.{ResponseAndKey}
use Rattle.standard.specs.declared.RestoredCard.{RestoredCard}
use Rattle.standard.specs.declared.RingAndResponses.{RingAndResponses}
use Rattle.standard.specs.declared.RingMade.{RingMade}
use Rattle.standard.specs.declared.Tally.{Tally}
use Rattle.standard.specs.declared.Unsealed.{Unsealed}
use Rattle.standard.specs.declared.UnsealedGroup.{UnsealedGroup}
use Rattle.standard.specs.declared.UnsealedNumbered.{UnsealedNumbered}
use Rattle.standard.specs.declared.Value.{Value}
use Rattle.standard.specs.declared.Written.{Written}

abbrev pub refusal_number : Refusal → ℕ
refusal_number BookTooLong = book_too_long
refusal_number BookNotWhole = book_not_whole
refusal_number WrongKind = wrong_kind
refusal_number NotZero = not_zero
refusal_number WrongNumber = wrong_number
refusal_number FlagSet = flag_set
refusal_number WrongMask = wrong_mask
refusal_number SharedBit = shared_bit
refusal_number WrongWidth = wrong_width
refusal_number ValueWide = value_wide
refusal_number WrongLength = wrong_length
refusal_number OutputShort = output_short
refusal_number WrongSides = wrong_sides
refusal_number WrongFilling = wrong_filling
refusal_number WrongParent = wrong_parent
refusal_number ParentLength = parent_length
refusal_number NoInput = no_input
refusal_number GroupUnreadable = group_unreadable
refusal_number GroupDisagrees = group_disagrees

-- 0, or the number of the refusal
abbrev pub refused_by : {A : Type 0} → Result A Refusal → ℕ
refused_by (Ok x) = 0
refused_by (Err r) = refusal_number r

-- the string, if it has n bytes
abbrev pub exactly : ℕ → List ℕ → Result (List ℕ) Refusal
exactly n xs = choose (has_length n xs) (Ok xs) (Err WrongLength)

abbrev pub bytes8 : Result (List ℕ) Refusal → Bytes8
bytes8 (Ok b) = record { refusal = 0; bytes = b }
bytes8 (Err r) = record { refusal = refusal_number r; bytes = zeros 8 }

abbrev pub bytes10 : Result (List ℕ) Refusal → Bytes10
bytes10 (Ok b) = record { refusal = 0; bytes = b }
bytes10 (Err r) = record { refusal = refusal_number r; bytes = zeros 10 }

abbrev pub bytes15 : Result (List ℕ) Refusal → Bytes15
bytes15 (Ok b) = record { refusal = 0; bytes = b }
bytes15 (Err r) = record { refusal = refusal_number r; bytes = zeros 15 }

abbrev pub bytes16 : Result (List ℕ) Refusal → Bytes16
bytes16 (Ok b) = record { refusal = 0; bytes = b }
bytes16 (Err r) = record { refusal = refusal_number r; bytes = zeros 16 }

abbrev pub authentication_answer : Result ResponseAndKey Refusal → Authentication
authentication_answer (Ok a) = record { refusal = 0; response = a.response; key = a.key }
authentication_answer (Err r) = record { refusal = refusal_number r; response = zeros 4; key = zeros 10 }

abbrev pub identity_answer : Result ℕ Refusal → Identity
identity_answer (Ok n) = record { refusal = 0; identity = n }
identity_answer (Err r) = record { refusal = refusal_number r; identity = 0 }

abbrev pub unsealed_answer : Result (Opened 10) Refusal → Unsealed
unsealed_answer (Ok o) = record { refusal = 0; key = o.key; failed_checks = o.failed_checks }
unsealed_answer (Err r) = record { refusal = refusal_number r; key = zeros 10; failed_checks = 0 }

abbrev pub unsealed_numbered_answer : Result OpenedNumbered Refusal → UnsealedNumbered
unsealed_numbered_answer (Ok o) = record { refusal = 0; key = o.key; number = o.number; failed_checks = o.failed_checks }
unsealed_numbered_answer (Err r) = record { refusal = refusal_number r; key = zeros 10; number = 0; failed_checks = 0 }

abbrev pub unsealed_group_answer : Result (Opened 12) Refusal → UnsealedGroup
unsealed_group_answer (Ok o) = record { refusal = 0; key = o.key; failed_checks = o.failed_checks }
unsealed_group_answer (Err r) = record { refusal = refusal_number r; key = zeros 12; failed_checks = 0 }

abbrev pub value_answer : Result ℕ Refusal → Value
value_answer (Ok v) = record { refusal = 0; value = v }
value_answer (Err r) = record { refusal = refusal_number r; value = 0 }

abbrev pub cell_answer : Result CellFields Refusal → Cell
cell_answer (Ok c) = record { refusal = 0; location_area = c.location_area; carrier = c.carrier; colour_code = c.colour_code }
cell_answer (Err r) = record { refusal = refusal_number r; location_area = 0; carrier = 0; colour_code = 0 }

abbrev pub carrier_identity_answer : Result CarrierFields Refusal → CarrierIdentity
carrier_identity_answer (Ok c) = record { refusal = 0; carrier = c.carrier; identity = c.identity }
carrier_identity_answer (Err r) = record { refusal = refusal_number r; carrier = 0; identity = 0 }

abbrev pub card_answer : Result RestoredCard Refusal → Card
card_answer (Ok c) = record { refusal = 0; key = c.key; card = c.card }
card_answer (Err r) = record { refusal = refusal_number r; key = zeros 12; card = zeros 16 }

abbrev pub ring_made_answer : Result RingAndResponses Refusal → RingMade
ring_made_answer (Ok m) = record { refusal = 0; ring = m.ring; response1 = m.response1; response2 = m.response2 }
ring_made_answer (Err r) = record { refusal = refusal_number r; ring = zeros ring_size; response1 = zeros 4; response2 = zeros 4 }

abbrev pub tally_answer : Result Changes Refusal → Tally
tally_answer (Ok t) = record { refusal = 0; flips = t.flips; total = t.total; least = t.least; greatest = t.greatest }
tally_answer (Err r) = record { refusal = refusal_number r; flips = 0; total = 0; least = 0; greatest = 0 }

abbrev pub book_answer : Result Written RefusedAt → BookAnswer
book_answer (Ok w) = record { refusal = 0; index = w.records; written = w.bytes }
book_answer (Err a) = refused (refusal_number a.refusal) a.index

abbrev pub counted_answer : Result CountedWritten CountedRefusal → CountedAnswer
counted_answer (Ok w) = record { refusal = 0; index = w.records; written = w.bytes; runs = w.runs }
counted_answer (Err a) = record { refusal = refusal_number a.refusal; index = a.index; written = 0; runs = a.runs }

abbrev pub text_answer : Result ℕ Refusal → TextAnswer
text_answer (Ok n) = record { refusal = 0; written = n }
text_answer (Err r) = record { refusal = refusal_number r; written = 0 }
