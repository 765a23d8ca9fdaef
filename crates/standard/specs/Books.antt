-- Books (01, Books): rings, records, well-formed books, sealed forms, and the book calls.
use Rattle.std.specs.Prelude.{Bool, true, false, List, [], ◌∷◌, ◌++◌, ◌≡◌, ℕ, ◌*◌, ◌/◌, ◌%◌, ◌<◌, ◌≤◌, length, Option, Some, None}
use Rattle.standard.specs.Bytes.{◌!◌, part, choose}
use Rattle.standard.specs.Identity.{ta61, ta61⁻¹}
use Rattle.standard.specs.Lists.{record_at, each, length_tests, list_tests, answer, records_call}
use Rattle.standard.specs.Refusals.{wrong_kind, flag_set, wrong_length, has_length, first}
use Rattle.standard.specs.Runs.{text_runs, call_runs}
use Rattle.standard.specs.Seals.{kind_of, form, seal, unseal, clears}
use Rattle.standard.specs.Sizes.{ring_size, plain_size, sealed_size, most_records}
use Rattle.standard.specs.declared.Algorithm.TheVariants.{Ta91}
use Rattle.standard.specs.declared.BookAnswer.{BookAnswer}
use Rattle.standard.specs.declared.CountedAnswer.{CountedAnswer}
use Rattle.standard.specs.declared.Kind.{Kind}
use Rattle.standard.specs.declared.RingKey.{RingKey}
use Rattle.standard.specs.declared.RingKey.TheVariants.{D, O, G}

-- ---- a ring: the keys D, O, C and G, one after the other. D has 10 bytes and seals kind 1, O has 16 and seals kinds 2 to 4, C has 10
-- and encrypts identities, G has 16 and seals kinds 5 and 6 (02, 4)

abbrev pub ring_key : RingKey → List ℕ → List ℕ
ring_key D r = part 0 10 r
ring_key O r = part 10 16 r
ring_key G r = part 36 16 r

abbrev pub sealing_key : Kind → List ℕ → List ℕ
sealing_key k r = ring_key k.under r

abbrev pub common_key : List ℕ → List ℕ
common_key r = part 26 10 r

-- ---- a record: kind 1, identity 3, version 2, then a body of 12 bytes (plain, 18) or a sealed text of 15 (sealed, 21)

abbrev pub is_known : Option Kind → Bool
is_known (Some k) = true
is_known None = false

-- the kind; a byte that names none is refused before it comes to that
abbrev pub named : Option Kind → Kind
named (Some k) = k
named None = record { algorithm = Ta91; under = O }

abbrev pub record_kind : List ℕ → Kind
record_kind p = named (kind_of (p ! 0))

-- the refusal of a plain record: 3, then 4, 5; or 0
unfoldable pub plain_fault : List ℕ → ℕ
plain_fault p = choose (is_known (kind_of (p ! 0))) ((form (record_kind p)).fault (part 6 12 p)) wrong_kind

-- the kind and the version stay; the identity is encrypted under C, and the body is sealed by its kind, with the version
unfoldable pub seal_record : List ℕ → List ℕ → List ℕ
seal_record r p =
    p ! 0 ∷ part 0 3 (ta61 (common_key r) (part 1 3 p)) ++ part 4 2 p
    ++ part 0 15 (seal (form (record_kind p)) (sealing_key (record_kind p) r) (part 4 2 p) (part 6 12 p))

-- the refusal of a sealed record: 3, then 6; or 0
unfoldable pub open_fault : List ℕ → List ℕ → ℕ
open_fault r t =
    first (
    (is_known (kind_of (t ! 0)), wrong_kind)
    ∷ (clears (form (record_kind t)) (sealing_key (record_kind t) r) (part 4 2 t) (part 6 15 t), flag_set) ∷ []
    )

-- the cipher runs of an inspection of a sealed record (02, 8): its text is unsealed if its kind is known
unfoldable pub inspection_runs : List ℕ → ℕ
inspection_runs t = choose (is_known (kind_of (t ! 0))) text_runs 0

-- kind, the identity recovered, version, and the body that the text unseals to
unfoldable pub open_record : List ℕ → List ℕ → List ℕ
open_record r t =
    t ! 0 ∷ part 0 3 (ta61⁻¹ (common_key r) (part 1 3 t)) ++ part 4 2 t
    ++ part 0 12 (unseal (form (record_kind t)) (sealing_key (record_kind t) r) (part 4 2 t) (part 6 15 t))

-- ---- a book: a list of records

-- none of refusals 1 to 5 applies
pub record WellFormed (p : List ℕ) : Type 0 where
  pub bytes : (i : ℕ) → p ! i < 256
  pub short : length p ≤ plain_size * most_records
  pub whole : length p % plain_size ≡ 0
  pub legal : (i : ℕ) → i < length p / plain_size → plain_fault (record_at plain_size p i) ≡ 0

-- the sealed record of each of a book's records, in their order, and nothing else
unfoldable pub sealed_form : List ℕ → List ℕ → List ℕ
sealed_form r p = each (length p / plain_size) plain_size (seal_record r) p

-- sealing or opening: records of `size` bytes become records of `output_size`
pub record Conversion : Type 0 where
  pub size : ℕ
  pub output_size : ℕ
  pub fault : List ℕ → ℕ
  -- the cipher runs of looking for the fault (02, 8)
  pub inspection : List ℕ → ℕ
  pub convert : List ℕ → List ℕ

abbrev pub sealing : List ℕ → Conversion
sealing r = record { size = plain_size; output_size = sealed_size; fault = plain_fault; inspection = λ p. 0; convert = seal_record r }

abbrev pub opening : List ℕ → Conversion
opening r = record { size = sealed_size; output_size = plain_size; fault = open_fault r; inspection = inspection_runs; convert = open_record r }

-- an answer with the cipher runs that it took (02, 8), and the output at exit
abbrev pub counted : BookAnswer × List ℕ → ℕ → CountedAnswer × List ℕ
counted a runs = (record { refusal = a.0.refusal; index = a.0.index; written = a.0.written; runs = runs }, a.1)

-- the lengths in the order 11, 1, 2, 12, and then the records; every record is converted
unfoldable pub book_call : Conversion → List ℕ → List ℕ → List ℕ → CountedAnswer × List ℕ
book_call conversion r xs out =
    let n = length xs / conversion.size in
    let tests : List (Bool × ℕ) = (has_length ring_size r, wrong_length) ∷ list_tests conversion.size conversion.output_size (length xs) (length out) in
    let fault : ℕ → ℕ = λ i. conversion.fault (record_at conversion.size xs i) in
    let inspection : ℕ → ℕ = λ i. conversion.inspection (record_at conversion.size xs i) in
    counted (records_call tests n fault conversion.output_size (each n conversion.size conversion.convert xs) out)
    (call_runs (first tests) n fault inspection)

-- ---- the calls

unfoldable pub seal_book : List ℕ → List ℕ → List ℕ → CountedAnswer × List ℕ
seal_book r p out = book_call (sealing r) r p out

unfoldable pub open_book : List ℕ → List ℕ → List ℕ → CountedAnswer × List ℕ
open_book r s out = book_call (opening r) r s out

-- the checks of sealing without 11 and 12; nothing is written
unfoldable pub check_plain : List ℕ → BookAnswer
check_plain p =
    answer (first (length_tests plain_size (length p))) (length p / plain_size) (λ i. plain_fault (record_at plain_size p i)) 0
