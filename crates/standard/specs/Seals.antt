-- Sealing and unsealing (01, Sealing and unsealing; 000, 5.8 to 5.11, 5.14 to 5.17).
-- A body is what a plain record has after its version, 12 bytes: a key and two zero bytes (kind 1), a key, a zero byte and a number
-- (kind 2), a key and a number of two bytes (kind 3), or a group key (kind 4). Kinds 5 and 6 are kinds 2 and 3 under another key (02, 4).
use Rattle.std.specs.Prelude.{Bool, ◌&&◌, List, [], ◌∷◌, ◌++◌, ℕ, ◌+◌, ◌*◌, ◌/◌, ◌%◌, eqb, leb, Option, Some, None}
use Rattle.std.specs.Int.Bits.{bit_or}
use Rattle.standard.specs.Bytes.{◌!◌, ◌⊕◌, table, part, xors, zeros, bytes_of, choose}
use Rattle.standard.specs.Cores.{bl1, bl2}
use Rattle.standard.specs.Expansions.{ungrouped, inserted, expected, exp1_groups, exp3_groups, x16_groups, exp1, exp3, exp4, x16, shr1, shr2}
use Rattle.standard.specs.Refusals.{wrong_length, wrong_number, not_zero, has_length, first, answer15, unsealed_body}
use Rattle.standard.specs.declared.Algorithm.{Algorithm}
use Rattle.standard.specs.declared.Algorithm.TheVariants.{Ta31, Ta51, Ta81, Ta91}
use Rattle.standard.specs.declared.Bytes15.{Bytes15}
use Rattle.standard.specs.declared.KeyNumber.{KeyNumber}
use Rattle.standard.specs.declared.Kind.{Kind}
use Rattle.standard.specs.declared.RingKey.{RingKey}
use Rattle.standard.specs.declared.RingKey.TheVariants.{D, O, G}
use Rattle.standard.specs.declared.Unsealed.{Unsealed}
use Rattle.standard.specs.Refusals.{UnsealedBody}
use Rattle.standard.specs.declared.UnsealedGroup.{UnsealedGroup}
use Rattle.standard.specs.declared.UnsealedNumbered.{UnsealedNumbered}
use Rattle.standard.specs.declared.Version.{Version}

-- ---- the kinds

-- sealed by an algorithm, under a key of the ring
abbrev pub kind : Algorithm → RingKey → Option Kind
kind a k = Some (record { algorithm = a; under = k })

-- the kind that a byte names
unfoldable pub kind_of : ℕ → Option Kind
kind_of b =
    choose (eqb b 1) (kind Ta31 D)
    (choose (eqb b 2) (kind Ta51 O)
    (choose (eqb b 3) (kind Ta81 O) (choose (eqb b 4) (kind Ta91 O) (choose (eqb b 5) (kind Ta51 G) (choose (eqb b 6) (kind Ta81 G) None)))))

abbrev pub key_length : Algorithm → ℕ
key_length Ta31 = 10
key_length Ta51 = 10
key_length Ta81 = 10
key_length Ta91 = 12

-- the bytes of a sealing key: D's, or O's and G's
abbrev pub sealing_size : Algorithm → ℕ
sealing_size Ta31 = 10
sealing_size Ta51 = 16
sealing_size Ta81 = 16
sealing_size Ta91 = 16

abbrev pub highest_number : Algorithm → ℕ
highest_number Ta31 = 0
highest_number Ta51 = 31
highest_number Ta81 = 65535
highest_number Ta91 = 0

-- ---- the key of the core, from a sealing key and a version of two bytes, the high one first

-- the version written n / 2 times
abbrev pub repeated : ℕ → List ℕ → List ℕ
repeated n v = table n (λ i. v ! (i % 2))

-- kind 1 (5.8.2)
unfoldable pub key10 : List ℕ → List ℕ → List ℕ
key10 s v = exp4 (xors 10 (repeated 10 v) s)

-- the other kinds (5.10.2, 5.14.2, 5.16.2)
unfoldable pub key16 : List ℕ → List ℕ → List ℕ
key16 s v = xors 16 (repeated 16 v) s

-- ---- the form of an algorithm

-- input: a body to BL1's data input, 16 bytes that end in a zero byte. shrink: BL2's output, 15 bytes, to a body. found, wanted: what
-- the check finds in BL2's output, leftmost first, and what should stand there: each inserted byte and the ⊕ of its group, and of kind
-- 2's number byte the top three bits and zero. fault: 0, or the refusal of a body that may not be sealed. key: sealing key and version
-- to the core's key
pub record Form : Type 0 where
  pub input : List ℕ → List ℕ
  pub shrink : List ℕ → List ℕ
  pub found : List ℕ → List ℕ
  pub wanted : List ℕ → List ℕ
  pub fault : List ℕ → ℕ
  pub key : List ℕ → List ℕ → List ℕ

-- the checks of BL2's output, leftmost first: what is wanted ⊕ what is found, which is 0 exactly if the check passes
abbrev pub differences : List ℕ → List ℕ → List ℕ
differences [] ys = []
differences (x ∷ xs) [] = []
differences (x ∷ xs) (y ∷ ys) = y ⊕ x ∷ differences xs ys

abbrev pub checks : Form → List ℕ → List ℕ
checks F u = differences (F.found u) (F.wanted u)

-- (02, 6) a bit for each check, bit 0 for the leftmost: set exactly if the check fails
abbrev pub failed_of : List ℕ → ℕ
failed_of [] = 0
failed_of (d ∷ ds) = choose (eqb d 0) 0 1 + 2 * failed_of ds

abbrev pub failed : Form → List ℕ → ℕ
failed F u = failed_of (checks F u)

-- 000's flag is clear where no check fails
abbrev pub clear : Form → List ℕ → Bool
clear F u = eqb (failed F u) 0

-- (02, 3) the checks or-ed together
abbrev pub or_on : ℕ → List ℕ → ℕ
or_on x [] = x
or_on x (y ∷ ys) = or_on (bit_or x y) ys

abbrev pub or_of : Form → List ℕ → ℕ
or_of F u = or_on 0 (checks F u)

-- EXP1 of the key, then a zero byte
abbrev pub form31 : Form
form31 = record {
  input = λ b. exp1 b ++ 0 ∷ [];
  shrink = λ u. shr1 u ++ 0 ∷ 0 ∷ [];
  found = λ u. inserted exp1_groups 0 u;
  wanted = λ u. expected exp1_groups 0 u;
  fault = λ b. first ((eqb (b ! 10) 0 && eqb (b ! 11) 0, not_zero) ∷ []);
  key = key10;
}

-- EXP3 of key and number byte, and a zero byte; the five low bits of the byte are the number
abbrev pub form51 : Form
form51 = record {
  input = λ b. exp3 (part 0 10 b ++ b ! 11 ∷ []) ++ 0 ∷ [];
  shrink = λ u. part 0 10 (shr2 u) ++ 0 ∷ shr2 u ! 10 % 32 ∷ [];
  found = λ u. inserted exp3_groups 0 u ++ u ! 13 / 32 ∷ [];
  wanted = λ u. expected exp3_groups 0 u ++ 0 ∷ [];
  fault = λ b. first ((eqb (b ! 10) 0, not_zero) ∷ (leb (b ! 11) (highest_number Ta51), wrong_number) ∷ []);
  key = key16;
}

-- X16 of key then number, or of a group key
abbrev pub form81 : Form
form81 = record {
  input = λ b. x16 b;
  shrink = λ u. ungrouped x16_groups 0 u;
  found = λ u. inserted x16_groups 0 u;
  wanted = λ u. expected x16_groups 0 u;
  fault = λ b. 0;
  key = key16;
}

abbrev pub form_of : Algorithm → Form
form_of Ta31 = form31
form_of Ta51 = form51
form_of Ta81 = form81
form_of Ta91 = form81

-- the form of a kind
abbrev pub form : Kind → Form
form k = form_of k.algorithm

-- ---- sealing, by a form

-- a sealed text leaves out byte 8 of sixteen, the eighth from the left; unsealing takes a zero byte in its place
abbrev pub without8 : List ℕ → List ℕ
without8 o = part 0 7 o ++ part 8 8 o

abbrev pub with8 : List ℕ → List ℕ
with8 t = part 0 7 t ++ 0 ∷ part 7 8 t

-- under the core's key: the sealed text of a body, and what a text opens to before it is shrunk
unfoldable pub sealed : Form → List ℕ → List ℕ → List ℕ
sealed F k b = without8 (bl1 k (F.input b))

unfoldable pub opened : List ℕ → List ℕ → List ℕ
opened k t = bl2 k (with8 t)

-- by a sealing key and a version: the sealed text of a body; the body of a text; the text's checks that fail; whether its flag is clear
unfoldable pub seal : Form → List ℕ → List ℕ → List ℕ → List ℕ
seal F s v b = sealed F (F.key s v) b

unfoldable pub unseal : Form → List ℕ → List ℕ → List ℕ → List ℕ
unseal F s v t = F.shrink (opened (F.key s v) t)

unfoldable pub fails : Form → List ℕ → List ℕ → List ℕ → ℕ
fails F s v t = failed F (opened (F.key s v) t)

abbrev pub clears : Form → List ℕ → List ℕ → List ℕ → Bool
clears F s v t = eqb (fails F s v t) 0

-- ---- bodies

-- the body of a key, and of a number where the algorithm has one
abbrev pub body_of : Algorithm → List ℕ → ℕ → List ℕ
body_of Ta31 k n = part 0 10 k ++ zeros 2
body_of Ta51 k n = part 0 10 k ++ 0 ∷ n ∷ []
body_of Ta81 k n = part 0 10 k ++ bytes_of 2 n
body_of Ta91 k n = part 0 12 k

-- the key of a body, and its number, or 0
abbrev pub body_key : Algorithm → List ℕ → List ℕ
body_key a b = part 0 (key_length a) b

abbrev pub body_number : Algorithm → List ℕ → ℕ
body_number Ta31 b = 0
body_number Ta51 b = b ! 11
body_number Ta81 b = 256 * b ! 10 + b ! 11
body_number Ta91 b = 0

-- ---- the calls over the algorithm

-- 5, of TA51's number; TA81's may be any of sixteen bits, and the others take none
abbrev pub number_tests : Algorithm → ℕ → List (Bool × ℕ)
number_tests Ta31 n = []
number_tests Ta51 n = (leb n (highest_number Ta51), wrong_number) ∷ []
number_tests Ta81 n = []
number_tests Ta91 n = []

-- of a key, a version, a sealing key and a number: 11, then 5; or the sealed text
unfoldable pub seal_call : Algorithm → List ℕ → Version → List ℕ → KeyNumber → Bytes15
seal_call a k v s n =
    answer15 (first ((has_length (key_length a) k && has_length (sealing_size a) s, wrong_length) ∷ number_tests a n.0))
    (seal (form_of a) s (bytes_of 2 v.0) (body_of a k n.0))

-- of a text, a sealing key and a version: 11; or the body, and a bit for each check that fails
unfoldable pub unseal_call : Algorithm → List ℕ → List ℕ → Version → UnsealedBody
unseal_call a t s v =
    unsealed_body (first ((has_length 15 t && has_length (sealing_size a) s, wrong_length) ∷ []))
    (unseal (form_of a) s (bytes_of 2 v.0) t) (fails (form_of a) s (bytes_of 2 v.0) t)

-- ---- the calls: kind 1 (5.8, 5.9), kinds 2 and 5 (5.10, 5.11), kinds 3 and 6 (5.14, 5.15), kind 4 (5.16, 5.17)

-- where a call takes no number
abbrev pub no_number : KeyNumber
no_number = record { 0 = 0 }

unfoldable pub ta31_call : List ℕ → Version → List ℕ → Bytes15
ta31_call ck v s = seal_call Ta31 ck v s no_number

unfoldable pub ta51_call : List ℕ → Version → List ℕ → KeyNumber → Bytes15
ta51_call ck v s n = seal_call Ta51 ck v s n

unfoldable pub ta81_call : List ℕ → Version → List ℕ → KeyNumber → Bytes15
ta81_call ck v s n = seal_call Ta81 ck v s n

unfoldable pub ta91_call : List ℕ → Version → List ℕ → Bytes15
ta91_call gk v s = seal_call Ta91 gk v s no_number

-- unsealing answers the key that the body has; its key and its number; or the whole body, a group key
abbrev pub key_answer : Algorithm → UnsealedBody → Unsealed
key_answer a u = record { refusal = u.refusal; key = body_key a u.body; failed_checks = u.failed_checks }

abbrev pub number_answer : Algorithm → UnsealedBody → UnsealedNumbered
number_answer a u =
    record { refusal = u.refusal; key = body_key a u.body; number = body_number a u.body; failed_checks = u.failed_checks }

abbrev pub group_answer : UnsealedBody → UnsealedGroup
group_answer u = record { refusal = u.refusal; key = u.body; failed_checks = u.failed_checks }

unfoldable pub ta32_call : List ℕ → List ℕ → Version → Unsealed
ta32_call t s v = key_answer Ta31 (unseal_call Ta31 t s v)

unfoldable pub ta52_call : List ℕ → List ℕ → Version → UnsealedNumbered
ta52_call t s v = number_answer Ta51 (unseal_call Ta51 t s v)

unfoldable pub ta82_call : List ℕ → List ℕ → Version → UnsealedNumbered
ta82_call t s v = number_answer Ta81 (unseal_call Ta81 t s v)

unfoldable pub ta92_call : List ℕ → List ℕ → Version → UnsealedGroup
ta92_call t s v = group_answer (unseal_call Ta91 t s v)
