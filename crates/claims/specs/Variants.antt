-- Wrong variants beside the right definitions. The four mistakes that 01 lists (docs/ARGUMENT.md): an input on which the variant answers
-- otherwise, and what would be false if the engine did so. And BL1 without chaining, and over any encryption, of which other claims speak.
use Rattle.std.specs.Prelude.{◌&&◌, not, List, [], ◌∷◌, ◌++◌, ◌≡◌, ℕ, ◌-◌, ◌*◌, ◌/◌, ◌<◌, ◌≤◌, eqb, length}
use Rattle.standard.specs.Bytes.{◌!◌, ◌⊕◌, table, part, xors, bytes_of, Bytes}
use Rattle.standard.specs.Cores.{bl1, bl2}
use Rattle.standard.specs.BooksFacts.{Demand3}
use Rattle.standard.specs.Hurdle.{encrypt}
use Rattle.standard.specs.Keys.{half, ring, ta22_call, ta12_call, ta41_call}
use Rattle.standard.specs.Expansions.{inserted, expected, exp3_groups, xor_of, exp1, exp2}
use Rattle.standard.specs.Mixing.{tb4, tb7}
use Rattle.standard.specs.Refusals.{wrong_length, has_length, first, unsealed_body, answer16}
use Rattle.standard.specs.Seals.{Form, form51, form81, failed, unseal, fails, number_answer, ta51_call, ta52_call, ta81_call, ta82_call}
use Rattle.standard.specs.Sizes.{plain_size, sealed_size}
use Rattle.standard.specs.declared.Algorithm.TheVariants.{Ta51, Ta81}
use Rattle.standard.specs.declared.Authentication.{Authentication}
use Rattle.standard.specs.declared.Bytes16.{Bytes16}
use Rattle.standard.specs.declared.KeyNumber.{KeyNumber}
use Rattle.standard.specs.declared.RingInputs.{RingInputs}
use Rattle.standard.specs.declared.UnsealedNumbered.{UnsealedNumbered}
use Rattle.standard.specs.declared.Version.{Version}
use Rattle.claims.specs.Entries.{upward, version7}

-- ---- the zero byte put in after the others, and not as byte 8 (right: `with8`)

abbrev pub with_zero_at_end : List ℕ → List ℕ
with_zero_at_end t = part 0 15 t ++ 0 ∷ []

-- TA82 with it
unfoldable pub opened_at_end : List ℕ → List ℕ → List ℕ
opened_at_end k t = bl2 k (with_zero_at_end t)

unfoldable pub ta82_at_end : List ℕ → List ℕ → Version → UnsealedNumbered
ta82_at_end t s v =
    let u : List ℕ = opened_at_end (form81.key s (bytes_of 2 v.0)) t in
    number_answer Ta81 (unsealed_body (first ((has_length 15 t && has_length 16 s, wrong_length) ∷ [])) (form81.shrink u) (failed form81 u))

-- 3h: "The zero byte can as well be put back at the end." A sealed text would no longer open: here all three checks of it fail
abbrev pub sealed_text : List ℕ
sealed_text = (ta81_call (upward 1 10) version7 (upward 0 16) (record { 0 = 0x1234 })).bytes

pub record ZeroAtEnd : Type 0 where
  pub right : ta82_call sealed_text (upward 0 16) version7 ≡ record { refusal = 0; key = upward 1 10; number = 0x1234; failed_checks = 0 }
  pub wrong : (ta82_at_end sealed_text (upward 0 16) version7).failed_checks ≡ 0b111

-- ---- TA22's challenge reversed, as TA21 reverses its seed (right: `ta22_call`)

abbrev pub reversed : List ℕ → List ℕ
reversed c = table 10 (λ i. c ! (9 - i))

abbrev pub ta22_reversed : List ℕ → List ℕ → ℕ → ℕ → Authentication
ta22_reversed ks rand rm km = ta12_call ks (reversed rand) rm km

-- 1m: "TA22's challenge is reversed, as TA21's seed is." It would answer another response and another key than the standard's TA22
pub record ChallengeReversed : Type 0 where
  pub right : ta22_call (upward 0 16) (upward 1 10) 0x000f 0x3ff0
      ≡ record { refusal = 0; response = 0xc9 ∷ 0x0a ∷ 0x4e ∷ 0xc3 ∷ []; key = 0x3e ∷ 0x42 ∷ 0x46 ∷ 0xfc ∷ 0x16 ∷ 0xfd ∷ 0xdd ∷ 0x29 ∷ 0x1b ∷ 0x0c ∷ [] }
  pub wrong : ta22_reversed (upward 0 16) (upward 1 10) 0x000f 0x3ff0
      ≡ record { refusal = 0; response = 0xf6 ∷ 0xc8 ∷ 0xb0 ∷ 0x0e ∷ []; key = 0x19 ∷ 0x5c ∷ 0x04 ∷ 0x27 ∷ 0x25 ∷ 0xfe ∷ 0xd7 ∷ 0x12 ∷ 0x60 ∷ 0x17 ∷ [] }

-- ---- kind 2 checked without the three zero bits of the number byte (right: `form51`, which finds them after the inserted bytes)

abbrev pub form_without_bits : Form
form_without_bits = record {
  input = form51.input;
  shrink = form51.shrink;
  found = λ u. inserted exp3_groups 0 u;
  wanted = λ u. expected exp3_groups 0 u;
  fault = form51.fault;
  key = form51.key;
}

-- TA52 with it
unfoldable pub ta52_without_bits : List ℕ → List ℕ → Version → UnsealedNumbered
ta52_without_bits t s v =
    number_answer Ta51
    (unsealed_body (first ((has_length 15 t && has_length 16 s, wrong_length) ∷ []))
    (unseal form_without_bits s (bytes_of 2 v.0) t) (fails form_without_bits s (bytes_of 2 v.0) t))

-- 5f: "The number byte's three top bits need no check." Under every sealing key of its length, and every version, a text would open that is
-- the sealed text of no entry; how many, `EightWithout` says
pub record Unchecked (s : List ℕ) (v : Version) (t : List ℕ) : Type 0 where
  pub bytes : Bytes 15 t
  pub right : (ta52_call t s v).failed_checks ≡ 0 → ⊥
  pub wrong : (ta52_without_bits t s v).failed_checks ≡ 0
  pub seals_none : (ck : List ℕ) (n : KeyNumber) → Bytes 10 ck → n.0 ≤ 31 → (ta51_call ck v s n).bytes ≡ t → ⊥

abbrev pub BitsUnchecked : Type 0
BitsUnchecked = (s : List ℕ) (v : Version) → length s ≡ 16 → (t : List ℕ) × Unchecked s v t

-- ---- EXP2's last byte as a ⊕ (right: `exp2`, whose last byte is the sum)

unfoldable pub exp2_by_xor : List ℕ → List ℕ
exp2_by_xor b = exp1 b ++ (xor_of 0 2 b ⊕ xor_of 2 2 b ⊕ xor_of 4 2 b ⊕ xor_of 6 2 b ⊕ xor_of 8 2 b) ∷ []

-- TA41 with it
unfoldable pub ta41_by_xor : List ℕ → List ℕ → Bytes16
ta41_by_xor root seed = answer16 (first ((has_length 16 root && has_length 10 seed, wrong_length) ∷ [])) (bl1 root (exp2_by_xor seed))

-- 1o: "EXP2's last byte is the ⊕ of the five inserted bytes." On the seed 01 02 .. 0a it would be 0b and not 1f, and so TA41 would answer
-- otherwise under every root
pub record LastByteXored : Type 0 where
  pub right : exp2 (upward 1 10) ! 15 ≡ 0x1f
  pub wrong : exp2_by_xor (upward 1 10) ! 15 ≡ 0x0b
  pub otherwise : (root : List ℕ) → length root ≡ 16 → ta41_by_xor root (upward 1 10) ≡ ta41_call root (upward 1 10) → ⊥

-- ---- the ring recipe with those two mistakes

-- the recipe with another expansion than EXP2, and TA22's challenge turned somehow (right: `ring`, with `exp2` and as it is)
unfoldable pub ring_with : (List ℕ → List ℕ) → (List ℕ → List ℕ) → RingInputs → List ℕ
ring_with expand turn x =
    let core : List ℕ → List ℕ → List ℕ = λ k seed. bl1 k (expand seed) in
    let output1 : List ℕ = core (core x.root x.rs) x.rand1 in
    let output2 : List ℕ = core (core x.root (reversed x.rs)) (turn x.rand2) in
    let key1 : List ℕ = (half (not (eqb x.sides 2)) x.response_mask x.key_mask output1).key in
    let key2 : List ℕ = (half (not (eqb x.sides 1)) x.response_mask x.key_mask output2).key in
    tb4 key1 key2 ++ part 0 16 (core x.root x.rso) ++ part 0 10 x.c ++ tb7 x.group_key

-- strings of bytes of the lengths that the recipe takes
pub record InputBytes (x : RingInputs) : Type 0 where
  pub rs : Bytes 10 x.rs
  pub rso : Bytes 10 x.rso
  pub rand1 : Bytes 10 x.rand1
  pub rand2 : Bytes 10 x.rand2
  pub c : Bytes 10 x.c
  pub group_key : Bytes 12 x.group_key

-- of a ring, for whatever bytes are handed in and every output long enough
abbrev pub HoldsOf : List ℕ → Type 0
HoldsOf r = (s out : List ℕ) → ((i : ℕ) → s ! i < 256) → plain_size * (length s / sealed_size) ≤ length out → Demand3 r s out

-- 1p: "With TA22 or EXP2 wrong, a text could open to two entries, kind, ring and version given." Demand 3 would still hold, since it holds
-- of every ring of 52 bytes, however it was made. The inputs have to consist of bytes, or the ring would not
pub record StillHolds : Type 0 where
  pub right : (x : RingInputs) → ring_with exp2 (λ c. c) x ≡ ring x
  pub challenge_reversed : (x : RingInputs) → InputBytes x → HoldsOf (ring_with exp2 reversed x)
  pub last_byte_xored : (x : RingInputs) → InputBytes x → HoldsOf (ring_with exp2_by_xor (λ c. c) x)

-- ---- BL1 without chaining: each block encrypted by itself (right: `bl1`, which takes the left output into the right block)

unfoldable pub bl1_unchained : List ℕ → List ℕ → List ℕ
bl1_unchained k x = part 0 8 (encrypt k (part 0 8 x)) ++ part 0 8 (encrypt k (part 8 8 x))

-- ---- BL1 over any encryption of blocks (right: `bl1`, over that of the cipher under a key)

unfoldable pub bl1_by : (List ℕ → List ℕ) → List ℕ → List ℕ
bl1_by e x =
    let left : List ℕ = e (part 0 8 x) in
    let right : List ℕ = e (xors 8 (part 8 8 x) left) in
    part 0 8 left ++ part 0 8 right
