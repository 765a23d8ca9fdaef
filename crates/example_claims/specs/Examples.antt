-- Computed examples to sentences about sealed texts (docs/ARGUMENT.md): texts that open where a sentence says that they do not, and what
-- single steps give. Texts are of version 7 unless it is said otherwise.
use Rattle.std.specs.Prelude.{List, [], ◌∷◌, ◌++◌, ◌≡◌, ℕ, ◌≤◌}
use Rattle.standard.specs.Books.{open_fault, open_record}
use Rattle.standard.specs.Bytes.{part, zeros}
use Rattle.standard.specs.Hurdle.{f}
use Rattle.standard.specs.Keys.{ta22_call}
use Rattle.standard.specs.Mixing.{tb7_call}
use Rattle.standard.specs.Seals.{ta32_call, ta52_call, ta82_call}
use Rattle.standard.specs.Sizes.{ring_size}
use Rattle.standard.specs.declared.Version.{Version}
use Rattle.claims.specs.Entries.{upward, version7}
use Rattle.claims.specs.FalseClaims.{half₁, half₂, text, other_o}
use Rattle.claims.specs.Variants.{ta82_at_end, reversed, ta22_reversed}

-- ---- changes of one byte

-- 9e: "For kinds 1, 2 and 5 the flag notices every change of one byte." Under D 00 01 .. 09 a bit of the first byte of a text of kind 1 is
-- changed, and under O 00 01 .. 0f the third byte of one of kind 2: each opens before and after, to different keys. Kind 5 is TA51's as
-- kind 2 is, so that with O's bytes as G the second is an example of kind 5, too

abbrev pub of_first : ℕ → List ℕ
of_first x = x ∷ 0x1f ∷ 0x2a ∷ 0x27 ∷ 0x76 ∷ 0x84 ∷ 0x45 ∷ 0x3c ∷ 0xad ∷ 0x91 ∷ 0x93 ∷ 0xd1 ∷ 0xe0 ∷ 0xac ∷ 0xaa ∷ []

abbrev pub of_third : ℕ → List ℕ
of_third x = 0x57 ∷ 0xb8 ∷ x ∷ 0x85 ∷ 0xcc ∷ 0xb4 ∷ 0x48 ∷ 0x19 ∷ 0x8c ∷ 0x9d ∷ 0x93 ∷ 0xbb ∷ 0x19 ∷ 0xec ∷ 0x5f ∷ []

pub record OneByte : Type 0 where
  pub kind1 : ta32_call (of_first 0x54) (upward 0 10) version7
      ≡ record { refusal = 0; key = 0xd5 ∷ 0x1a ∷ 0x64 ∷ 0x9e ∷ 0x8d ∷ 0x4d ∷ 0x00 ∷ 0x00 ∷ 0x00 ∷ 0x00 ∷ []; failed_checks = 0 }
  pub kind1_changed : ta32_call (of_first 0xd4) (upward 0 10) version7
      ≡ record { refusal = 0; key = 0xa2 ∷ 0xdc ∷ 0x8f ∷ 0x6a ∷ 0x59 ∷ 0x19 ∷ 0x00 ∷ 0x00 ∷ 0x00 ∷ 0x00 ∷ []; failed_checks = 0 }
  pub kind2 : ta52_call (of_third 0x28) (upward 0 16) version7
      ≡ record { refusal = 0; key = 0xdc ∷ 0xc0 ∷ 0x12 ∷ 0x46 ∷ 0x23 ∷ 0xa0 ∷ 0x00 ∷ 0x00 ∷ 0x00 ∷ 0x00 ∷ []; number = 0; failed_checks = 0 }
  pub kind2_changed : ta52_call (of_third 0xdc) (upward 0 16) version7
      ≡ record { refusal = 0; key = 0x72 ∷ 0x33 ∷ 0xc8 ∷ 0x68 ∷ 0x58 ∷ 0x54 ∷ 0x00 ∷ 0x00 ∷ 0x00 ∷ 0x00 ∷ []; number = 0; failed_checks = 0 }

-- ---- kinds

-- 1c: "A text of kind 1 opens as kind 1 only." One text opens as kind 1 under D 00 01 .. 09 and as kind 3 under O 00 01 .. 0f, to two keys.
-- And under a ring of zeros there is a text that opens as all six kinds, with version 0, to a body of zeros

abbrev pub of_two_kinds : List ℕ
of_two_kinds = 0x42 ∷ 0xca ∷ 0x5b ∷ 0x04 ∷ 0x84 ∷ 0x6c ∷ 0x15 ∷ 0x5e ∷ 0x56 ∷ 0xc3 ∷ 0x32 ∷ 0x51 ∷ 0x9d ∷ 0x5f ∷ 0x5d ∷ []

abbrev pub of_six_kinds : List ℕ
of_six_kinds = 0x4a ∷ 0x36 ∷ 0xaa ∷ 0x32 ∷ 0x14 ∷ 0xcd ∷ 0x6b ∷ 0x48 ∷ 0x8c ∷ 0xdc ∷ 0x46 ∷ 0x76 ∷ 0xf9 ∷ 0x16 ∷ 0xc7 ∷ []

-- the record of kind k that has it, with version 0 and whatever identity
abbrev pub record_of_six : ℕ → List ℕ → List ℕ
record_of_six k x = k ∷ part 0 3 x ++ zeros 2 ++ of_six_kinds

pub record OtherKinds : Type 0 where
  pub kind1 : ta32_call of_two_kinds (upward 0 10) version7
      ≡ record { refusal = 0; key = 0x01 ∷ 0xda ∷ 0xdf ∷ 0x69 ∷ 0xa1 ∷ 0xae ∷ 0xd9 ∷ 0xf2 ∷ 0x79 ∷ 0x1b ∷ []; failed_checks = 0 }
  pub kind3 : ta82_call of_two_kinds (upward 0 16) version7
      ≡ record { refusal = 0; key = 0xaa ∷ 0x87 ∷ 0x39 ∷ 0xbf ∷ 0x61 ∷ 0x1b ∷ 0x37 ∷ 0x2b ∷ 0x77 ∷ 0x2d ∷ []; number = 0xb5d0; failed_checks = 0 }
  pub all_six : (k : ℕ) (x : List ℕ) → 1 ≤ k → k ≤ 6
      → (open_fault (zeros ring_size) (record_of_six k x) ≡ 0) × (part 6 12 (open_record (zeros ring_size) (record_of_six k x)) ≡ zeros 12)

-- 1d: "O and G differ, so kinds 2 and 5, or 3 and 6, can't be confused." One text opens as kind 2 under an O and as kind 5 under a G, and
-- one as kind 3 and as kind 6, to two keys each. G is TB7's of a group key, as in a ring that the recipe makes

abbrev pub of_two_and_five : List ℕ
of_two_and_five = 0x1e ∷ 0x8b ∷ 0xfd ∷ 0x31 ∷ 0xa1 ∷ 0xb2 ∷ 0x9e ∷ 0x4c ∷ 0x82 ∷ 0xb4 ∷ 0xca ∷ 0x42 ∷ 0xb5 ∷ 0x49 ∷ 0x67 ∷ []

abbrev pub other_g : List ℕ
other_g = 0x00 ∷ 0x0e ∷ 0x02 ∷ 0x0c ∷ 0x04 ∷ 0x0a ∷ 0x06 ∷ 0x08 ∷ 0x08 ∷ 0x06 ∷ 0x0a ∷ 0x04 ∷ 0x0c ∷ 0x02 ∷ 0x0e ∷ 0x00 ∷ []

pub record ConfusedKinds : Type 0 where
  pub group_key₅ : tb7_call (0x00 ∷ 0x0e ∷ 0x02 ∷ 0x04 ∷ 0x0a ∷ 0x06 ∷ 0x08 ∷ 0x06 ∷ 0x0a ∷ 0x0c ∷ 0x02 ∷ 0x0e ∷ [])
      ≡ record { refusal = 0; bytes = other_g }
  pub kind2 : ta52_call of_two_and_five (upward 0 16) version7
      ≡ record { refusal = 0; key = 0xc1 ∷ 0xdb ∷ 0x89 ∷ 0x28 ∷ 0x6c ∷ 0xec ∷ 0x29 ∷ 0x1e ∷ 0x01 ∷ 0x68 ∷ []; number = 6; failed_checks = 0 }
  pub kind5 : ta52_call of_two_and_five other_g version7
      ≡ record { refusal = 0; key = 0xc7 ∷ 0x19 ∷ 0x60 ∷ 0xcf ∷ 0x15 ∷ 0x5a ∷ 0x8c ∷ 0x2a ∷ 0xc6 ∷ 0x90 ∷ []; number = 3; failed_checks = 0 }
  pub group_key₆ : tb7_call (0x00 ∷ 0x01 ∷ 0x02 ∷ 0x04 ∷ 0x05 ∷ 0x06 ∷ 0x08 ∷ 0x09 ∷ 0x0a ∷ 0x0c ∷ 0x0d ∷ 0x0e ∷ [])
      ≡ record { refusal = 0; bytes = upward 0 16 }
  pub kind3 : ta82_call text other_o version7
      ≡ record { refusal = 0; key = 0x8b ∷ 0xdb ∷ 0x11 ∷ 0x10 ∷ 0x04 ∷ 0x77 ∷ 0xf1 ∷ 0x21 ∷ 0x7a ∷ 0xb0 ∷ []; number = 0xfd9b; failed_checks = 0 }
  pub kind6 : ta82_call text (upward 0 16) version7 ≡ record { refusal = 0; key = upward 1 10; number = 0x1234; failed_checks = 0 }

-- ---- where two mistakes do no harm

-- 3i: "With the zero byte put back at the end no sealed text opens." A text whose last eight bytes are zeros opens as it should, under
-- every key and version; an example of kind 3 under O 00 01 .. 0f. For other texts the right block would be another

abbrev pub ends_in_zeros : List ℕ
ends_in_zeros = 0xb2 ∷ 0x3e ∷ 0x9d ∷ 0x02 ∷ 0xbd ∷ 0x07 ∷ 0x83 ∷ 0x00 ∷ 0x00 ∷ 0x00 ∷ 0x00 ∷ 0x00 ∷ 0x00 ∷ 0x00 ∷ 0x00 ∷ []

pub record EitherWay : Type 0 where
  pub same : (t s : List ℕ) (v : Version) → part 7 8 t ≡ zeros 8 → ta82_at_end t s v ≡ ta82_call t s v
  pub opens : ta82_call ends_in_zeros (upward 0 16) version7
      ≡ record { refusal = 0; key = 0xa7 ∷ 0x28 ∷ 0x53 ∷ 0xdc ∷ 0x09 ∷ 0x67 ∷ 0xc8 ∷ 0xf3 ∷ 0xcf ∷ 0xd0 ∷ []; number = 0x5c32; failed_checks = 0 }

-- 1n: "With TA22's challenge reversed response and key are always others." A challenge that is the same backwards, as 01 02 03 04
-- 05 05 04 03 02 01 is, gives the same ones, whatever the session key and the masks

abbrev pub turns_round : List ℕ
turns_round = 0x01 ∷ 0x02 ∷ 0x03 ∷ 0x04 ∷ 0x05 ∷ 0x05 ∷ 0x04 ∷ 0x03 ∷ 0x02 ∷ 0x01 ∷ []

pub record Palindrome : Type 0 where
  pub same : (ks c : List ℕ) (rm km : ℕ) → reversed c ≡ c → ta22_reversed ks c rm km ≡ ta22_call ks c rm km
  pub one : reversed turns_round ≡ turns_round

-- ---- f

-- 2b: "There are two halves that f takes to the same under one round key." Under a round key of zeros, as in `FCollides`: to 01 9c 10 b0
pub record FBytes : Type 0 where
  pub first : f half₁ (zeros 12) ≡ 0x01 ∷ 0x9c ∷ 0x10 ∷ 0xb0 ∷ []
  pub second : f half₂ (zeros 12) ≡ 0x01 ∷ 0x9c ∷ 0x10 ∷ 0xb0 ∷ []
