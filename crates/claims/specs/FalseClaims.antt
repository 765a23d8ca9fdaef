-- Sentences about sealed texts that are false (docs/ARGUMENT.md): what is so instead, for all inputs where that can be said, or
-- an example that the proof computes.
use Rattle.std.specs.Prelude.{Bool, false, ◌&&◌, ◌||◌, List, [], ◌∷◌, ◌++◌, ◌↔◌, ◌≡◌, ℕ, suc, ◌-◌, ◌/◌, ◌^◌, ◌<◌, ◌≤◌, eqb, leb, length}
use Rattle.standard.specs.Books.{ring_key, common_key, WellFormed, seal_record, sealed_form, open_fault, open_record}
use Rattle.standard.specs.Bytes.{◌!◌, part, xors, zeros, bytes_of, choose, Bytes}
use Rattle.standard.specs.BooksFacts.{IsSealedForm}
use Rattle.standard.specs.Cores.{bl1, bl2}
use Rattle.standard.specs.SealsFacts.{groups_of, seal_body}
use Rattle.standard.specs.Hurdle.{f}
use Rattle.standard.specs.Lists.{record_at, each}
use Rattle.standard.specs.Seals.{key_length, sealing_size, form_of, failed, without8, repeated, body_of, unseal_call, ta52_call, ta82_call, ta92_call}
use Rattle.standard.specs.Sizes.{ring_size, plain_size, sealed_size}
use Rattle.standard.specs.declared.Algorithm.{Algorithm}
use Rattle.standard.specs.declared.Algorithm.TheVariants.{Ta31, Ta51, Ta81, Ta91}
use Rattle.standard.specs.declared.RingKey.TheVariants.{D, O, G}
use Rattle.standard.specs.declared.UnsealedNumbered.{UnsealedNumbered}
use Rattle.standard.specs.declared.Version.{Version}
use Rattle.claims.specs.Entries.{Count, Legal, Opens, with_inserted, ZeroAt, upward, version7}
use Rattle.claims.specs.TrueClaims.{fifth_alone, changed}

-- ---- kinds

-- 1a: "A text opens as one kind only." Kinds 3 and 4 open the same texts to the same twelve bytes, under every key and version. The text
-- has to consist of bytes, so that TA82's number has two
abbrev pub ThreeAndFour : Type 0
ThreeAndFour = (t s : List ℕ) (v : Version) → Bytes 15 t
    → let a : UnsealedNumbered = ta82_call t s v in
    ta92_call t s v ≡ record { refusal = a.refusal; key = body_of Ta81 a.key a.number; failed_checks = a.failed_checks }

-- 1b: "Apart from kinds 3 and 4, a text opens as one kind only." Under every sealing key of its length, and every version, there is a text
-- that opens as kinds 2, 3 and 4, as three different entries
pub record ThreeKinds (s : List ℕ) (v : Version) (t : List ℕ) : Type 0 where
  pub bytes : Bytes 15 t
  pub kind2 : ta52_call t s v
      ≡ record { refusal = 0; key = 0x01 ∷ 0x02 ∷ 0x04 ∷ 0x04 ∷ 0x05 ∷ 0x06 ∷ 0x07 ∷ 0x01 ∷ 0x08 ∷ 0x09 ∷ []; number = 3; failed_checks = 0 }
  pub kind3 : ta82_call t s v
      ≡ record { refusal = 0; key = 0x01 ∷ 0x02 ∷ 0x03 ∷ 0x04 ∷ 0x05 ∷ 0x05 ∷ 0x06 ∷ 0x07 ∷ 0x00 ∷ 0x08 ∷ []; number = 0x0903; failed_checks = 0 }
  pub kind4 : ta92_call t s v
      ≡ record { refusal = 0; key = 0x01 ∷ 0x02 ∷ 0x03 ∷ 0x04 ∷ 0x05 ∷ 0x05 ∷ 0x06 ∷ 0x07 ∷ 0x00 ∷ 0x08 ∷ 0x09 ∷ 0x03 ∷ []; failed_checks = 0 }

abbrev pub AsThreeKinds : Type 0
AsThreeKinds = (s : List ℕ) (v : Version) → length s ≡ 16 → (t : List ℕ) × ThreeKinds s v t

-- ---- the cipher

-- 2c: "The cipher can be undone because f can." Two halves go to the same under one round key, so that no g undoes f, not even one that is
-- told the round key

abbrev pub half₁ : List ℕ
half₁ = 0x00 ∷ 0x03 ∷ 0x01 ∷ 0x36 ∷ []

abbrev pub half₂ : List ℕ
half₂ = 0x00 ∷ 0x03 ∷ 0xc1 ∷ 0x36 ∷ []

pub record FCollides : Type 0 where
  pub same : f half₁ (zeros 12) ≡ f half₂ (zeros 12)
  pub not_undone : (g : List ℕ → List ℕ → List ℕ) → ((x k : List ℕ) → Bytes 4 x → Bytes 12 k → g (f x k) k ≡ x) → ⊥

-- ---- the cores

-- 3e: "If the input ends in a zero byte, the dropped byte is zero." It is each byte equally often: under every key, of the 256^15 inputs
-- that end in a zero byte, exactly 256^14 have d there
abbrev pub DroppedByte : Type 0
DroppedByte = (k : List ℕ) (d : ℕ) → d < 256 → Count (256 ^ 14) (λ x. ZeroAt 15 x × (bl1 k x ! 7 ≡ d))

-- 3f: "Any byte may be put back at B8." Another byte gives another left part of BL2's output, and the same right part; so of all bytes the
-- zero byte alone gives the left part that was sealed. Under every key, of every text
pub record PutBack (k t : List ℕ) (d e : ℕ) : Type 0 where
  pub left : (d ≡ e → ⊥) → part 0 8 (bl2 k (with_inserted d t)) ≡ part 0 8 (bl2 k (with_inserted e t)) → ⊥
  pub right : part 8 7 (bl2 k (with_inserted d t)) ≡ part 8 7 (bl2 k (with_inserted e t))

abbrev pub OtherByte : Type 0
OtherByte = (k t : List ℕ) (d e : ℕ) → PutBack k t d e

-- 3g: "BL2 is BL1 backwards." BL2 gives BL1's input back, without its last byte, exactly if the byte at B8 is the input's last byte: with
-- the zero byte there, exactly if the input ends in a zero byte. Of BL1's own sixteen bytes it does so exactly if their eighth is the
-- input's last; and under every key there is an input for which it is not
pub record NotBackwards : Type 0 where
  pub with_byte : (k x : List ℕ) (d : ℕ) → Bytes 16 x → (bl2 k (with_inserted d (without8 (bl1 k x))) ≡ part 0 15 x) ↔ (d ≡ x ! 15)
  pub of_all : (k x : List ℕ) → Bytes 16 x → (bl2 k (bl1 k x) ≡ part 0 15 x) ↔ (bl1 k x ! 7 ≡ x ! 15)
  pub not_always : (k : List ℕ) → (x : List ℕ) × Bytes 16 x × (bl2 k (bl1 k x) ≡ part 0 15 x → ⊥)

-- ---- changes

-- 5h: "Two changed bytes of BL2's output are always noticed." Of BL2's output with no check failed, two bytes of one group, both ⊕ d: no
-- check fails again, but for the fifth of kinds 2 and 5, which fails exactly if one of the two is the number byte and d is 32 or more, so
-- that it touches the top three bits. Every fifteen bytes are the output for some text (`NothingLost`)

-- the number, from 0, of the group of these sizes in which place i stands; the inserted byte is the last of its group
abbrev pub group_at : List ℕ → ℕ → ℕ
group_at [] i = 0
group_at (n ∷ ns) i = choose (leb i n) 0 (suc (group_at ns (i - suc n)))

-- the number byte stands at place 13
abbrev pub top_bits : Algorithm → (i j d : ℕ) → Bool
top_bits Ta31 i j d = false
top_bits Ta51 i j d = (eqb i 13 || eqb j 13) && leb 32 d
top_bits Ta81 i j d = false
top_bits Ta91 i j d = false

abbrev pub EqualChanges : Type 0
EqualChanges = (a : Algorithm) (u : List ℕ) (i j d : ℕ) → failed (form_of a) u ≡ 0 → (i ≡ j → ⊥) → group_at (groups_of a) i ≡ group_at (groups_of a) j
    → failed (form_of a) (changed 15 j d (changed 15 i d u)) ≡ choose (top_bits a i j d) fifth_alone 0

-- 4d: "A key's every bit changes the whole text." A change of one of the key's bytes from the seventh on, for kinds 3, 4 and 6 from the
-- eighth on, leaves the first seven bytes of the text as they were: the bytes before stand in the left block of BL1's input, and these do
-- not. The changed body is a legal one, too; d is a byte, or it would not be
abbrev pub in_left_block : Algorithm → ℕ
in_left_block Ta31 = 6
in_left_block Ta51 = 6
in_left_block Ta81 = 7
in_left_block Ta91 = 7

pub record FrontKept (a : Algorithm) (s : List ℕ) (v : Version) (b c : List ℕ) : Type 0 where
  pub legal : Legal a c
  pub front : part 0 7 (seal_body a c v s).bytes ≡ part 0 7 (seal_body a b v s).bytes

abbrev pub EveryBit : Type 0
EveryBit = (a : Algorithm) (s : List ℕ) (v : Version) (b : List ℕ) (i d : ℕ) → length s ≡ sealing_size a → Legal a b
    → in_left_block a ≤ i → i < key_length a → d < 256 → FrontKept a s v b (changed 12 i d b)

-- 9f: "A change in the last eight bytes is always noticed." Beside every text that opens there is another that opens and has the same first
-- seven bytes
pub record LastEightChanged (a : Algorithm) (s : List ℕ) (v : Version) (t u : List ℕ) : Type 0 where
  pub opens : Opens a s v u
  pub front : part 0 7 u ≡ part 0 7 t
  pub other : u ≡ t → ⊥

abbrev pub LastEight : Type 0
LastEight = (a : Algorithm) (s : List ℕ) (v : Version) (t : List ℕ) → Opens a s v t → (u : List ℕ) × LastEightChanged a s v t u

-- ---- sealing key and version enter by their ⊕ alone

-- 1f: "A text belongs to one sealing key and one version." For every key s and versions v and w there is a key that does under w what s
-- does under v; another key than s, if the versions differ. A version has sixteen bits

-- n bytes: the key ⊕ both versions repeated
abbrev pub other_key : ℕ → List ℕ → Version → Version → List ℕ
other_key n s v w = xors n s (xors n (repeated n (bytes_of 2 v.0)) (repeated n (bytes_of 2 w.0)))

pub record OtherKey (a : Algorithm) (s : List ℕ) (v w : Version) (s' : List ℕ) : Type 0 where
  pub seals : (b : List ℕ) → seal_body a b w s' ≡ seal_body a b v s
  pub unseals : (t : List ℕ) → unseal_call a t s' w ≡ unseal_call a t s v
  pub another : v.0 < 2 ^ 16 → w.0 < 2 ^ 16 → (v.0 ≡ w.0 → ⊥) → s' ≡ s → ⊥

abbrev pub KeyAndVersion : Type 0
KeyAndVersion = (a : Algorithm) (s : List ℕ) (v w : Version) → length s ≡ sealing_size a → OtherKey a s v w (other_key (sealing_size a) s v w)

-- 1h: "A book's texts and encrypted identities belong to one ring." With each version ⊕ the same two bytes x, with D, O and G ⊕ x repeated,
-- and with C as it was, they are the same

abbrev pub other_ring : List ℕ → List ℕ → List ℕ
other_ring x r = xors 10 (repeated 10 x) (ring_key D r) ++ xors 16 (repeated 16 x) (ring_key O r) ++ common_key r ++ xors 16 (repeated 16 x) (ring_key G r)

-- a record of w bytes with its version ⊕ x, and a book of such records
abbrev pub other_version : ℕ → List ℕ → List ℕ → List ℕ
other_version w x p = part 0 4 p ++ xors 2 (part 4 2 p) x ++ part 6 (w - 6) p

abbrev pub other_versions : ℕ → List ℕ → List ℕ → List ℕ
other_versions w x xs = each (length xs / w) w (other_version w x) xs

-- of the ring r, the book p and the bytes x: the ring differs from r if x is not zero; the changed book's sealed form under it is p's with
-- the versions changed alike, so that each encrypted identity and each text is as it was
pub record OtherRing (r p x : List ℕ) : Type 0 where
  pub ring : Bytes ring_size (other_ring x r)
  pub another : (x ≡ zeros 2 → ⊥) → other_ring x r ≡ r → ⊥
  pub sealed : IsSealedForm (other_ring x r) (other_versions plain_size x p) (other_versions sealed_size x (sealed_form r p))
  pub identities : (i : ℕ) → i < length p / plain_size
      → part 1 3 (record_at sealed_size (other_versions sealed_size x (sealed_form r p)) i) ≡ part 1 3 (record_at sealed_size (sealed_form r p) i)
  pub texts : (i : ℕ) → i < length p / plain_size
      → part 6 15 (record_at sealed_size (other_versions sealed_size x (sealed_form r p)) i) ≡ part 6 15 (record_at sealed_size (sealed_form r p) i)

abbrev pub RingAndVersions : Type 0
RingAndVersions = (r p x : List ℕ) → Bytes ring_size r → WellFormed p → Bytes 2 x → OtherRing r p x

-- ---- sealing keys

-- 1g: "Other sealing keys give other texts." For kinds 2 to 6, every version and every legal body: of the 256^16 sealing keys two give the
-- same text, since there are 256^15 texts. Kind 1 has 256^10 sealing keys, and nothing is claimed of it
pub record KeysAlike (a : Algorithm) (v : Version) (b s s' : List ℕ) : Type 0 where
  pub bytes : Bytes 16 s
  pub bytes' : Bytes 16 s'
  pub other : s ≡ s' → ⊥
  pub same : seal_body a b v s ≡ seal_body a b v s'

abbrev pub TwoKeys : Type 0
TwoKeys = (a : Algorithm) (v : Version) (b : List ℕ) → sealing_size a ≡ 16 → Legal a b → (s : List ℕ) × (s' : List ℕ) × KeysAlike a v b s s'

-- ---- examples, all of kind 3

-- 1j: "A text opens to one entry, whatever the ring." One text, one version, and rings with two different O: two entries

abbrev pub text : List ℕ
text = 0x7d ∷ 0x3b ∷ 0xf4 ∷ 0xc5 ∷ 0x3b ∷ 0xec ∷ 0x9b ∷ 0x33 ∷ 0xbe ∷ 0x0c ∷ 0x29 ∷ 0x6b ∷ 0x64 ∷ 0xdc ∷ 0x2f ∷ []

abbrev pub other_o : List ℕ
other_o = upward 0 12 ++ 0x00 ∷ 0xbf ∷ 0x58 ∷ 0x8f ∷ []

pub record TwoRings : Type 0 where
  pub first : (r : List ℕ) → ring_key O r ≡ upward 0 16
      → ta82_call text (ring_key O r) version7
      ≡ record { refusal = 0; key = upward 1 10; number = 0x1234; failed_checks = 0 }
  pub second : (r : List ℕ) → ring_key O r ≡ other_o
      → ta82_call text (ring_key O r) version7
      ≡ record { refusal = 0; key = 0x8b ∷ 0xdb ∷ 0x11 ∷ 0x10 ∷ 0x04 ∷ 0x77 ∷ 0xf1 ∷ 0x21 ∷ 0x7a ∷ 0xb0 ∷ []; number = 0xfd9b; failed_checks = 0 }

-- 1k: "A text opens to one entry, whatever the version." One text, one sealing key, versions 7 and 5075: two entries

abbrev pub version5075 : Version
version5075 = record { 0 = 5075 }

abbrev pub text' : List ℕ
text' = 0xf4 ∷ 0x20 ∷ 0x4d ∷ 0xb5 ∷ 0x69 ∷ 0x32 ∷ 0xc3 ∷ 0x24 ∷ 0x11 ∷ 0xc2 ∷ 0xc6 ∷ 0x07 ∷ 0xad ∷ 0x68 ∷ 0x0c ∷ []

pub record TwoVersions : Type 0 where
  pub first : ta82_call text' (upward 0 16) version7
      ≡ record { refusal = 0; key = 0x01 ∷ 0x02 ∷ 0x03 ∷ 0x04 ∷ 0x05 ∷ 0x06 ∷ 0x00 ∷ 0x00 ∷ 0x00 ∷ 0x0c ∷ []; number = 0x1234; failed_checks = 0 }
  pub second : ta82_call text' (upward 0 16) version5075
      ≡ record { refusal = 0; key = 0xa2 ∷ 0x4f ∷ 0x5a ∷ 0x19 ∷ 0x8f ∷ 0xec ∷ 0xb3 ∷ 0xee ∷ 0x72 ∷ 0xa6 ∷ []; number = 0x961c; failed_checks = 0 }

-- 9d: "The flag notices every change." Two texts that differ in one bit, of the second byte, both open, to different keys

abbrev pub of_second : ℕ → List ℕ
of_second x = 0xf2 ∷ x ∷ 0x34 ∷ 0xe6 ∷ 0xa6 ∷ 0x21 ∷ 0xc2 ∷ 0x79 ∷ 0xee ∷ 0x4f ∷ 0x4c ∷ 0xf0 ∷ 0xad ∷ 0x62 ∷ 0x79 ∷ []

pub record OneBit : Type 0 where
  pub first : ta82_call (of_second 0b10) (upward 0 16) version7
      ≡ record { refusal = 0; key = 0x6e ∷ 0x2e ∷ 0xad ∷ 0x0a ∷ 0x89 ∷ 0x46 ∷ 0xc9 ∷ 0x08 ∷ 0x09 ∷ 0x0a ∷ []; number = 0x1234; failed_checks = 0 }
  pub second : ta82_call (of_second 0b00) (upward 0 16) version7
      ≡ record { refusal = 0; key = 0x00 ∷ 0x00 ∷ 0x11 ∷ 0xe2 ∷ 0x05 ∷ 0x06 ∷ 0x07 ∷ 0x08 ∷ 0x09 ∷ 0x0a ∷ []; number = 0x1234; failed_checks = 0 }

-- ---- records

-- 7c: "The flag protects the identity." A record that opens goes on opening with any other three bytes as its encrypted identity (and one
-- that does not goes on not opening): to another identity, with the same kind, version and body. The flag is worked from kind, version, the
-- sealing key and the text. Ring and record have to consist of bytes, so that TA61 can be undone

abbrev pub with_identity : List ℕ → List ℕ → List ℕ
with_identity x t = part 0 1 t ++ part 0 3 x ++ part 4 17 t

pub record OtherIdentity (r t x : List ℕ) : Type 0 where
  pub opens : open_fault r (with_identity x t) ≡ open_fault r t
  pub kind : part 0 1 (open_record r (with_identity x t)) ≡ part 0 1 (open_record r t)
  pub identity : part 1 3 (open_record r (with_identity x t)) ≡ part 1 3 (open_record r t) → ⊥
  pub rest : part 4 14 (open_record r (with_identity x t)) ≡ part 4 14 (open_record r t)

abbrev pub IdentityFree : Type 0
IdentityFree = (r t x : List ℕ) → Bytes ring_size r → Bytes sealed_size t → Bytes 3 x → (x ≡ part 1 3 t → ⊥) → OtherIdentity r t x

-- 7e: "A text belongs to the record in which it stands, among those of the same kind and version." Two such records may exchange their
-- texts: each opens to its own identity with the other's body. Said of t with u's text; of u with t's it is the same

abbrev pub with_text : List ℕ → List ℕ → List ℕ
with_text u t = part 0 6 t ++ part 6 15 u

abbrev pub TextsExchanged : Type 0
TextsExchanged = (r t u : List ℕ) → t ! 0 ≡ u ! 0 → part 4 2 t ≡ part 4 2 u
    → (open_fault r (with_text u t) ≡ open_fault r u) × (open_record r (with_text u t) ≡ part 0 6 (open_record r t) ++ part 6 12 (open_record r u))

-- 4c: "The same entry sealed twice under one ring gives two texts." Two plain records of the same kind, version and body have the same text
-- in their sealed records under a ring, whatever their identities; and so in sealed books, at whatever places
abbrev pub SameEntry : List ℕ → List ℕ → Type 0
SameEntry p q = (p ! 0 ≡ q ! 0) × (part 4 14 p ≡ part 4 14 q)

pub record SealedTwice : Type 0 where
  pub records : (r p q : List ℕ) → SameEntry p q → part 6 15 (seal_record r p) ≡ part 6 15 (seal_record r q)
  pub books : (r p q : List ℕ) (i j : ℕ) → i < length p / plain_size → j < length q / plain_size → SameEntry (record_at plain_size p i) (record_at plain_size q j)
      → part 6 15 (record_at sealed_size (sealed_form r p) i) ≡ part 6 15 (record_at sealed_size (sealed_form r q) j)
