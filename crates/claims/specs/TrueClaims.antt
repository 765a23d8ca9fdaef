-- Sentences about sealed texts that are true (docs/ARGUMENT.md). A premise that is not there is not needed: no claim asks that a
-- sealing key or a version consist of bytes, since the cipher is undone under every key.
use Rattle.std.specs.Prelude.{List, [], ◌∷◌, ◌++◌, ◌≡◌, ℕ, ◌*◌, ◌/◌, ◌^◌, ◌<◌, ◌≤◌, eqb, length, take, drop}
use Rattle.standard.specs.Books.{plain_fault, seal_record, open_fault, open_record, open_book}
use Rattle.standard.specs.Bytes.{◌!◌, ◌⊕◌, bit, part, table, choose, Bytes}
use Rattle.standard.specs.Cores.{bl1}
use Rattle.standard.specs.BooksFacts.{IsSealedForm}
use Rattle.standard.specs.SealsFacts.{seal_body}
use Rattle.standard.specs.Hurdle.{encrypt, encrypt_call, decrypt_call}
use Rattle.standard.specs.Seals.{sealing_size, form_of, failed, without8, opened, unseal_call, ta51_call, ta52_call}
use Rattle.standard.specs.Sizes.{ring_size, plain_size, sealed_size}
use Rattle.standard.specs.declared.Algorithm.{Algorithm}
use Rattle.standard.specs.declared.Algorithm.TheVariants.{Ta31, Ta51, Ta81, Ta91}
use Rattle.standard.specs.declared.KeyNumber.{KeyNumber}
use Rattle.standard.specs.declared.Version.{Version}
use Rattle.claims.specs.Entries.{Only, OfOne, ExactlyOne, Count, Legal, Opens, ZeroAt, SameText}
use Rattle.claims.specs.Variants.{ta52_without_bits, bl1_unchained, bl1_by}

-- 2a: "Decryption undoes encryption, and encryption undoes decryption." And encryption undoes decryption. The lengths are those that the
-- calls take; others are refused with 11
pub record Undone : Type 0 where
  pub back : (k b : List ℕ) → length k ≡ 16 → length b ≡ 8 → decrypt_call k (encrypt_call k b).bytes ≡ record { refusal = 0; bytes = b }
  pub forth : (k b : List ℕ) → length k ≡ 16 → length b ≡ 8 → encrypt_call k (decrypt_call k b).bytes ≡ record { refusal = 0; bytes = b }

-- 2e: "Without a cipher that can be undone two inputs that end in a zero byte would share a text." Whatever encrypts the blocks: if it
-- takes two blocks to one, inputs that have them on the left, and whatever on the right, have one text. With the cipher's encryption it is
-- BL1

-- sixteen bytes: a block, seven bytes and the zero byte
abbrev pub ended_by : List ℕ → List ℕ → List ℕ
ended_by r b = b ++ (r ++ 0 ∷ [])

pub record TwoInputs (e : List ℕ → List ℕ) (x y : List ℕ) : Type 0 where
  pub ends : ZeroAt 15 x
  pub same : SameText (bl1_by e) 15 x y
  pub other : x ≡ y → ⊥

pub record CipherNotUndone : Type 0 where
  pub right : (k x : List ℕ) → bl1_by (encrypt k) x ≡ bl1 k x
  pub shared : (e : List ℕ → List ℕ) (b c r : List ℕ) → Bytes 8 b → Bytes 8 c → Bytes 7 r → (b ≡ c → ⊥) → e b ≡ e c
      → TwoInputs e (ended_by r b) (ended_by r c)

-- 3a: "The dropped byte loses nothing: every string of 15 bytes comes from exactly one input that ends in a zero byte." Under every key;
-- that input is what unsealing opens the string to, before it is shrunk, and the zero byte. The string has to consist of bytes, or it could
-- not come out of BL1
abbrev pub NothingLost : Type 0
NothingLost = (k t : List ℕ) → Bytes 15 t → Only (λ x. Bytes 16 x × (x ! 15 ≡ 0) × (without8 (bl1 k x) ≡ t)) (opened k t ++ 0 ∷ [])

-- 3b: "Without the zero byte exactly 256 inputs would share each text." One for each value d of the dropped byte, which is below 256
pub record Shared : Type 0 where
  pub one_each : (k t : List ℕ) → Bytes 15 t → (d : ℕ) → d < 256 → ExactlyOne (λ x. Bytes 16 x × (without8 (bl1 k x) ≡ t) × (bl1 k x ! 7 ≡ d))
  pub in_all : (k t : List ℕ) → Bytes 15 t → Count 256 (λ x. Bytes 16 x × (without8 (bl1 k x) ≡ t))

-- 3c: "The chaining brings the dropped byte back." With it no other input that ends in a zero byte gives the same text; without it exactly
-- 256 such inputs give each text that one of them gives. Under every key
pub record Chaining : Type 0 where
  pub chained : (k x : List ℕ) → ZeroAt 15 x → Only (SameText (bl1 k) 15 x) x
  pub unchained : (k x : List ℕ) → ZeroAt 15 x → Count 256 (SameText (bl1_unchained k) 15 x)

-- 5a: "The checks pass exactly on the expansions of legal bodies, and shrinking gives the body." Said of BL2's output, 15 bytes: with a
-- zero byte after them they are BL1's input of one body alone. What is no string of bytes may pass the checks and be no expansion
abbrev pub ChecksExactly : Type 0
ChecksExactly = (a : Algorithm) (u : List ℕ) → Bytes 15 u
    → OfOne (failed (form_of a) u ≡ 0) (λ b. Legal a b × ((form_of a).input b ≡ u ++ 0 ∷ [])) ((form_of a).shrink u)

-- 6a: "For a given kind, ring and version a text opens exactly if it is the sealed text of an entry, of one and no other." That one is what
-- unsealing gives. Whatever the sealing key and the text: where a length is wrong, neither call takes them
abbrev pub OneText : Type 0
OneText = (a : Algorithm) (s : List ℕ) (v : Version) (t : List ℕ)
    → OfOne (Opens a s v t) (λ b. Legal a b × (seal_body a b v s ≡ record { refusal = 0; bytes = t })) (unseal_call a t s v).body

-- 4a: "Unsealing undoes sealing." Of every legal body, with no check failed. The sealing key has its length, or the body is not sealed
abbrev pub SealingUndone : Type 0
SealingUndone = (a : Algorithm) (s : List ℕ) (v : Version) (b : List ℕ) → length s ≡ sealing_size a → Legal a b
    → unseal_call a (seal_body a b v s).bytes s v ≡ record { refusal = 0; body = b; failed_checks = 0 }

-- 4b: "Two entries never share a text, kind, ring and version given." The sealing key has its length,
-- or both would be refused alike
abbrev pub EntriesApart : Type 0
EntriesApart = (a : Algorithm) (s : List ℕ) (v : Version) (b c : List ℕ) → length s ≡ sealing_size a → Legal a b → Legal a c
    → seal_body a b v s ≡ seal_body a c v s → b ≡ c

-- 6b: "Two texts never open to one entry, kind, ring and version given."
abbrev pub TextsApart : Type 0
TextsApart = (a : Algorithm) (s : List ℕ) (v : Version) (t u : List ℕ) → Opens a s v t → Opens a s v u
    → (unseal_call a t s v).body ≡ (unseal_call a u s v).body → t ≡ u

-- 7a: "Under a given ring a sealed record opens exactly if it is the sealed form of a plain record, of one and no other, its identity
-- included." The ring has to consist of bytes, since those of C go into the identity, and so has the record, whose identity else comes from
-- no other
abbrev pub OneRecord : Type 0
OneRecord = (r t : List ℕ) → Bytes ring_size r → Bytes sealed_size t
    → OfOne (open_fault r t ≡ 0) (λ p. Bytes plain_size p × (plain_fault p ≡ 0) × (seal_record r p ≡ t)) (open_record r t)

-- 8a: "Under a given ring a book opens exactly if it is what sealing makes of a well-formed plain book, of one and no other." Whatever its
-- length; that one is what opening writes. Ring and book consist of bytes, as in `OneRecord`; the output has to be long enough, or opening is
-- refused with 12
abbrev pub OneBook : Type 0
OneBook = (r s out : List ℕ) → Bytes ring_size r → ((i : ℕ) → s ! i < 256) → plain_size * (length s / sealed_size) ≤ length out
    → OfOne ((open_book r s out).0.refusal ≡ 0) (λ p. IsSealedForm r p s) (take (open_book r s out).0.written (open_book r s out).1)

-- 7b: "A record by itself opens as a book of one record does." So what is said of records is said of the call, which takes these lengths
abbrev pub RecordAlone : Type 0
RecordAlone = (r t out : List ℕ) → length r ≡ ring_size → length t ≡ sealed_size → plain_size ≤ length out
    → ((open_book r t out).0.refusal ≡ open_fault r t) × (open_fault r t ≡ 0 → (open_book r t out).1 ≡ open_record r t ++ drop plain_size out)

-- 6d: "Of the 256^15 texts exactly as many open as there are legal bodies: 256^10 of kind 1, 32 · 256^10 of kinds 2 and 5, 256^12 of kinds
-- 3, 4 and 6." Under every sealing key of its length, and every version
abbrev pub how_many : Algorithm → ℕ
how_many Ta31 = 256 ^ 10
how_many Ta51 = 32 * 256 ^ 10
how_many Ta81 = 256 ^ 12
how_many Ta91 = 256 ^ 12

pub record HowMany : Type 0 where
  pub texts : Count (256 ^ 15) (Bytes 15)
  pub bodies : (a : Algorithm) → Count (how_many a) (Legal a)
  pub opening : (a : Algorithm) (s : List ℕ) (v : Version) → length s ≡ sealing_size a → Count (how_many a) (Opens a s v)

-- 5b: "A text whose flag is set unseals to a key all the same." Every text unseals to a legal body, whether its flag is set or clear; and
-- each legal body has another text than its sealed text that unseals to it, with its flag set. The calls take these lengths; a text has to
-- consist of bytes, or the body might not
pub record Another (a : Algorithm) (s : List ℕ) (v : Version) (b t : List ℕ) : Type 0 where
  pub bytes : Bytes 15 t
  pub accepted : (unseal_call a t s v).refusal ≡ 0
  pub same : (unseal_call a t s v).body ≡ b
  pub set : (unseal_call a t s v).failed_checks ≡ 0 → ⊥
  pub other : (seal_body a b v s).bytes ≡ t → ⊥

pub record UnsealsAllTheSame : Type 0 where
  pub every : (a : Algorithm) (s : List ℕ) (v : Version) (t : List ℕ) → length s ≡ sealing_size a → Bytes 15 t
      → ((unseal_call a t s v).refusal ≡ 0) × Legal a (unseal_call a t s v).body
  pub other : (a : Algorithm) (s : List ℕ) (v : Version) (b : List ℕ) → length s ≡ sealing_size a → Legal a b → (t : List ℕ) × Another a s v b t

-- 5d: "For kinds 2 and 5 exactly seven other texts unseal to an entry's key and number and fail the check of the three zero bits alone."
-- That check is the fifth of TA52's. The entry is one that TA51 seals: a sealing key of 16 bytes, a key of 10, a number up to 31
abbrev pub fifth_alone : ℕ
fifth_alone = 0b10000

abbrev pub SevenOthers : Type 0
SevenOthers = (s : List ℕ) (v : Version) (ck : List ℕ) (n : ℕ) → length s ≡ 16 → Bytes 10 ck → n ≤ 31
    → Count 7 (λ t. Bytes 15 t × (ta52_call t s v ≡ record { refusal = 0; key = ck; number = n; failed_checks = fifth_alone }))

-- 5e: "Without the check of the three zero bits eight texts would open to one entry of kinds 2 and 5, and for seven of them sealing would
-- not give the text back." Seven of the eight are the sealed text of no entry at all
pub record EightWithout : Type 0 where
  pub eight : (s : List ℕ) (v : Version) (ck : List ℕ) (n : ℕ) → length s ≡ 16 → Bytes 10 ck → n ≤ 31
      → Count 8 (λ t. Bytes 15 t × (ta52_without_bits t s v ≡ record { refusal = 0; key = ck; number = n; failed_checks = 0 }))
  pub not_back : (s : List ℕ) (v : Version) (t : List ℕ) → length s ≡ 16 → (ta52_call t s v).failed_checks ≡ fifth_alone
      → (ck : List ℕ) (n : KeyNumber) → Bytes 10 ck → n.0 ≤ 31 → (ta51_call ck v s n).bytes ≡ t → ⊥

-- 5c: "Without any check exactly 256^5 texts of kind 1, 8 · 256^4 of kinds 2 and 5, and 256^3 of kinds 3, 4 and 6 unseal to each entry." To
-- each legal body; one of them is its sealed text. For kinds 2 and 5 it is 256^4 if the fifth check, of the three zero bits, is still made:
-- bit 4 of the failed checks is that one's
abbrev pub unsealing_alike : Algorithm → ℕ
unsealing_alike Ta31 = 256 ^ 5
unsealing_alike Ta51 = 8 * 256 ^ 4
unsealing_alike Ta81 = 256 ^ 3
unsealing_alike Ta91 = 256 ^ 3

pub record WithoutChecks : Type 0 where
  pub unchecked : (a : Algorithm) (s : List ℕ) (v : Version) (b : List ℕ) → length s ≡ sealing_size a → Legal a b
      → Count (unsealing_alike a) (λ t. Bytes 15 t × ((unseal_call a t s v).body ≡ b))
  pub bits_checked : (s : List ℕ) (v : Version) (b : List ℕ) → length s ≡ 16 → Legal Ta51 b
      → Count (256 ^ 4) (λ t. Bytes 15 t × ((unseal_call Ta51 t s v).body ≡ b) × (bit 4 (unseal_call Ta51 t s v).failed_checks ≡ 0))

-- 9a: "A change of one byte, of a text's first seven, goes into the right part of BL2's output as it is." Whether the text opens or not.
-- The change is byte i ⊕ d; i counts from 0 at the left
abbrev pub changed : (n i d : ℕ) → List ℕ → List ℕ
changed n i d xs = table n (λ j. choose (eqb j i) (xs ! j ⊕ d) (xs ! j))

abbrev pub Carried : Type 0
Carried = (k t : List ℕ) (i d : ℕ) → i < 7 → part 8 7 (opened k (changed 15 i d t)) ≡ changed 7 i d (part 8 7 (opened k t))

-- 9b: "Of a text that opens the flag notices each change of one byte: from the second to the seventh for kind 1, from the fourth to the
-- seventh for kinds 2 and 5, from the third to the seventh for kinds 3, 4 and 6." There the byte's group stands wholly in the right part of
-- BL2's output. A d of 0 would be no change. Of the other bytes nothing is claimed: `OneBit` has a change of the second byte of kind 3 that
-- the flag does not notice
abbrev pub noticed_from : Algorithm → ℕ
noticed_from Ta31 = 1
noticed_from Ta51 = 3
noticed_from Ta81 = 2
noticed_from Ta91 = 2

abbrev pub Noticed : Type 0
Noticed = (a : Algorithm) (s : List ℕ) (v : Version) (t : List ℕ) (i d : ℕ) → Opens a s v t
    → noticed_from a ≤ i → i < 7 → (d ≡ 0 → ⊥) → (unseal_call a (changed 15 i d t) s v).failed_checks ≡ 0 → ⊥

-- 5g: "Where no check of BL2's output fails, a change of one byte of it is always noticed." Of an output of which no check fails. A d of 0
-- would be no change
abbrev pub OneOfOutput : Type 0
OneOfOutput = (a : Algorithm) (u : List ℕ) (i d : ℕ) → failed (form_of a) u ≡ 0 → i < 15 → (d ≡ 0 → ⊥) → failed (form_of a) (changed 15 i d u) ≡ 0 → ⊥
