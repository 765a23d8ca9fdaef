-- Sentences about single records and the ring's keys (docs/ARGUMENT.md): what stands before the text, and which key is asked.
use Rattle.std.specs.Prelude.{List, ◌∷◌, ◌++◌, ◌≡◌, ℕ}
use Rattle.standard.specs.Books.{ring_key, plain_fault, seal_record, open_fault, open_record}
use Rattle.standard.specs.Bytes.{part}
use Rattle.standard.specs.declared.RingKey.TheVariants.{O, G}

-- ---- the kind byte

-- records that differ in their kind byte alone, j or k: under the ring r they open alike and are sealed alike, but for that byte
pub record AlikeButKind (r : List ℕ) (j k : ℕ) : Type 0 where
  pub opens : (x : List ℕ) → open_fault r (j ∷ x) ≡ open_fault r (k ∷ x)
  pub plain : (x : List ℕ) → part 1 17 (open_record r (j ∷ x)) ≡ part 1 17 (open_record r (k ∷ x))
  pub seals : (x : List ℕ) → plain_fault (j ∷ x) ≡ plain_fault (k ∷ x)
  pub sealed : (x : List ℕ) → part 1 20 (seal_record r (j ∷ x)) ≡ part 1 20 (seal_record r (k ∷ x))

-- 7f: "The kind byte is protected." Under every ring a record of kind 3 opens with the kind byte 4, and one of kind 4 with the kind byte 3,
-- to the same bytes after it
abbrev pub KindByteFree : Type 0
KindByteFree = (r : List ℕ) → AlikeButKind r 3 4

-- 1e: "If O and G are the same, kind 5 is kind 2 and kind 6 is kind 3."
abbrev pub SameOAndG : Type 0
SameOAndG = (r : List ℕ) → ring_key O r ≡ ring_key G r → AlikeButKind r 2 5 × AlikeButKind r 3 6

-- ---- the key C

-- the ring r with c for its C
abbrev pub with_c : List ℕ → List ℕ → List ℕ
with_c c r = part 0 26 r ++ part 0 10 c ++ part 36 16 r

-- 7d: "A wrong C sets the flag." With any other C a record opens exactly if it does with the ring's, to the same kind, version and body: C
-- is asked for the identity alone
pub record OtherC (r c t : List ℕ) : Type 0 where
  pub opens : open_fault (with_c c r) t ≡ open_fault r t
  pub kind : part 0 1 (open_record (with_c c r) t) ≡ part 0 1 (open_record r t)
  pub rest : part 4 14 (open_record (with_c c r) t) ≡ part 4 14 (open_record r t)

abbrev pub CommonKeyFree : Type 0
CommonKeyFree = (r c t : List ℕ) → OtherC r c t
