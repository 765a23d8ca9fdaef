-- The terms in which the claims stand: exactly one, exactly so many, the body of an entry, a text that opens, and inputs that share a text.
-- Kind 1 is TA31's, kinds 2 and 5 are TA51's, kinds 3 and 6 are TA81's, and kind 4 is TA91's.
use Rattle.std.specs.Prelude.{List, ◌∷◌, ◌++◌, ◌↔◌, ◌≡◌, ℕ, ◌+◌, ◌<◌}
use Rattle.standard.specs.Bytes.{◌!◌, table, part, Bytes}
use Rattle.standard.specs.Seals.{form_of, without8, unseal_call}
use Rattle.standard.specs.declared.Algorithm.{Algorithm}
use Rattle.standard.specs.declared.Version.{Version}

-- ---- how many

-- x has P, and nothing else has
pub record Only {A : Type 0} (P : A → Type 0) (x : A) : Type 0 where
  pub has : P x
  pub only : (y : A) → P y → y ≡ x

-- exactly one string has P
abbrev pub ExactlyOne : (List ℕ → Type 0) → Type 0
ExactlyOne P = (x : List ℕ) × Only P x

-- Q holds exactly if something has P; and then x has it, and nothing else
pub record OfOne {A : Type 0} (Q : Type 0) (P : A → Type 0) (x : A) : Type 0 where
  pub exactly : Q ↔ ((y : A) × P y)
  pub one : Q → Only P x

-- exactly n strings have P: they stand one to one with the numbers below n. `nth` gives the string of a number, `place` takes it back
pub record Count (n : ℕ) (P : List ℕ → Type 0) : Type 0 where
  pub nth : ℕ → List ℕ
  pub place : List ℕ → ℕ
  pub has : (i : ℕ) → i < n → P (nth i)
  pub below : (x : List ℕ) → P x → place x < n
  pub back : (i : ℕ) → i < n → place (nth i) ≡ i
  pub forth : (x : List ℕ) → P x → nth (place x) ≡ x

-- ---- entries

-- the body of an entry: 12 bytes to which neither refusal 4 nor refusal 5 applies
pub record Legal (a : Algorithm) (b : List ℕ) : Type 0 where
  pub bytes : Bytes 12 b
  pub accepted : (form_of a).fault b ≡ 0

-- a text that opens: 15 bytes that the unsealing call takes, and it finds no check failed
pub record Opens (a : Algorithm) (s : List ℕ) (v : Version) (t : List ℕ) : Type 0 where
  pub bytes : Bytes 15 t
  pub accepted : (unseal_call a t s v).refusal ≡ 0
  pub clear : (unseal_call a t s v).failed_checks ≡ 0

-- ---- byte 8, which a text leaves out

-- a text with a byte in its place; `with8` puts in a zero byte
abbrev pub with_inserted : ℕ → List ℕ → List ℕ
with_inserted d t = part 0 7 t ++ d ∷ part 7 8 t

-- sixteen bytes with a zero byte at place p, counted from 0 at the left
abbrev pub ZeroAt : ℕ → List ℕ → Type 0
ZeroAt p x = Bytes 16 x × (x ! p ≡ 0)

-- y is such an input, too, and a core gives both the same text
abbrev pub SameText : (List ℕ → List ℕ) → (p : ℕ) (x y : List ℕ) → Type 0
SameText core p x y = ZeroAt p y × (without8 (core y) ≡ without8 (core x))

-- ---- what examples share

-- n bytes, from one on: 00 01 .. 0f is `upward 0 16`
abbrev pub upward : (from n : ℕ) → List ℕ
upward from n = table n (λ i. from + i)

abbrev pub version7 : Version
version7 = record { 0 = 7 }
