-- Smudged key cards (02, 11): when a card is restored, and to what, stated. The proofs are in proofs/CardLaws.
use Rattle.std.specs.Prelude.{List, ◌⊎◌, ◌↔◌, ◌≡◌, ℕ, ◌<◌, length}
use Rattle.standard.specs.Bytes.{byte, bit, Bytes}
use Rattle.standard.specs.Cards.{restore_call}
use Rattle.standard.specs.Mixing.{tb7}
use Rattle.standard.specs.Refusals.{group_disagrees}

-- two cards have the same byte at every readable place
abbrev pub SameReadable : ℕ → List ℕ → List ℕ → Type 0
SameReadable m x y = (i : ℕ) → i < 16 → bit i m ≡ 0 → byte 16 y i ≡ byte 16 x i

-- y is the TB7 form of a key of 12 bytes, and has x's byte at every readable place
pub record FormOf (x : List ℕ) (m : ℕ) (y : List ℕ) : Type 0 where
  pub form : (k : List ℕ) × Bytes 12 k × (tb7 k ≡ y)
  pub same : SameReadable m x y

-- exactly one string has a property, or none has, or several have
pub record OnlyOne (P : List ℕ → Type 0) (y : List ℕ) : Type 0 where
  pub has : P y
  pub only : (z : List ℕ) → P z → z ≡ y

abbrev pub None : (List ℕ → Type 0) → Type 0
None P = (y : List ℕ) → P y → ⊥

pub record Several (P : List ℕ → Type 0) : Type 0 where
  pub one : List ℕ
  pub other : List ℕ
  pub one_has : P one
  pub other_has : P other
  pub differ : one ≡ other → ⊥

-- for every card of 16 bytes and every mask
pub record CardLaw : Type 0 where
  -- it is restored exactly if there is exactly one such form ..
  pub restores : (x : List ℕ) (m : ℕ) → Bytes 16 x → ((restore_call x m).refusal ≡ 0) ↔ ((y : List ℕ) × OnlyOne (FormOf x m) y)
  -- .. which the answer then has, with its key
  pub answers : (x : List ℕ) (m : ℕ) → Bytes 16 x → (restore_call x m).refusal ≡ 0
      → OnlyOne (FormOf x m) (restore_call x m).card
      × OnlyOne (λ k. Bytes 12 k × (tb7 k ≡ (restore_call x m).card)) (restore_call x m).key
  -- it is refused exactly if there is none or there are several
  pub refuses : (x : List ℕ) (m : ℕ) → Bytes 16 x → ((restore_call x m).refusal ≡ 0 → ⊥) ↔ (None (FormOf x m) ⊎ Several (FormOf x m))
  -- 19 means that there is none
  pub disagrees : (x : List ℕ) (m : ℕ) → Bytes 16 x → (restore_call x m).refusal ≡ group_disagrees → None (FormOf x m)
  -- what stands at the unreadable places changes nothing
  pub unseen : (x y : List ℕ) (m : ℕ) → length x ≡ 16 → length y ≡ 16 → SameReadable m x y → restore_call x m ≡ restore_call y m
