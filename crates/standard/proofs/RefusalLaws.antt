-- A refusal's number is not 0, and what the libraries' contracts say of a refusal follows from that.
use Rattle.standard.proofs.Prelude.{◌≡◌, refl, sym, ap, ◌∙◌, ◌&&◌, Bool, true, false, true≢false, ℕ, eqb, eqb-true, List, length}
use Rattle.std.specs.Prelude.{Result, Ok, Err, is_ok}
use Rattle.std.specs.Result.{result_unwrap_or}
use Rattle.standard.proofs.BytesLaws.{part_whole}
use Rattle.standard.specs.Answers.{refusal_number, exactly}
use Rattle.standard.specs.Bytes.{choose, part}
use Rattle.standard.specs.Refusals.{has_length}
use Rattle.standard.specs.declared.Refusal.{Refusal}
use Rattle.standard.specs.declared.Refusal.TheVariants.{BookTooLong, BookNotWhole, WrongKind, NotZero, WrongNumber, FlagSet, WrongMask, SharedBit, WrongWidth, ValueWide}
use Rattle.standard.specs.declared.Refusal.TheVariants.{WrongLength, OutputShort, WrongSides, WrongFilling, WrongParent, ParentLength, NoInput, GroupUnreadable, GroupDisagrees}

pub not_zero : (r : Refusal) → eqb (refusal_number r) 0 ≡ false
not_zero BookTooLong = refl
not_zero BookNotWhole = refl
not_zero WrongKind = refl
not_zero NotZero = refl
not_zero WrongNumber = refl
not_zero FlagSet = refl
not_zero WrongMask = refl
not_zero SharedBit = refl
not_zero WrongWidth = refl
not_zero ValueWide = refl
not_zero WrongLength = refl
not_zero OutputShort = refl
not_zero WrongSides = refl
not_zero WrongFilling = refl
not_zero WrongParent = refl
not_zero ParentLength = refl
not_zero NoInput = refl
not_zero GroupUnreadable = refl
not_zero GroupDisagrees = refl

-- a string that was taken is the string, and has the length
pub taken : (n : ℕ) (xs : List ℕ) {x : List ℕ} → Ok x ≡ exactly n xs → (has_length n xs ≡ true) × (x ≡ xs)
taken n xs {x} = go (has_length n xs) refl
  where
    go : (t : Bool) → has_length n xs ≡ t → Ok x ≡ choose t (Ok xs) (Err WrongLength) → (has_length n xs ≡ true) × (x ≡ xs)
    go true h e = (h, ap (λ (r : Result (List ℕ) Refusal). result_unwrap_or r x) e)
    go false h e = absurd (true≢false (ap is_ok e))

pub taken_whole : (n : ℕ) (xs : List ℕ) {x : List ℕ} → Ok x ≡ exactly n xs → x ≡ part 0 n xs
taken_whole n xs e = (taken n xs e).1 ∙ sym (part_whole n xs (eqb-true (length xs) n (taken n xs e).0))

-- and two of them that were taken
pub both_taken : (m n : ℕ) (a b : List ℕ) {p : List ℕ × List ℕ} → Ok p ≡ choose (has_length m a && has_length n b) (Ok (a, b)) (Err WrongLength)
    → (has_length m a ≡ true) × (has_length n b ≡ true) × (p.0 ≡ a) × (p.1 ≡ b)
both_taken m n a b {p} = go (has_length m a) (has_length n b) refl refl
  where
    go : (s t : Bool) → has_length m a ≡ s → has_length n b ≡ t → Ok p ≡ choose (s && t) (Ok (a, b)) (Err WrongLength)
        → (has_length m a ≡ true) × (has_length n b ≡ true) × (p.0 ≡ a) × (p.1 ≡ b)
    go true true h k e = (h, k, cc, cc)
    go true false h k e = cc
    go false t h k e = cc
