-- Which input gave a result (02, 10): what is found is the only one, stated. The proofs are in proofs/FindLaws.
use Rattle.std.specs.Prelude.{List, ◌↔◌, ◌≡◌, ℕ, ◌^◌, ◌<◌, ◌≤◌, length}
use Rattle.standard.specs.Inverses.{tb1⁻¹_call, tb3⁻¹_call, tb5⁻¹_call, tb6⁻¹_call}
use Rattle.standard.specs.Mixing.{tb1, tb3, tb5, tb6}
use Rattle.standard.specs.Refusals.{no_input}
use Rattle.standard.specs.declared.CarrierIdentity.{CarrierIdentity}
use Rattle.standard.specs.declared.Cell.{Cell}

-- a call that looks for the input, of the stated widths, of which f makes y: its refusal, and the input that it answers
pub record FindsOnly {A : Type 0} (Wide : A → Type 0) (f : A → List ℕ) (y : List ℕ) (refusal : ℕ) (input : A) : Type 0 where
  -- it answers 0 exactly if there is such an input
  pub found : (refusal ≡ 0) ↔ ((x : A) × Wide x × (f x ≡ y))
  -- that is the only one, and the one answered
  pub only : (x : A) → Wide x → f x ≡ y → x ≡ input
  -- it answers 17 exactly if there is none
  pub none : (refusal ≡ no_input) ↔ (((x : A) × Wide x × (f x ≡ y)) → ⊥)

-- TB1: for every width and every result
abbrev pub FindsTb1 : Type 0
FindsTb1 = (y : List ℕ) (w : ℕ) → length y ≡ 16 → 16 ≤ w → w ≤ 32
    → FindsOnly (λ (v : ℕ). v < 2 ^ w) (λ v. tb1 v w) y (tb1⁻¹_call y w).refusal (tb1⁻¹_call y w).value

-- TB3: under every Input 1
abbrev pub FindsTb3 : Type 0
FindsTb3 = (x y : List ℕ) (w : ℕ) → length x ≡ 16 → length y ≡ 16 → 16 ≤ w → w ≤ 32
    → FindsOnly (λ (v : ℕ). v < 2 ^ w) (λ v. tb3 x v w) y (tb3⁻¹_call x y w).refusal (tb3⁻¹_call x y w).value

-- TB5: location area, carrier and colour code, for every cipher key and every result
abbrev pub FindsTb5 : Type 0
FindsTb5 = (ck y : List ℕ) → length ck ≡ 10 → length y ≡ 10
    → let a : Cell = tb5⁻¹_call ck y in
    FindsOnly (λ (x : ℕ × ℕ × ℕ). (x.0 < 2 ^ 14) × (x.1 < 2 ^ 12) × (x.2 < 2 ^ 6)) (λ x. tb5 ck x.0 x.1 x.2) y
    a.refusal (a.location_area, a.carrier, a.colour_code)

-- TB6: carrier and identity
abbrev pub FindsTb6 : Type 0
FindsTb6 = (ck y : List ℕ) → length ck ≡ 10 → length y ≡ 10
    → let a : CarrierIdentity = tb6⁻¹_call ck y in
    FindsOnly (λ (x : ℕ × ℕ). (x.0 < 2 ^ 12) × (x.1 < 2 ^ 24)) (λ x. tb6 ck x.0 x.1) y a.refusal (a.carrier, a.identity)
