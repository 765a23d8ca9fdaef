-- The key schedule in sixteen bytes (02, 7): one register, which starts as the key and steps from round to round until the key is back.
use Rattle.std.specs.Prelude.{List, [], ◌∷◌, ◌++◌, ℕ, zero, suc, ◌-◌, ◌%◌}
use Rattle.standard.specs.Bytes.{◌!◌, part, xors}
use Rattle.standard.specs.Hurdle.{Halves, round, D, a, rotl, next}
use Rattle.standard.specs.Refusals.{wrong_length, has_length, first, answer16}
use Rattle.standard.specs.declared.Bytes16.{Bytes16}

-- the step after round i + 1, as from one Q to the next: by a(i+1) bytes to the left, then ⊕ D
abbrev pub step : ℕ → List ℕ → List ℕ
step i q = next (a ! i) q

-- the step back: ⊕ D, then rotated right as far, which is left by what is missing to sixteen
abbrev pub step_back : ℕ → List ℕ → List ℕ
step_back i q = rotl (16 - a ! i) (xors 16 q D)

-- the register after n steps; after each sixteen the rotations begin anew
unfoldable pub turned : List ℕ → ℕ → List ℕ
turned key zero = key
turned key (suc n) = step (n % 16) (turned key n)

-- ---- the second form of encryption and decryption

-- the register, and the block's halves beside it
pub record State : Type 0 where
  pub register : List ℕ
  pub halves : Halves

abbrev pub start : List ℕ → List ℕ → State
start key b = record { register = key; halves = (part 0 4 b, part 4 4 b) }

-- a round takes bytes 11 to 0 of the register as its key
abbrev pub round_under : List ℕ → Halves → Halves
round_under q h = round (part 4 12 q) h

-- n rounds of encryption: each a round under the register, and then its step
unfoldable pub onward : ℕ → State → State
onward zero s = s
onward (suc n) s =
    let t : State = onward n s in
    record { register = step n t.register; halves = round_under t.register t.halves }

-- n rounds of decryption: each a step back, and then a round under the register
unfoldable pub backward : ℕ → State → State
backward zero s = s
backward (suc n) s =
    let t : State = backward n s in
    let q : List ℕ = step_back (15 - n) t.register in
    record { register = q; halves = round_under q t.halves }

-- R, then L
abbrev pub block_of : State → List ℕ
block_of s = s.halves.1 ++ s.halves.0

unfoldable pub encrypt_register : List ℕ → List ℕ → List ℕ
encrypt_register key b = block_of (onward 16 (start key b))

unfoldable pub decrypt_register : List ℕ → List ℕ → List ℕ
decrypt_register key b = block_of (backward 16 (start key b))

-- ---- the call that shows the register; those of the cipher are `encrypt_call` and `decrypt_call`

unfoldable pub register_call : List ℕ → ℕ → Bytes16
register_call key n = answer16 (first ((has_length 16 key, wrong_length) ∷ [])) (turned key n)
