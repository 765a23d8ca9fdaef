-- Which input gave a result (02, 10): the inverses of TB1, TB3, TB5 and TB6. The fields are read off the first eight bytes, and answered
-- if they give the whole result again.
use Rattle.std.specs.Prelude.{◌&&◌, List, [], ◌∷◌, ℕ, ◌+◌, ◌-◌, ◌/◌, ◌%◌, ◌^◌}
use Rattle.standard.specs.Bytes.{part, xors, number, same}
use Rattle.standard.specs.Mixing.{tb1, tb3, tb5, tb6}
use Rattle.standard.specs.Refusals.{wrong_length, wrong_width, no_input, has_length, valid_width, first, value, cell, carrier_identity}
use Rattle.standard.specs.declared.CarrierIdentity.{CarrierIdentity}
use Rattle.standard.specs.declared.Cell.{Cell}
use Rattle.standard.specs.declared.Value.{Value}

-- the w bits of eight bytes that stand a bits from their left end
unfoldable pub field : ℕ → ℕ → List ℕ → ℕ
field a w b = number b / 2 ^ (64 - (a + w)) % 2 ^ w

-- ---- the calls

unfoldable pub tb1⁻¹_call : List ℕ → ℕ → Value
tb1⁻¹_call y w =
    let v = field 0 w (part 0 8 y) in
    value (first ((has_length 16 y, wrong_length) ∷ (valid_width w, wrong_width) ∷ (same (tb1 v w) y, no_input) ∷ [])) v

unfoldable pub tb3⁻¹_call : List ℕ → List ℕ → ℕ → Value
tb3⁻¹_call x y w =
    let v = field 0 w (xors 8 x y) in
    value (first ((has_length 16 x && has_length 16 y, wrong_length) ∷ (valid_width w, wrong_width) ∷ (same (tb3 x v w) y, no_input) ∷ [])) v

unfoldable pub tb5⁻¹_call : List ℕ → List ℕ → Cell
tb5⁻¹_call ck y =
    let b = xors 8 ck y in
    let la = field 0 14 b in
    let cn = field 14 12 b in
    let cc = field 26 6 b in
    cell (first ((has_length 10 ck && has_length 10 y, wrong_length) ∷ (same (tb5 ck la cn cc) y, no_input) ∷ [])) la cn cc

unfoldable pub tb6⁻¹_call : List ℕ → List ℕ → CarrierIdentity
tb6⁻¹_call ck y =
    let b = xors 8 ck y in
    let cn = field 0 12 b in
    let ssi = field 12 24 b in
    carrier_identity (first ((has_length 10 ck && has_length 10 y, wrong_length) ∷ (same (tb6 ck cn ssi) y, no_input) ∷ [])) cn ssi
