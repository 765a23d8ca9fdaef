-- The whole records of w bytes in a list lie within it, and an output that passed its test has room for each.
use Rattle.standard.proofs.Prelude.{◌≡◌, refl, sym, ◌∙◌, ℕ, ◌*◌, ◌/◌, ◌≤◌, arith, leb-true}
use native.Mathlib.Nat.{div-add-mod}
use Rattle.standard.proofs.FirstLaws.{all_pass}
use Rattle.standard.specs.Lists.{list_tests}
use Rattle.standard.specs.Refusals.{first}

module _ (w size : ℕ) where
  pub records_within : w * (size / w) ≤ size
  records_within = omega (arith, div-add-mod size w)

  -- the output has a record of v bytes for each, once 12 is passed
  pub output_enough : (v room : ℕ) {refusal : ℕ} → refusal ≡ first (list_tests w v size room) → refusal ≡ 0 → v * (size / w) ≤ room
  output_enough v room e z = leb-true _ _ (all_pass (list_tests w v size room) refl (sym e ∙ z) 2)
