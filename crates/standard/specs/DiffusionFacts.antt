-- The diffusion tally (02, 12): what the request asks of the figures, stated. The proofs are in proofs/DiffusionLaws.
use Rattle.std.specs.Prelude.{List, [], ◌≡◌, ℕ, ◌*◌, ◌/◌, ◌<◌, ◌≤◌, length}
use Rattle.standard.specs.Bytes.{◌!◌}
use Rattle.standard.specs.Diffusion.{diffusion_call}
use Rattle.standard.specs.Sizes.{diffusion_size}
use Rattle.standard.specs.declared.Tally.{Tally}

-- of the answer to n records that are accepted
pub record Figures (n : ℕ) (t : Tally) : Type 0 where
  pub flips : t.flips ≡ 64 * n
  pub least_is_one : 1 ≤ n → 1 ≤ t.least
  pub ordered : t.least ≤ t.greatest
  pub most : t.greatest ≤ 64
  pub above : t.flips * t.least ≤ t.total
  pub below : t.total ≤ t.flips * t.greatest

pub record DiffusionHolds : Type 0 where
  pub none : diffusion_call [] ≡ record { refusal = 0; flips = 0; total = 0; least = 0; greatest = 0 }
  pub refused : (xs : List ℕ) → ((diffusion_call xs).refusal ≡ 0 → ⊥)
      → diffusion_call xs ≡ record { refusal = (diffusion_call xs).refusal; flips = 0; total = 0; least = 0; greatest = 0 }
  -- whatever bytes are handed in
  pub accepted : (xs : List ℕ) → ((i : ℕ) → xs ! i < 256) → (diffusion_call xs).refusal ≡ 0
      → Figures (length xs / diffusion_size) (diffusion_call xs)
