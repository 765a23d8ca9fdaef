-- Changes under round keys laid out first, and their sum and extremes as far as they are counted.
use mathlib.Core.List.{List, foldl}
use Rattle.std.specs.Prelude.{◌≡◌, ℕ, ◌+◌, ◌*◌, ◌≤◌, min, max, length}
use Rattle.standard.specs.Bytes.{xors}
use Rattle.standard.specs.Diffusion.{flipped, bits_set}
use Rattle.standard.specs.Hurdle.{encrypt_with}
use Rattle.diffusion.specs.declared.figures.Figures.{Figures}

unfoldable pub change_with : (keys block : List ℕ) → ℕ → ℕ
change_with keys b i = bits_set (xors 8 (encrypt_with keys b) (encrypt_with keys (flipped i b)))

-- the figures of no changes. No change is above 64, so the least starts there
abbrev pub none : Figures
none = record { total = 0; least = 64; greatest = 0 }

-- the figures f go on, over the changes cs, to g
pub record Counted (f : Figures) (cs : List ℕ) (g : Figures) : Type 0 where
  pub total : g.total ≡ foldl ◌+◌ f.total cs
  pub least : g.least ≡ foldl min f.least cs
  pub greatest : g.greatest ≡ foldl max f.greatest cs
  pub most : g.total ≤ f.total + 64 * length cs
