-- Checks that pass, after those of an algorithm, do not change their or.
use Rattle.standard.proofs.Prelude.{◌≡◌, refl, List, ℕ}
use lib.Bits.{or_zero_r}
use Rattle.standard.specs.Bytes.{part}
use Rattle.standard.specs.Seals.{checks, or_on, or_of, form_of}
use Rattle.standard.specs.declared.Algorithm.{Algorithm}
use Rattle.standard.specs.declared.Algorithm.TheVariants.{Ta31, Ta51, Ta81, Ta91}

pub or_padded : (a : Algorithm) (u : List ℕ) → or_on 0 (part 0 5 (checks (form_of a) u)) ≡ or_of (form_of a) u
or_padded Ta31 u = refl
or_padded Ta51 u = refl
or_padded Ta81 u = simp or_zero_r
or_padded Ta91 u = simp or_zero_r
