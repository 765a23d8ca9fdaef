use Rattle.std.proofs.Common.{refl}
use Rattle.standard.specs.Hurdle.{S⁻¹}
use Rattle.hurdle.proofs.tables.s_inverse_at.Goals as goal

pub returns : goal.returns
unfolding S⁻¹
returns c = rw c.from.ensures refl
