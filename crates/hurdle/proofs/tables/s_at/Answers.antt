use Rattle.std.proofs.Common.{refl}
use Rattle.standard.specs.Hurdle.{S}
use Rattle.hurdle.proofs.tables.s_at.Goals as goal

pub returns : goal.returns
unfolding S
returns c = rw c.from.ensures refl
