use Rattle.std.proofs.Common.{refl}
use Rattle.standard.specs.Hurdle.{S}
use Rattle.hurdle.proofs.tables.s_table.Goals as goal

pub returns : goal.returns
unfolding S
returns c = refl
