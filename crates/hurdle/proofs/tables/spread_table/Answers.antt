use Rattle.std.proofs.Common.{refl}
use Rattle.hurdle.specs.RoundSteps.{spreads}
use Rattle.standard.specs.Bytes.{bit}
use Rattle.standard.specs.Hurdle.{S}
use Rattle.hurdle.proofs.tables.spread_table.Goals as goal

pub returns : goal.returns
unfolding S spreads bit
returns c = refl
