use Rattle.std.proofs.Common.{rules}
use Rattle.standard.specs.Identity.{P⁻¹}
use Rattle.identity.proofs.permuted_back.Goals as goal

pub returns : goal.returns
unfolding P⁻¹
returns c = search rules
