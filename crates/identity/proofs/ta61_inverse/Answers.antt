use Rattle.std.proofs.Common.{rules}
use Rattle.standard.specs.Identity.{ta61⁻¹_call}
use Rattle.identity.proofs.ta61_inverse.Goals as goal

pub returns-in_err-b : goal.returns-in_err-b
unfolding ta61⁻¹_call
returns-in_err-b c = search rules

pub returns : goal.returns
unfolding ta61⁻¹_call
returns c = search rules
