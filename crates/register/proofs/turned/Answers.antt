use Rattle.std.proofs.Common.{rules}
use Rattle.register.proofs.RegisterStateLaws.{step_more}
use Rattle.register.proofs.turned.Goals as goal

pub loop-i-preserved : goal.loop-i-preserved
loop-i-preserved c = search (rules, step_more)
