use Rattle.std.proofs.Common.{rules}
use Rattle.register.proofs.RegisterStateLaws.{turns_none, turn_more}
use Rattle.register.specs.RegisterStates.{state_of}
use Rattle.register.proofs.rounds.Goals as goal

pub loop-i-init : goal.loop-i-init
loop-i-init c = turns_none c.args.direction (state_of c.args.s)

pub loop-i-preserved : goal.loop-i-preserved
loop-i-preserved c = search (rules, turn_more)
