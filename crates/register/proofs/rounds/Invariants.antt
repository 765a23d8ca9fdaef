-- i rounds are made.
use Rattle.std.proofs.Common.{◌≡◌}
use Rattle.register.specs.RegisterStates.{state_of, turns}
use Rattle.register.proofs.rounds.Given as goal

abbrev pub invariant-loop-i : goal.invariant-loop-i
invariant-loop-i l = state_of l.state ≡ turns l.direction l.i (state_of l.fn.s)
