-- i rounds are made.
use Rattle.std.proofs.Common.{◌≡◌}
use Rattle.hurdle.specs.RoundSteps.{rounds_over}
use Rattle.hurdle.proofs.round.rounds.Given as goal

abbrev pub invariant-loop-i : goal.invariant-loop-i
invariant-loop-i l = l.state ≡ rounds_over l.direction l.keys l.i l.fn.h
