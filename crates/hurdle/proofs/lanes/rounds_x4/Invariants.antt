-- i rounds are made in each lane.
use Rattle.std.proofs.Common.{◌≡◌}
use Rattle.hurdle.specs.Lanes.{lent, each_lane}
use Rattle.hurdle.specs.RoundSteps.{rounds_over, halves_at}
use Rattle.hurdle.proofs.lanes.rounds_x4.Given as goal

abbrev pub invariant-loop-i : goal.invariant-loop-i
invariant-loop-i l = each_lane (λ j. halves_at l.state j ≡ rounds_over l.direction (lent l.keys j) l.i (halves_at l.fn.h j))
