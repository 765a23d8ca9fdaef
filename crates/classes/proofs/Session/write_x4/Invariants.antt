-- The first j of the four records stand at their places.
use Rattle.classes.specs.ClassRecords.{record_from}
use Rattle.cores_x4.specs.OutputLanes.{output_lane}
use Rattle.lists.proofs.WalkLaws.{ReplacedFrom}
use Rattle.standard.specs.Sizes.{authentication_size}
use Rattle.classes.proofs.Session.write_x4.Given as goal

abbrev pub invariant-loop-j : goal.invariant-loop-j
invariant-loop-j l =
    ReplacedFrom authentication_size l.i (λ k. record_from l.self.masks.response l.self.masks.key (output_lane l.o-items k).output) l.initial.out l.j l.out
