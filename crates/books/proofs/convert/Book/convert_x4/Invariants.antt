-- The first j of the four records stand at their places.
use Rattle.std.proofs.Common.{◌≡◌, ◌+◌, ◌*◌}
use Rattle.books.specs.BothDirections.{size_of, output_size_of, kind_lane, made_of}
use Rattle.cores_x4.specs.OutputLanes.{output_lane}
use Rattle.lists.proofs.WalkLaws.{ReplacedFrom}
use Rattle.standard.specs.Lists.{record_at}
use Rattle.standard.specs.Runs.{text_runs}
use Rattle.books.proofs.convert.Book.convert_x4.Given as goal

abbrev pub invariant-loop-j : goal.invariant-loop-j
invariant-loop-j l = record {
  replaced :
      ReplacedFrom (output_size_of l.self.direction) l.i
      (λ k. made_of l.self.direction (kind_lane l.kinds k) l.identity_strings (record_at (size_of l.self.direction) l.self.bytes.now (l.i + k)) (output_lane l.o k).output)
      l.initial.out l.j l.out;
  runs : l.runs ≡ text_runs * l.j;
}
