-- The records passed have no fault, and the runs are those of the looks at them.
use Rattle.std.proofs.Common.{◌≡◌}
use Rattle.books.specs.BothDirections.{fault_at, inspection_at}
use Rattle.lists.specs.Walks.{Clean}
use Rattle.standard.specs.Runs.{first_pass}
use Rattle.books.proofs.convert.Book.scan.Given as goal

abbrev pub invariant-loop-index : goal.invariant-loop-index
invariant-loop-index l = record {
  clean : Clean (fault_at l.self.ring.now l.self.direction l.self.bytes.now) l.index;
  runs :
      l.runs ≡ first_pass l.index (fault_at l.self.ring.now l.self.direction l.self.bytes.now) (inspection_at l.self.direction l.self.bytes.now);
}
