-- The first parts of the output are the first records, converted, and the runs are those that they took.
use Rattle.std.proofs.Common.{◌≡◌, ◌+◌, ◌*◌}
use Rattle.books.proofs.DirectionLaws.{Converted}
use Rattle.standard.specs.Runs.{identity_runs, text_runs}
use Rattle.books.proofs.convert.Book.write.Given as goal

abbrev pub invariant-loop-k : goal.invariant-loop-k
invariant-loop-k l = record {
  converted : Converted l.self.ring.now l.b l.self.direction l.self.bytes.now l.initial.out (4 * l.k) l.out;
  runs : l.runs ≡ identity_runs + text_runs * (4 * l.k);
}

abbrev pub invariant-loop-i : goal.invariant-loop-i
invariant-loop-i l = record {
  converted : Converted l.self.ring.now l.b l.self.direction l.self.bytes.now l.fn.out l.i l.out;
  runs : l.runs ≡ identity_runs + text_runs * l.i;
}
