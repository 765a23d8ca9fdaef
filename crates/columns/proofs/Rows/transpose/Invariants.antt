-- The first j columns are written.
use Rattle.columns.proofs.FileLaws.{Filed}
use Rattle.columns.proofs.Rows.transpose.Given as goal

abbrev pub invariant-loop-j : goal.invariant-loop-j
invariant-loop-j l = Filed l.self.count l.self.width l.self.bytes.now l.initial.out l.j l.out
