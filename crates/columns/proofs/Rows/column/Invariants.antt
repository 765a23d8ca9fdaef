-- The first i bytes of the output are byte j of the first i rows.
use Rattle.std.proofs.Common.{◌≡◌, take}
use Rattle.standard.specs.Columns.{column}
use Rattle.columns.proofs.Rows.column.Given as goal

abbrev pub invariant-loop-i : goal.invariant-loop-i
invariant-loop-i l = take l.i l.out ≡ column l.i l.self.width l.self.bytes.now l.j
