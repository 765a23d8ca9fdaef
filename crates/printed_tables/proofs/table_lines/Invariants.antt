-- The lines of the rows before this one are over the front of the output.
use Rattle.standard.specs.PrintedTables.{table_lines}
use Rattle.lines.specs.LineStates.{Over}
use Rattle.printed_tables.proofs.table_lines.Given as goal

abbrev pub invariant-loop-row : goal.invariant-loop-row
invariant-loop-row l = Over (table_lines l.row-index l.t) l.initial.out l.at l.out
