-- The first i indexes stand at the places of their entries.
use Rattle.standard.proofs.PrintedTablesLaws.{Placed}
use Rattle.printed_tables.proofs.inverse.Given as goal

abbrev pub invariant-loop-i : goal.invariant-loop-i
invariant-loop-i l = Placed l.out l.i
