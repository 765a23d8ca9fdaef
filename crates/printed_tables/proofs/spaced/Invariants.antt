-- The entries before this one are in the line.
use Rattle.std.proofs.Common.{[], ◌≡◌, take}
use Rattle.standard.specs.PrintedTables.{spaced}
use Rattle.lines.specs.LineStates.{◌▸◌}
use Rattle.printed_tables.proofs.spaced.Given as goal

abbrev pub invariant-loop-x : goal.invariant-loop-x
invariant-loop-x l = l.l ≡ [] ▸ spaced (take l.x-index l.t)
