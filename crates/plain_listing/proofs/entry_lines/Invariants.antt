-- The lines of the records before this one are over the front of the output.
use Rattle.lines.specs.LineStates.{Over}
use Rattle.standard.specs.PlainListing.{entry_lines}
use Rattle.plain_listing.proofs.entry_lines.Given as goal

abbrev pub invariant-loop-i : goal.invariant-loop-i
invariant-loop-i l = Over (entry_lines l.i l.plain) l.initial.out l.at l.out
