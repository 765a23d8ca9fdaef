-- The first 4 · q flips are counted.
use Rattle.std.proofs.Common.{◌*◌}
use Rattle.standard.specs.Bytes.{table}
use Rattle.diffusion.specs.ChangeCounts.{change_with, Counted}
use Rattle.diffusion.proofs.count_record.Given as goal

abbrev pub invariant-loop-q : goal.invariant-loop-q
invariant-loop-q l = Counted l.fn.before (table (4 * l.q) (change_with l.keys l.block)) l.figures
