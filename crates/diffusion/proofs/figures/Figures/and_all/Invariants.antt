-- The first changes are counted.
use Rattle.std.proofs.Common.{take}
use Rattle.diffusion.specs.ChangeCounts.{Counted}
use Rattle.diffusion.proofs.figures.Figures.and_all.Given as goal

abbrev pub invariant-loop-change : goal.invariant-loop-change
invariant-loop-change l = Counted l.fn.self (take l.change-index l.changes) l.figures
