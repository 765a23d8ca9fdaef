-- The first records are counted.
use Rattle.standard.specs.Diffusion.{record_changes}
use Rattle.standard.specs.Lists.{each}
use Rattle.standard.specs.Sizes.{diffusion_size}
use Rattle.diffusion.specs.ChangeCounts.{none, Counted}
use Rattle.diffusion.proofs.count.Given as goal

abbrev pub invariant-loop-rec : goal.invariant-loop-rec
invariant-loop-rec l = Counted none (each l.rec-index diffusion_size record_changes l.list) l.figures
