-- The first i parts of the output are the values of the first i records.
use Rattle.lists.proofs.WalkLaws.{PrefixWritten}
use Rattle.standard.specs.Lineage.{value_of}
use Rattle.standard.specs.Sizes.{value_size}
use Rattle.lineage.proofs.walk.write.Given as goal

abbrev pub invariant-loop-i : goal.invariant-loop-i
invariant-loop-i l = PrefixWritten value_size (value_of l.sheet) l.initial.out l.i l.out
