-- The records passed have no fault.
use Rattle.lists.specs.Walks.{Clean}
use Rattle.standard.specs.Lineage.{lineage_fault}
use Rattle.lineage.proofs.walk.scan.Given as goal

abbrev pub invariant-loop-i : goal.invariant-loop-i
invariant-loop-i l = Clean (lineage_fault l.sheet) l.i
