use Rattle.std.proofs.Common.{arith}
use Rattle.standard.specs.Bytes.{bit}
use Rattle.keys.proofs.MaskLaws.{gather_none, gather_all, gather_full, turn_stored, turn_passed}
use Rattle.keys.proofs.masks.choose.Goals as goal
use Rattle.keys.proofs.masks.choose.Goals.{then-chosen, else-chosen}

pub loop-j-init : goal.loop-j-init
loop-j-init c = gather_none c.args.mask c.args.output c.args.out.now

pub loop-j-preserved : goal.loop-j-preserved
unfolding bit
loop-j-preserved c = elim c.if-chosen.branch [
  | then-chosen w ↦ turn_stored c.loop-j-test.true c.loop-j.invariant w.if-chosen.true (grind arith) w.k-is w.out-is
  | else-chosen w ↦ turn_passed c.loop-j-test.true c.loop-j.invariant w.if-chosen.false w.k-is w.out-is
]
