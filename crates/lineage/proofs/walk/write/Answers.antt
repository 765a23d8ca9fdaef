use Rattle.std.proofs.Common.{◌∙◌, arith}
use Rattle.lineage.proofs.SheetLaws.{value_next}
use Rattle.lists.proofs.WalkLaws.{prefix_next}
use Rattle.standard.proofs.LineageLaws.{value_length}
use Rattle.standard.specs.Lineage.{value_of}
use Rattle.standard.specs.Sizes.{value_size}
use Rattle.lineage.proofs.walk.write.Goals as goal

pub loop-i-preserved : goal.loop-i-preserved
loop-i-preserved c =
    let sheet = c.args.sheet.now in
    let at = c.loop-i in
    let made = c.value_of-value.ensures ∙ value_next sheet at.out at.i c.args.n c.requires.clean c.loop-i-test.true c.args.out.now at.invariant in
    rw c.from-b.ensures
    (prefix_next value_size (value_of sheet) (value_length sheet) c.args.out.now at.i at.out at.invariant (omega arith) _
    (c.copy_from_slice.ensures.after ∙ made))
