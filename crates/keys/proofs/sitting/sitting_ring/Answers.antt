use Rattle.std.proofs.Common.{◌∙◌}
use Rattle.keys.proofs.SittingLaws.{sitting_recipe}
use Rattle.keys.proofs.sitting.sitting_ring.Goals as goal

pub returns : goal.returns
returns c =
    c.ring_of.ensures
    ∙ sitting_recipe c.args.s.now c.if-s-ne-SITTING.false _ c.part.ensures c.part-2.ensures c.part-3.ensures c.part-4.ensures c.part-5.ensures
    c.part-6.ensures c.part-7.ensures c.from.ensures c.pair.ensures.0 c.pair-2.ensures.0
