use Rattle.std.proofs.Common.{arith}
use Rattle.lists.proofs.WalkLaws.{chunk_at}
use Rattle.standard.proofs.DiffusionLaws.{length_changes}
use Rattle.standard.specs.Sizes.{diffusion_size}
use Rattle.diffusion.proofs.CountLaws.{counted_record}
use Rattle.diffusion.proofs.count.Goals as goal

pub count_record-figures-requires : goal.count_record-figures-requires
count_record-figures-requires c =
    omega (arith, c.loop-rec.invariant.most, length_changes c.args.list.now c.loop-rec.rec-index, c.as_chunks.ensures.front_len)

pub loop-rec-preserved : goal.loop-rec-preserved
loop-rec-preserved c =
    let at = chunk_at diffusion_size c.args.list.now c.as_chunks.ensures.front c.as_chunks.ensures.front_len c.loop-rec.rec-index c.loop-rec-test.true in
    counted_record c.args.list.now c.loop-rec.rec-index _ at c.loop-rec.invariant c.count_record-figures.ensures
