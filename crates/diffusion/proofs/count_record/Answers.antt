use Rattle.std.proofs.Common.{◌≡◌, ◌∙◌, ap, subst, arith, List, ℕ}
use Rattle.standard.specs.Hurdle.{schedule}
use Rattle.diffusion.specs.ChangeCounts.{Counted}
use Rattle.diffusion.proofs.CountLaws.{counted_four, record_under}
use Rattle.diffusion.proofs.count_record.Goals as goal

pub loop-q-preserved : goal.loop-q-preserved
loop-q-preserved c = counted_four _ c.loop-q.q c.changes_x4.ensures.value c.loop-q.invariant c.and_all-figures.ensures

pub returns : goal.returns
returns c =
    let all : c.loop-q.q ≡ 16 = omega arith in
    subst (λ (cs : List ℕ). Counted c.args.before cs c.loop-q.figures)
    (record_under c.args.rec.now _ _ (c.schedule-keys.ensures ∙ ap schedule c.part.ensures) c.part-block.ensures)
    (rw all at c.loop-q.invariant)
