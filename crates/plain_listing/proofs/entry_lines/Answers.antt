use Rattle.std.proofs.Common.{ap, ◌∙◌, suc, ◌≤◌, arith, length}
use Rattle.lines.proofs.LineLaws.{over_none, lines_next, row_at}
use Rattle.plain_listing.proofs.ListLaws.{lines_short}
use Rattle.standard.specs.Lists.{record_at}
use Rattle.standard.specs.PlainListing.{entry_line, entry_lines}
use Rattle.plain_listing.proofs.entry_lines.Goals as goal

pub loop-i-init : goal.loop-i-init
unfolding entry_lines
loop-i-init c = over_none c.args.out.now

pub loop-i-preserved : goal.loop-i-preserved
unfolding entry_lines
loop-i-preserved c =
    let i = c.loop-i.i in
    let p = c.args.plain.now in
    let fits : length (entry_lines (suc i) p) ≤ length c.args.out.now = omega (arith, lines_short (suc i) p, c.requires) in
    let made = c.entry_line.ensures ∙ ap (entry_line i) (row_at 18 p i _ c.as_chunks.ensures.front (omega arith)) in
    lines_next (λ i. entry_line i (record_at 18 p i)) i c.args.out.now made fits c.loop-i.invariant (omega arith) c.put-at.ensures
