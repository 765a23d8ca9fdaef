use Rattle.std.proofs.Common.{refl, ap, ◌∙◌, suc, ◌+◌, ◌≤◌, arith, length}
use Rattle.standard.proofs.PrintedTablesLaws.{lines_length}
use Rattle.standard.specs.Lists.{record_at}
use Rattle.standard.specs.PrintedTables.{table_line, table_lines}
use Rattle.lines.proofs.LineLaws.{over_none, lines_next, row_at}
use Rattle.printed_tables.proofs.table_lines.Goals as goal

pub loop-row-init : goal.loop-row-init
unfolding table_lines
loop-row-init c = over_none c.args.out.now

pub loop-row-preserved : goal.loop-row-preserved
unfolding table_lines
loop-row-preserved c =
    let i = c.loop-row.row-index in
    let t = c.args.t.now in
    let made = c.table_line.ensures ∙ ap table_line (row_at 16 t i _ c.as_chunks.ensures.front (omega arith)) in
    let fits : length (table_lines (suc i) t) ≤ length c.args.out.now = omega (arith, lines_length (suc i) t) in
    lines_next (λ i. table_line (record_at 16 t i)) i c.args.out.now made fits c.loop-row.invariant refl c.put-at.ensures

-- where the next line ends is a small number
pub overflow_add-at : goal.overflow_add-at
overflow_add-at c = omega (arith, (loop-row-preserved c).ends, lines_length (c.loop-row.row-index + 1) c.args.t.now)
