use Rattle.std.proofs.Common.{◌+◌, ◌-◌, ap, ◌∙◌, arith, length}
use borrow.Rule.Slice.PartMut.{put_mid}
use Rattle.standard.proofs.PrintedTablesLaws.{text_length}
use Rattle.standard.specs.PrintedTables.{table_line, tables_text}
use Rattle.lines.proofs.LineLaws.{over_answered}
use Rattle.lines.specs.LineStates.{Over}
use Rattle.printed_tables.proofs.PrintLaws.{short, whole}
use Rattle.printed_tables.proofs.print_tables.Goals as goal
use Rattle.printed_tables.proofs.print_tables.Goals.{After-put}

written : (c : After-put)
    → let at = c.table_lines-at.result in let out = c.table_lines-at.new.out in
    Over tables_text c.args.out.now (at + c.put.result) (put_mid at (length out - at) out c.put.new.out)
written c =
    let lines = rw c.inverse.ensures at c.table_lines-at.ensures in
    whole c.args.out.now c.if-out-lt-TABLES_TEXT.false lines (c.table_line.ensures ∙ ap table_line c.rotations.ensures) c.put.ensures

pub returns-then-out-lt-TABLES_TEXT : goal.returns-then-out-lt-TABLES_TEXT
returns-then-out-lt-TABLES_TEXT c = short c.args.out.now c.if-out-lt-TABLES_TEXT.true

pub overflow_add-result : goal.overflow_add-result
overflow_add-result c = omega (arith, text_length, (written (goal.at.overflow_add-result c).After-put).ends)

pub returns : goal.returns
returns c = over_answered tables_text c.args.out.now (written (goal.at.returns c).After-put)
