use Rattle.std.proofs.Common.{arith}
use Rattle.standard.proofs.BytesLaws.{part_lent}
use Rattle.printed_tables.proofs.PrintLaws.{line_shown}
use Rattle.printed_tables.proofs.table_line.Goals as goal

pub returns : goal.returns
returns c = line_shown c.args.t.now _ (part_lent 0 15 c.args.t.now (omega arith)) (rw (c.word.ensures, c.hex_byte.ensures, c.spaced.ensures))
