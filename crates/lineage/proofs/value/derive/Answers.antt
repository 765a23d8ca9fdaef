use Rattle.std.proofs.Common.{rules, arith}
use Rattle.lineage.proofs.SheetLaws.{by_ta11, by_ta21, by_tb4, by_ta71}
use Rattle.lineage.proofs.value.derive.Goals as goal

pub returns-in-1 : goal.returns-in-1
returns-in-1 c =
    by_ta11 c.args.operation c.args.a c.args.b c.part-second.ensures (search rules) (search rules) c.in-1.is c.core.ensures

pub returns-in-2 : goal.returns-in-2
returns-in-2 c =
    by_ta21 c.args.operation c.args.a c.args.b c.part-second.ensures (search rules) (search rules) c.in-2.is c.reversed.ensures
    c.core-in-2.ensures

pub returns-in-4 : goal.returns-in-4
returns-in-4 c =
    by_tb4 c.args.operation c.args.a c.args.b c.part-second.ensures c.part-first.ensures c.part.ensures c.in-4.is c.tb4_of.ensures

pub returns-in_default : goal.returns-in_default
returns-in_default c =
    by_ta71 c.args.operation c.args.a c.args.b c.part-second.ensures c.part-first.ensures c.part-in_default.ensures (grind arith)
    (omega arith) (omega arith) c.ta71_of.ensures
