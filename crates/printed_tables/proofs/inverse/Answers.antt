use Rattle.std.proofs.Common.{◌≡◌, arith}
use Rattle.standard.proofs.PrintedTablesLaws.{placed_more, placed_all}
use Rattle.standard.specs.Hurdle.{S}
use Rattle.printed_tables.proofs.inverse.Goals as goal

pub loop-i-preserved : goal.loop-i-preserved
unfolding S
loop-i-preserved c = rw c.from.ensures (placed_more c.loop-i.out c.loop-i.i (omega arith) c.loop-i.invariant)

pub returns : goal.returns
returns c = let e : c.loop-i.i ≡ 256 = omega arith in placed_all c.loop-i.out (rw e at c.loop-i.invariant)
