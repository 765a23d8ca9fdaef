use Rattle.std.proofs.Common.{arith}
use Rattle.standard.proofs.BytesLaws.{part_lent}
use Rattle.records.proofs.parts.ring_key.Goals as goal

pub returns-in-O : goal.returns-in-O
returns-in-O c = rw c.in-O.is (part_lent 10 16 c.args.r.now (omega arith))

pub returns-in-G : goal.returns-in-G
returns-in-G c = rw c.in-G.is (part_lent 36 16 c.args.r.now (omega arith))
