use Rattle.arrays.proofs.SameLaws.{same_not}
use Rattle.arrays.proofs.same.Goals as goal

pub returns-then-a-b : goal.returns-then-a-b
returns-then-a-b c = same_not c.args.a.now c.args.b.now c.if-a-b.true
