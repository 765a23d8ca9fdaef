use Rattle.std.proofs.Common.{arith}
use Rattle.diffusion.proofs.CountLaws.{none_counted, all_counted}
use Rattle.diffusion.proofs.diffusion.Goals as goal

pub returns-then-n-eq0 : goal.returns-then-n-eq0
returns-then-n-eq0 c =
    rw c.in_ok-n.ensures.records.0 (none_counted c.args.records.now c.in_ok-n.ensures.tests c.count-figures.ensures (omega (arith, c.in_ok-n.ensures.records)))

pub returns-else-n-eq0 : goal.returns-else-n-eq0
returns-else-n-eq0 c =
    rw c.in_ok-n.ensures.records.0
    (all_counted c.args.records.now c.in_ok-n.ensures.tests c.count-figures.ensures (λ z. omega (arith, c.in_ok-n.ensures.records)) (λ i. omega (arith, c.type_inv.records i)))
