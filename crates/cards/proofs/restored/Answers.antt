use Rattle.std.proofs.Common.{rules, arith, ◌*◌, ◌/◌}
use Rattle.std.proofs.lemmas.Grind.{common_steps}
use Rattle.standard.proofs.MadeLaws.{made_table}
use Rattle.standard.specs.Bytes.{◌!◌, choose}
use Rattle.standard.specs.Cards.{unreadable, group_parity, restored}
use Rattle.cards.proofs.restored.Goals as goal

pub returns : goal.returns
unfolding restored
returns c =
    let read = c.args.read in
    made_table _ _ (λ i. choose (unreadable c.args.unreadable i) (group_parity read (4 * (i / 4))) (read ! i)) 16
    (λ i y q l k. (grind (arith, common_steps), search rules)) _ c.from_fn.ensures.items
