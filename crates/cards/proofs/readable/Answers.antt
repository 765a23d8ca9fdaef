use Rattle.std.proofs.Common.{rules, arith}
use Rattle.std.proofs.lemmas.Grind.{common_steps}
use Rattle.standard.proofs.MadeLaws.{made_table}
use Rattle.standard.specs.Bytes.{◌!◌, choose}
use Rattle.standard.specs.Cards.{unreadable, readable}
use Rattle.cards.proofs.readable.Goals as goal

pub returns : goal.returns
unfolding readable
returns c =
    made_table _ _ (λ i. choose (unreadable c.args.unreadable i) 0 (c.args.card ! i)) 16
    (λ i y q l k. (grind (arith, common_steps), search rules)) _ c.from_fn.ensures.items
