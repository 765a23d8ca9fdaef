use Rattle.std.proofs.Common.{rules, ◌+◌, ◌/◌}
use Rattle.standard.proofs.MadeLaws.{made_table}
use Rattle.standard.specs.Bytes.{◌!◌}
use Rattle.cards.proofs.key_of.Goals as goal

pub returns : goal.returns
returns c = made_table _ _ (λ i. c.args.card ! (i + i / 3)) 12 (λ i y q l k. (search rules, search rules)) _ c.from_fn.ensures.items
