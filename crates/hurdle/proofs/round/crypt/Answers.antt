use Rattle.std.proofs.Common.{◌∙◌}
use Rattle.hurdle.proofs.RoundLaws.{crypted}
use Rattle.hurdle.proofs.round.crypt.Goals as goal

pub returns : goal.returns
returns c = c.block_of.ensures ∙ crypted c.args.direction c.args.keys.now c.split.ensures c.rounds.ensures
