use Rattle.std.proofs.Common.{rules}
use Rattle.register.proofs.RegisterStateLaws.{crypted}
use Rattle.register.proofs.crypt.Goals as goal

pub returns : goal.returns
returns c = crypted c.args.direction c.args.key c.args.block c.rounds.result (search rules) c.split.ensures c.rounds.ensures c.block_of.ensures
