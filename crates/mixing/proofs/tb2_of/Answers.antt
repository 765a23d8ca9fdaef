use Rattle.std.proofs.Common.{sym, rules}
use Rattle.standard.proofs.BytesLaws.{part_whole}
use Rattle.mixing.proofs.tb2_of.Goals as goal

pub returns : goal.returns
returns c = sym (part_whole 16 c.args.input (search rules))
