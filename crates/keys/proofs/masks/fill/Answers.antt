use Rattle.std.proofs.Common.{rules}
use Rattle.keys.proofs.MaskLaws.{whole_filled}
use Rattle.keys.proofs.masks.fill.Goals as goal

pub returns : goal.returns
returns c = whole_filled c.args.mask c.args.output c.args.out.now _ (search rules) c.requires c.choose.ensures
