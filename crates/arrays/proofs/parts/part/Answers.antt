use Rattle.std.proofs.Common.{◌∙◌}
use Rattle.arrays.proofs.CopyLaws.{read_whole, read_zeros, zeros_past}
use Rattle.arrays.proofs.parts.part.Goals as goal

pub returns-in-Some : goal.returns-in-Some
returns-in-Some g c = read_whole c.args.from g.row.N c.args.s.now c.in-Some.whole.now c.if-from-s.true c.in-Some.ensures.cases

pub returns-in_default : goal.returns-in_default
returns-in_default g c = c.copy.ensures ∙ read_zeros c.args.from g.row.N c.args.s.now

pub returns-else-from-s : goal.returns-else-from-s
returns-else-from-s g c = zeros_past g.row.N c.args.from c.args.s.now c.if-from-s.false
