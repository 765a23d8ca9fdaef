use Rattle.std.proofs.Common.{◌∙◌, arith}
use Rattle.arrays.proofs.CopyLaws.{both_copied, both_whole, first_fills}
use Rattle.arrays.proofs.joins.join.Goals as goal

pub returns-then-this-clause-value : goal.returns-then-this-clause-value
returns-then-this-clause-value g c =
    both_copied g.row.M g.row.L c.args.a c.args.b (omega arith) c.if-this.true c.copy.new.out c.copy-then-this.new.out c.copy.ensures c.copy-then-this.ensures

pub returns-then-this-clause-whole : goal.returns-then-this-clause-whole
returns-then-this-clause-whole g c h =
    returns-then-this-clause-value g c ∙ both_whole g.row.M g.row.N g.row.L c.args.a c.args.b (omega arith) (omega arith) h

pub returns-else-this-clause-value : goal.returns-else-this-clause-value
returns-else-this-clause-value g c = c.copy.ensures ∙ first_fills g.row.M g.row.L c.args.a c.args.b (omega arith) c.if-this.false

pub returns-else-this-clause-whole : goal.returns-else-this-clause-whole
returns-else-this-clause-whole g c h =
    returns-else-this-clause-value g c ∙ both_whole g.row.M g.row.N g.row.L c.args.a c.args.b (omega arith) (omega arith) h
