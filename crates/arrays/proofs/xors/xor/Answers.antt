use Rattle.std.proofs.Common.{refl, arith, ◌∙◌}
use lib.ListN.{length-set}
use Rattle.standard.proofs.FillLaws.{fill_next, filled}
use Rattle.standard.specs.Bytes.{◌!◌, ◌⊕◌}
use Rattle.arrays.proofs.xors.xor.Goals as goal

pub loop-i-preserved : goal.loop-i-preserved
loop-i-preserved g c = record {
  len = length-set c.loop-i.out c.loop-i.i _ ∙ c.loop-i.invariant.len;
  filled = fill_next c.loop-i.out (λ j. c.args.a ! j ⊕ c.args.b ! j) c.loop-i.i _ (omega (arith, c.loop-i.invariant.len)) refl c.loop-i.invariant.filled;
}

pub returns : goal.returns
returns g c =
    filled c.loop-i.out (λ j. c.args.a ! j ⊕ c.args.b ! j) g.row.N c.loop-i.i c.loop-i.invariant.len (omega arith) c.loop-i.invariant.filled
