use Rattle.std.proofs.Common.{◌∙◌, ap, arith, rules}
use Rattle.std.proofs.lemmas.Grind.{common_steps}
use Rattle.std.proofs.lemmas.Nat.{widths}
use Rattle.std.specs.Int.Count.{ones}
use Rattle.std.specs.Int.{w64, from_be_bytes}
use Rattle.standard.specs.Bytes.{◌!◌, ◌⊕◌}
use Rattle.diffusion.proofs.CountLaws.{word_ones}
use Rattle.diffusion.proofs.changed.Goals as goal

pub returns : goal.returns
returns c = (
  ap ones (c.from_be_bytes.ensures ∙ ap (from_be_bytes w64) c.xor.ensures)
      ∙ word_ones (λ i. c.args.a ! i ⊕ c.args.b ! i) (λ i. grind (arith, common_steps, widths)),
  search rules,
)
