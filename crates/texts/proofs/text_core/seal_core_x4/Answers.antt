use Rattle.std.proofs.Common.{[]}
use Rattle.cores_x4.proofs.LaneLaws.{lanes_mapped}
use Rattle.texts.specs.TextCores.{shortened}
use Rattle.texts.proofs.text_core.seal_core_x4.Goals as goal

pub returns : goal.returns
returns c =
    let texts = lanes_mapped c.map.ensures.items (λ o. shortened o) (λ p q x y k. k.met) (record { output = []; runs = 0 }) in
    rw (texts, c.bl1_x4.ensures)
