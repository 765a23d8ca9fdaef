use Rattle.std.proofs.Common.{rules, ◌++◌, []}
use Rattle.cores.specs.CoreOutputs.{bl2_with, counted}
use Rattle.hurdle.specs.Lanes.{lane}
use Rattle.standard.specs.Bytes.{part, xors}
use Rattle.cores_x4.proofs.LaneLaws.{lanes_made, lanes_mapped}
use Rattle.cores_x4.proofs.bl2_with_x4.Goals as goal

pub returns : goal.returns
unfolding bl2_with
returns c =
    let l = c.decrypt_with_x4-l.result in
    let r = c.decrypt_with_x4-r.result in
    let y = c.args.y in
    let rights = lanes_mapped c.map.ensures.items (λ x. part 8 8 x) (λ p q x y k. k.met) [] in
    let outputs =
    lanes_made c.from_fn.ensures.items (λ j. counted (part 0 8 (lane l j) ++ xors 7 (lane r j) (part 0 7 (lane y j)))) (λ i o q b k. (search rules, search rules)) in
    rw (outputs, c.decrypt_with_x4-l.ensures, c.bl2_left_input_x4.ensures, c.decrypt_with_x4-r.ensures, rights)
