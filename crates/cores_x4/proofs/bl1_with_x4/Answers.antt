use Rattle.std.proofs.Common.{rules, ◌++◌, []}
use Rattle.cores.specs.CoreOutputs.{counted}
use Rattle.hurdle.specs.Lanes.{lane}
use Rattle.standard.specs.Bytes.{part}
use Rattle.standard.specs.Cores.{bl1_with}
use Rattle.cores_x4.proofs.LaneLaws.{lanes_made, lanes_mapped}
use Rattle.cores_x4.proofs.bl1_with_x4.Goals as goal

pub returns : goal.returns
unfolding bl1_with
returns c =
    let l = c.encrypt_with_x4-l.result in
    let r = c.encrypt_with_x4-r.result in
    let lefts = lanes_mapped c.map.ensures.items (λ x. part 0 8 x) (λ p q x y k. k.met) [] in
    let outputs = lanes_made c.from_fn.ensures.items (λ j. counted (part 0 8 (lane l j) ++ part 0 8 (lane r j))) (λ i y q b k. (search rules, search rules)) in
    rw (outputs, c.encrypt_with_x4-r.ensures, c.bl1_right_input_x4.ensures, c.encrypt_with_x4-l.ensures, lefts)
