use Rattle.std.proofs.Common.{[], ◌∙◌, rules}
use Rattle.hurdle.proofs.LaneLaws.{by_lanes}
use Rattle.hurdle.proofs.RoundLaws.{crypted}
use Rattle.hurdle.specs.Lanes.{lane, lent}
use Rattle.hurdle.specs.RoundSteps.{place}
use Rattle.standard.specs.Hurdle.{crypt, round_key}
use Rattle.hurdle.proofs.lanes.crypt_x4.Goals as goal

pub returns : goal.returns
returns c =
    let x = c.args in
    let d = x.direction in
    let keys = lent x.keys in
    let s = c.split_x4.ensures in
    let r = c.rounds_x4.ensures in
    let e = c.blocks_of.ensures in
    by_lanes [] c.blocks_of.result (λ j. crypt (λ i. round_key (keys j) (place d i)) (lane x.x j)) (search rules)
    (e.0 ∙ crypted d (keys 0) s.0 r.0, e.1 ∙ crypted d (keys 1) s.1 r.1, e.2 ∙ crypted d (keys 2) s.2 r.2, e.3 ∙ crypted d (keys 3) s.3 r.3)
