use Rattle.std.proofs.Common.{◌∙◌}
use Rattle.keys.proofs.RingLaws.{ring_taken}
use Rattle.keys.proofs.ring.Goals as goal

pub returns : goal.returns
returns c =
    let x = c.args in
    c.ring_of.ensures
    ∙ ring_taken x.root.now x.rs.now x.rso.now x.rand1.now x.rand2.now x.c.now x.group_key.now x.sides x.response_mask x.key_mask
    c.in_ok-exactly.ensures c.in_ok-exactly-2.ensures c.in_ok-exactly-3.ensures c.in_ok-exactly-4.ensures c.in_ok-exactly-5.ensures
    c.in_ok-exactly-6.ensures c.in_ok-exactly-7.ensures
