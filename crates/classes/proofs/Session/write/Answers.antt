use Rattle.std.proofs.Common.{refl}
use Rattle.classes.proofs.ClassLaws.{recorded_x4, recorded_one}
use Rattle.classes.proofs.Session.write.Goals as goal

pub loop-k-preserved : goal.loop-k-preserved
loop-k-preserved c =
    let chunks = c.as_chunks.ensures in
    recorded_x4 c.args.self.now c.args.challenges.now c.args.out.now c.requires chunks.front chunks.front_len c.loop-k.k c.loop-k-test.true refl
    c.loop-k.invariant c.write_x4.ensures

pub loop-j-preserved : goal.loop-j-preserved
loop-j-preserved c =
    let chunks = c.as_chunks.ensures in
    recorded_one c.args.self.now c.args.challenges.now c.args.out.now c.requires chunks.front chunks.front_len chunks.back c.loop-j.j c.loop-j-test.true refl
    c.loop-j.invariant c.write_one.ensures
