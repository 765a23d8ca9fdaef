use Rattle.standard.proofs.RefusalLaws.{taken}
use Rattle.classes.proofs.ClassLaws.{all_written}
use Rattle.classes.proofs.ta12_class.Goals as goal

pub returns : goal.returns
returns c =
    let key = taken 16 c.args.session_key.now c.in_ok-session_key.ensures in
    let masks = c.in_ok-masks.ensures in
    let chunks = c.as_chunks.ensures in
    all_written c.args.session_key.now c.args.challenges.now c.args.response_mask c.args.key_mask c.args.out.now key.0 c.in_ok-records.ensures.tests
    masks.tests key.1 c.schedule.ensures masks.masks.0 masks.masks.1 c.in_ok-records.ensures.records.0 chunks.front chunks.front_len c.write.ensures
