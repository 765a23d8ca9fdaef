use Rattle.std.proofs.Common.{◌≡◌, refl, ◌∙◌, ◌+◌, ◌*◌, arith, rules}
use Rattle.hurdle.proofs.ScheduleLaws.{rotations, masks, made, made_at, all_made}
use Rattle.standard.proofs.FillLaws.{fill_next, filled}
use Rattle.hurdle.proofs.key_schedule.lay_out_round_keys.Goals as goal

pub loop-j-preserved : goal.loop-j-preserved
unfolding rotations masks
loop-j-preserved c =
    let i = c.loop-i.i in
    let j = c.loop-j.j in
    let twice = c.doubled-twice.result in
    let e : i * 12 + (j + 1) ≡ i * 12 + j + 1 = omega arith in record {
      length_kept = search rules;
      filled =
          rw e
          (fill_next c.loop-j.keys (made rotations masks twice) (i * 12 + j) _ (omega arith)
          (made_at rotations masks twice i j _ (omega arith) refl) c.loop-j.invariant.filled);
    }

pub returns : goal.returns
returns c =
    filled c.loop-i.keys (made rotations masks c.doubled-twice.result) 192 (c.loop-i.i * 12) (omega arith) (omega arith) c.loop-i.invariant.filled
    ∙ all_made c.args.key c.doubled-twice.result c.doubled-twice.ensures
