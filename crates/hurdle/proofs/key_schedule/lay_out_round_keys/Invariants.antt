-- The first i round keys are written, and j bytes of the next.
use Rattle.std.proofs.Common.{◌≡◌, ◌+◌, ◌*◌, length, take}
use Rattle.hurdle.proofs.ScheduleLaws.{rotations, masks, made}
use Rattle.standard.specs.Bytes.{table}
use Rattle.hurdle.proofs.key_schedule.lay_out_round_keys.Given as goal

abbrev pub invariant-loop-i : goal.invariant-loop-i
invariant-loop-i l = record { length_kept : length l.keys ≡ 192; filled : take (l.i * 12) l.keys ≡ table (l.i * 12) (made rotations masks l.twice) }

abbrev pub invariant-loop-j : goal.invariant-loop-j
invariant-loop-j l = record {
  length_kept : length l.keys ≡ 192;
  filled : take (l.i * 12 + l.j) l.keys ≡ table (l.i * 12 + l.j) (made rotations masks l.twice);
}
