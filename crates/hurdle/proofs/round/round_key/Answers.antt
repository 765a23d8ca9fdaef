use Rattle.std.proofs.Common.{◌∙◌, ◌*◌, arith}
use Rattle.hurdle.proofs.RoundLaws.{chunk_at}
use Rattle.standard.proofs.BytesLaws.{part_lent}
use Rattle.hurdle.proofs.round.round_key.Goals as goal

pub returns : goal.returns
returns c = rw (c.as_chunks.ensures.front, c.told-keys) (chunk_at 12 16 c.args.n c.args.keys.now (omega arith) ∙ part_lent (c.args.n * 12) 12 c.args.keys.now (omega arith))
