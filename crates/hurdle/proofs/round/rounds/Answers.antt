use Rattle.hurdle.proofs.RoundLaws.{round_more}
use Rattle.std.proofs.Common.{rules}
use Rattle.hurdle.proofs.round.rounds.Goals as goal

pub loop-i-preserved : goal.loop-i-preserved
loop-i-preserved c = search (rules, round_more)
