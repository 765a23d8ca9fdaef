use Rattle.lines.proofs.LineLaws.{written_padded}
use Rattle.lines.proofs.Line.word.Goals as goal

pub invariant_of-result : goal.invariant_of-result
invariant_of-result c = written_padded _ _ _ _ c.self.invariant c.copy.ensures c.min.ensures
