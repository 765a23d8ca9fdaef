use Rattle.lines.proofs.LineLaws.{line_append}
use Rattle.reports.proofs.refused_at.Goals as goal

pub returns : goal.returns
returns c = simp line_append cc
