use Rattle.lines.proofs.LineLaws.{line_append, line_whole}
use Rattle.plain_listing.proofs.ListLaws.{entries_short}
use Rattle.standard.specs.PlainListing.{entries_line}
use Rattle.plain_listing.proofs.entries_line.Goals as goal

pub returns : goal.returns
unfolding entries_line
returns c = line_whole (entries_line _) {l = c.word-2.result} (simp line_append cc) (entries_short _)
