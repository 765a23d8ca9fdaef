use Rattle.std.proofs.Common.{◌≤◌, ◌++◌, ◌/◌, arith, length}
use Rattle.lines.proofs.LineLaws.{over_next}
use Rattle.plain_listing.proofs.ListLaws.{entries_most}
use Rattle.standard.specs.PlainListing.{entry_lines, entries_line}
use Rattle.plain_listing.proofs.list_entries.Goals as goal

pub returns : goal.returns
returns c =
    let p = c.args.plain.now in
    let n = length p / 18 in
    let fits : length (entry_lines n p ++ entries_line n) ≤ length c.args.out.now = omega (arith, entries_most n p c.requires) in
    over_next (entry_lines n p) (entries_line n) c.args.out.now fits c.entry_lines-at.ensures (omega arith) (rw c.entries_line.ensures at c.put.ensures)
