use Rattle.std.proofs.Common.{arith}
use Rattle.standard.proofs.Prelude.{add-sub_cancel_left}
use Rattle.lines.proofs.LineLaws.{line_append, line_whole}
use Rattle.plain_listing.proofs.ListLaws.{key_short, entry_short}
use Rattle.standard.proofs.BytesLaws.{part_lent}
use Rattle.standard.specs.Books.{record_kind}
use Rattle.standard.specs.PlainListing.{entry_line}
use Rattle.standard.specs.Seals.{key_length}
use Rattle.plain_listing.proofs.entry_line.Goals as goal

pub returns : goal.returns
unfolding entry_line
returns c =
    let p = c.args.p.now in
    let k = key_length (record_kind p).algorithm in
    let identity = part_lent 1 3 p (omega arith) in
    let key = part_lent 6 k p (omega (arith, key_short (record_kind p).algorithm)) in
    line_whole (entry_line c.args.index p) {l = c.back.result}
    (simp line_append (rw (← identity, ← key, ← add-sub_cancel_left 6 k, ← c.kind_at.ensures, c.back.ensures, c.front.ensures)))
    (entry_short c.args.index p)
