use Rattle.std.proofs.Common.{sym, ap, ◌∙◌, arith}
use Rattle.lines.proofs.LineLaws.{put_whole}
use Rattle.plain_listing.proofs.ListLaws.{accepted_few, listed, listing_fits, refused_listed}
use Rattle.standard.specs.PlainListing.{listing}
use Rattle.standard.specs.declared.BookAnswer.{BookAnswer}
use Rattle.plain_listing.proofs.list_plain.Goals as goal

pub list_entries-requires : goal.list_entries-requires
list_entries-requires c = accepted_few c.args.plain.now (sym (ap (λ (a : BookAnswer). a.refusal) c.in-Ok.ensures))

pub returns-in-Ok : goal.returns-in-Ok
returns-in-Ok c = rw (listed c.args.plain.now c.in-Ok.ensures, c.list_entries.ensures.ends, c.list_entries.ensures.bytes)

pub returns-in-Err : goal.returns-in-Err
returns-in-Err c =
    let p = c.args.plain.now in
    let line = refused_listed p c.in-Err.field-0.refusal c.in-Err.ensures in
    rw (c.refused_line.ensures, c.into.ensures, ← line) at c.put.ensures
    ∙ put_whole (listing p) c.args.out.now (omega (arith, listing_fits p))
