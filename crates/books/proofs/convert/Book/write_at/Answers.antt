use Rattle.lists.proofs.WalkLaws.{end_fits, replaced_lent}
use Rattle.books.proofs.DirectionLaws.{made_length}
use Rattle.books.proofs.convert.Book.write_at.Goals as goal

pub returns : goal.returns
returns c =
    let book = c.args.self.now in
    rw (c.output_size-output_size.ensures, ← c.record_at.ensures)
    (replaced_lent _ c.args.i c.args.out.now _ _ (end_fits _ c.args.i book.records _ c.requires.0 c.requires.1)
    (made_length book.direction c.args.kind c.args.identity_strings c.record_at.result.now c.args.o)
    (rw c.output_size-output_size.ensures at c.write_record.ensures))
