use Rattle.lists.proofs.WalkLaws.{end_fits, lent}
use Rattle.books.proofs.convert.Book.record_at.Goals as goal

pub returns : goal.returns
returns c =
    let book = c.args.self.now in
    rw c.size-size.ensures (lent _ c.args.i book.bytes.now (end_fits _ c.args.i book.records _ c.requires book.whole))
