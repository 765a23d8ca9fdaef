use Rattle.std.proofs.Common.{arith}
use Rattle.std.proofs.lemmas.Result.{err_from_is_err_and}
use Rattle.books.proofs.BookReturnLaws.{ring_refused, lengths_refused, record_refused, written, second_most}
use Rattle.books.proofs.DirectionLaws.{inspections_few}
use Rattle.books.proofs.book_call.Goals as goal

pub returns-in_err-ring : goal.returns-in_err-ring
returns-in_err-ring c =
    let p = err_from_is_err_and c.from_residual.result c.from_residual.ensures.1 in
    rw (p.1, p.2) (ring_refused c.args.ring.now c.args.direction c.args.book.now c.args.out.now c.in_err-ring.ensures)

pub returns-in_err-records : goal.returns-in_err-records
returns-in_err-records c =
    let p = err_from_is_err_and c.from_residual-in_err-records.result c.from_residual-in_err-records.ensures.1 in
    rw (p.1, p.2)
    (lengths_refused c.args.ring.now c.args.direction c.args.book.now c.args.out.now c.in_ok-ring.ensures _
    (rw (c.size.ensures, c.output_size-output_size.ensures) at c.in_err-records.ensures.tests))

pub returns-in_err-inspections : goal.returns-in_err-inspections
returns-in_err-inspections c =
    let p = err_from_is_err_and c.from_residual-in_err-inspections.result c.from_residual-in_err-inspections.ensures.1 in
    let records = rw (c.size.ensures, c.output_size-output_size.ensures) at c.in_ok-records.ensures in
    let stopped = c.in_err-inspections.ensures in
    rw (p.1, p.2)
    (record_refused c.args.ring.now c.args.direction c.args.book.now c.args.out.now c.in_ok-ring.ensures records.records.0 records.tests stopped.0 stopped.1)

pub overflow_add-runs : goal.overflow_add-runs
overflow_add-runs c =
    let n = c.in_ok-records.records in
    omega (
      arith,
      inspections_few c.in_ok-ring.ring c.args.direction c.args.book.now n,
      second_most n,
      c.in_ok-inspections.ensures.1,
      c.write.ensures.1,
      c.in_ok-records.ensures.records.2,
    )

pub returns : goal.returns
returns c =
    let records = rw (c.size.ensures, c.output_size-output_size.ensures) at c.in_ok-records.ensures in
    let clean = c.in_ok-inspections.ensures in
    rw c.output_size-output_size.ensures
    (written c.args.ring.now c.args.direction c.args.book.now c.args.out.now c.in_ok-ring.ensures records.records.0 records.tests clean.0 clean.1
    c.write.ensures.1 c.write.ensures.0)
