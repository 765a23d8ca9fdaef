use Rattle.std.proofs.lemmas.Result.{err_from_is_err_and}
use Rattle.lists.proofs.ListReturnLaws.{answer_refused, answer_stopped, answer_done}
use Rattle.standard.specs.Books.{check_plain}
use Rattle.books.proofs.check_plain.Goals as goal

pub returns-in_err-records : goal.returns-in_err-records
unfolding check_plain
returns-in_err-records c =
    let p = err_from_is_err_and c.from_residual.result c.from_residual.ensures.1 in
    rw (p.1, p.2) (answer_refused _ _ _ _ _ c.in_err-records.ensures.tests)

pub returns-in-Ok : goal.returns-in-Ok
unfolding check_plain
returns-in-Ok c =
    let records = c.in_ok-records.ensures in
    rw (← records.records.0) (answer_done _ _ _ _ records.tests c.in-Ok.ensures.0)

pub returns-in-Err : goal.returns-in-Err
unfolding check_plain
returns-in-Err c =
    let records = c.in_ok-records.ensures in
    rw (← records.records.0) (answer_stopped _ _ _ _ records.tests _ _ c.in-Err.ensures.0)
