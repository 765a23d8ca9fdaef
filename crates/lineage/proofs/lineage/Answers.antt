use Rattle.std.proofs.Common.{◌≡◌}
use Rattle.std.proofs.lemmas.Result.{err_from_is_err_and}
use Rattle.lists.proofs.ListReturnLaws.{call_stopped}
use Rattle.standard.specs.Lineage.{lineage_call}
use Rattle.lineage.proofs.lineage.Goals as goal

pub returns-in_err-scan : goal.returns-in_err-scan
unfolding lineage_call
returns-in_err-scan c =
    let out = c.from_residual-in_err-scan in
    let same = err_from_is_err_and {Q = λ y. y ≡ c.in_err-scan.field-0.0} out.result out.ensures.1 in
    rw (same.1, same.2)
    (call_stopped _ _ _ _ _ _ c.in_ok-n.ensures.tests _ _ (rw c.in_ok-n.ensures.records.0 at c.in_err-scan.ensures.first))
