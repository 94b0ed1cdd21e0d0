-- `write`: terms and state are checked first.
use Rattle.std.proofs.lemmas.Result.{err_from_is_err_and}
use Rattle.writer.proofs.OldForm.{ends_failed}
use Rattle.writer.proofs.write.write.Goals as goal

pub returns-in_err-check-clause-result_value : goal.returns-in_err-check-clause-result_value
returns-in_err-check-clause-result_value c =
    let p = err_from_is_err_and c.from_residual.result c.from_residual.ensures.1 in
    rw (p.1, p.2) (ends_failed _ _ _ _ _ c.in_err-check.ensures).0

pub returns-in_err-check-clause-out_after : goal.returns-in_err-check-clause-out_after
returns-in_err-check-clause-out_after c = (ends_failed _ _ _ _ _ c.in_err-check.ensures).1
