-- `size`: terms and state are checked first.
use Rattle.std.proofs.lemmas.Result.{err_from_is_err_and}
use Rattle.writer.proofs.OldForm.{size_failed}
use Rattle.writer.proofs.write.size.Goals as goal

pub returns-in_err-check : goal.returns-in_err-check
returns-in_err-check c =
    let p = err_from_is_err_and c.from_residual.result c.from_residual.ensures.1 in
    rw (p.1, p.2) (size_failed _ _ _ _ c.in_err-check.ensures)
