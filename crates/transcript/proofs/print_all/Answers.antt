-- Terms that are too long, refused or accepted.
use Rattle.std.proofs.Common.{arith}
use Rattle.transcript.proofs.Long.{refused_near}
use Rattle.transcript.proofs.Whole.{read_refused, output_long, output_refused, output_passed}
use Rattle.transcript.proofs.print_all.Goals as goal

pub returns-then-terms-gt-LONGEST : goal.returns-then-terms-gt-LONGEST
returns-then-terms-gt-LONGEST c = rw (output_long _ _ c.if-terms-gt-LONGEST.true) (rw (c.number.ensures, c.line.ensures) at c.put_file.ensures)

pub put_file-requires-in-Err : goal.put_file-requires-in-Err
put_file-requires-in-Err c =
    let b = refused_near _ _ _ (read_refused _ _ _ c.in-Err.ensures.result_value) in (omega arith, (omega (arith, b.0), omega (arith, b.1)))

pub returns-in-Ok : goal.returns-in-Ok
returns-in-Ok c =
    let e = c.in-Ok.ensures in
    rw (output_passed _ _ c.if-terms-gt-LONGEST.false e.result_value, ← e.terms_after, ← e.state_after) c.put_requests.ensures

pub returns-in-Err : goal.returns-in-Err
returns-in-Err c =
    rw (output_refused _ _ _ _ c.if-terms-gt-LONGEST.false (read_refused _ _ _ c.in-Err.ensures.result_value), ← c.number-in-Err.ensures, ← c.line-line.ensures)
    c.put_file-in-Err.ensures
