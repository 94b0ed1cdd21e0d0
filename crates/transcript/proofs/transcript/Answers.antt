-- An output that is too short is left as lent.
use Rattle.std.proofs.Common.{sym}
use Rattle.transcript.proofs.Whole.{too_short, whole}
use Rattle.transcript.proofs.transcript.Goals as goal

pub returns-then-is_short-clause-result_value : goal.returns-then-is_short-clause-result_value
returns-then-is_short-clause-result_value c = (too_short _ _ _ (sym c.if-is_short.ensures)).0

pub returns-then-is_short-clause-out_after : goal.returns-then-is_short-clause-out_after
returns-then-is_short-clause-out_after c = (too_short _ _ _ (sym c.if-is_short.ensures)).1

pub returns-clause-result_value : goal.returns-clause-result_value
returns-clause-result_value c = (whole _ _ _ _ _ (sym c.if-is_short.ensures) c.print_all.ensures).0

pub returns-clause-out_after : goal.returns-clause-out_after
returns-clause-out_after c = (whole _ _ _ _ _ (sym c.if-is_short.ensures) c.print_all.ensures).1
