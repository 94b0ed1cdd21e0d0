-- `tally`: one more for a grant.
use borrow.Author.Tests.{eq-eqb, ne_eqb}
use native.Mathlib.Nat.{add-zero}
use mathlib.Core.Path.{sym}
use Rattle.calls.specs.SetList.{gain_of}
use Rattle.monitor.proofs.lists.tally.Goals as goal

pub returns-then-answer-eq1 : goal.returns-then-answer-eq1
returns-then-answer-eq1 c = unfold gain_of in rw (eq-eqb _ _ c.if-answer-eq1.true)

pub returns-else-answer-eq1 : goal.returns-else-answer-eq1
returns-else-answer-eq1 c = unfold gain_of in rw (ne_eqb _ _ c.if-answer-eq1.false) (sym (add-zero _))
