use Rattle.std.proofs.Common.{◌-◌, ◌*◌, Bool, cond}
use mathlib.Core.Path.{sym, ap}
use borrow.Author.Tests.{lt-ltb, le-ltb}
use Rattle.deciding.specs.private.Rows.{labelled}
use Rattle.decide.proofs.edges.labelled.Goals as goal

pub returns-then-event-gt-LAST_GRANTED : goal.returns-then-event-gt-LAST_GRANTED
unfolding labelled
returns-then-event-gt-LAST_GRANTED c = let x = c.args in sym (ap (λ (t : Bool). cond t (x.event - (16 - x.e) * 4096) x.event) (lt-ltb _ _ c.if-event-gt-LAST_GRANTED.true))

pub returns-else-event-gt-LAST_GRANTED : goal.returns-else-event-gt-LAST_GRANTED
unfolding labelled
returns-else-event-gt-LAST_GRANTED c = let x = c.args in sym (ap (λ (t : Bool). cond t (x.event - (16 - x.e) * 4096) x.event) (le-ltb _ _ c.if-event-gt-LAST_GRANTED.false))
