use borrow.Author.Tests.{eqb-false, not-true}
use Rattle.deciding.proofs.EdgeLaws as edges
use Rattle.decide.proofs.edges.is_absent.Goals as goal

pub returns-then-event-eq0 : goal.returns-then-event-eq0
returns-then-event-eq0 c e = edges.absent _ _ _ c.if-r-l.true (λ a. edges.fired_no_event _ _ a c.if-event-eq0.true)

pub returns-else-event-eq0 : goal.returns-else-event-eq0
returns-else-event-eq0 c e =
    edges.absent _ _ _ c.if-r-l.true (λ a. edges.fired_other_event _ _ a c.if-event-eq0.false (eqb-false _ _ (not-true _ e)))
