use Rattle.deciding.proofs.EdgeLaws as edges
use Rattle.decide.proofs.edges.senders.Goals as goal

pub returns-then-event-eq0 : goal.returns-then-event-eq0
returns-then-event-eq0 c = edges.senders_none _ _ _ _ c.if-l-r.false c.if-event-eq0.true

pub returns-else-event-eq0 : goal.returns-else-event-eq0
returns-else-event-eq0 c = edges.senders_event _ _ _ _ _ c.if-l-r.false c.single.ensures
