use Rattle.deciding.proofs.EdgeLaws as edges
use Rattle.decide.proofs.edges.fired_row.Goals as goal
use Rattle.decide.proofs.edges.fired_row.Goals.{else-e-j-via-then-e-j+else-e-a, else-e-j-via-else-e-j}

pub returns-then-event-eq0 : goal.returns-then-event-eq0
returns-then-event-eq0 c = edges.fired_no_event _ _ _ c.if-event-eq0.true

pub returns-then-e-a : goal.returns-then-e-a
returns-then-e-a c = edges.fired_here _ _ _ _ c.if-event-eq0.false c.if-e-j.true c.if-e-a.true c.single.ensures

pub returns-else-e-j : goal.returns-else-e-j
returns-else-e-j c =
    elim c.else-e-j.branch [
      | else-e-j-via-then-e-j+else-e-a w ↦ edges.fired_other_member _ _ _ c.if-event-eq0.false w.if-e-j.true w.if-e-a.false
      | else-e-j-via-else-e-j w ↦ edges.fired_other_event _ _ _ c.if-event-eq0.false w.if-e-j.false
    ]
