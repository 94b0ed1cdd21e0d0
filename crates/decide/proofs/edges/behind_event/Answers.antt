use Rattle.std.proofs.Common.{ℕ}
use mathlib.Core.Path.{refl, ap, ◌∙◌}
use Rattle.sets.specs.Sets.{bit}
use Rattle.deciding.proofs.EdgeLaws as edges
use Rattle.decide.proofs.edges.behind_event.Goals as goal

pub returns-then-event-eq0 : goal.returns-then-event-eq0
returns-then-event-eq0 c = edges.behind_none _ _ _ _ c.if-event-eq0.true

pub returns : goal.returns
returns c k =
    let x = c.args in
    ap (λ (w : ℕ). bit w k) c.only.ensures
    ∙ edges.behind_fired x.event x.j _ x.from x.set c.fired_row.result c.meet.result c.single.result refl c.fired_row.ensures c.meet.ensures c.single.ensures k
