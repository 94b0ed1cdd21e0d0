use Rattle.std.proofs.Common.{◌+◌, ◌-◌, ◌*◌, arith}
use mathlib.Core.Path.{◌∙◌}
use Rattle.deciding.proofs.EdgeLaws as edges
use Rattle.decide.proofs.edges.behind.Goals as goal

pub returns-then-l-r : goal.returns-then-l-r
returns-then-l-r c =
    let x = c.args in
    edges.behind_part x.relations.now x.r x.event x.l (64 * x.l + 64 - 64 * x.l) x.from x.set c.meeting.result
    (omega (arith, c.ranges.from)) c.if-l-r.true (omega (arith, c.requires, c.if-l-r.true)) (omega arith) c.meeting.ensures

pub returns-else-l-r : goal.returns-else-l-r
returns-else-l-r c a = let x = c.args in c.behind_event.ensures a ∙ edges.behind_edge x.r x.relations.now x.event x.l x.from x.set c.if-l-r.false a
