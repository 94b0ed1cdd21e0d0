use mathlib.Core.Path.{◌∙◌}
use Rattle.deciding.proofs.EdgeLaws as edges
use Rattle.decide.proofs.edges.row.Goals as goal

pub returns-then-l-r : goal.returns-then-l-r
returns-then-l-r c b = let x = c.args in edges.edge_relation x.r x.relations.now x.event x.l x.a b c.if-l-r.true

pub returns-else-l-r : goal.returns-else-l-r
returns-else-l-r c b = let x = c.args in c.fired_row.ensures b ∙ edges.edge_event x.r x.relations.now x.event x.l x.a b c.if-l-r.false
