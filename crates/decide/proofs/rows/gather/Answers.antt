use Rattle.std.proofs.Common.{◌&&◌, ℕ, ltb, leb, arith}
use mathlib.Core.Path.{ap, ◌∙◌}
use Rattle.deciding.specs.private.Rows.{edge, in_row}
use Rattle.deciding.proofs.Loops as loops
use Rattle.deciding.proofs.EdgeLaws as edges
use Rattle.decide.proofs.rows.gather.Goals as goal

pub loop-a-init : goal.loop-a-init
loop-a-init c = rw (c.into_iter-a-iterator.ensures.into_iter_gives, c.of-a-items.ensures) (loops.filling_empty _ (omega arith) c.clear.ensures)

pub loop-a-preserved : goal.loop-a-preserved
loop-a-preserved c =
    let x = c.args in
    loops.filling_more _ c.loop-a.invariant (loops.turn_of c.loop-a.invariant.upon c.in-Some.ensures.steps)
    (λ b. c.common.ensures b ∙ ap (λ (n : ℕ). ltb b 64 && leb x.k n)
    (edges.gathered_row c.row.result (edge x.r x.relations.now x.event x.l c.in-Some.a) (λ m. in_row x.f.now m b) c.row.ensures))

pub returns : goal.returns
returns c = loops.filled_only c.loop-a.invariant c.in-None.ensures.steps
