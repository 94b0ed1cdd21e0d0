use Rattle.std.proofs.Common.{get_or, arith}
use Rattle.deciding.specs.private.Rows.{edge}
use Rattle.deciding.proofs.Loops as loops
use Rattle.deciding.proofs.EdgeLaws as edges
use Rattle.decide.proofs.rows.scatter.Goals as goal

pub loop-c-init : goal.loop-c-init
loop-c-init c = rw (c.into_iter-c-iterator.ensures.into_iter_gives, c.of-c-items.ensures) (loops.scattering _ (omega arith) c.clear.ensures)

pub loop-c-preserved : goal.loop-c-preserved
loop-c-preserved c =
    let x = c.args in
    loops.scattering_more _ c.loop-c.invariant (loops.turn_of c.loop-c.invariant.upon c.in-Some.ensures.steps) c.add_to.auto.out c.add_to.ensures
    (edges.scattered_row x.want c.row.result (get_or x.f.now c.in-Some.c 0) (edge x.r x.relations.now x.event x.l c.in-Some.c) c.row.ensures)

pub returns : goal.returns
returns c =
    let x = c.args in
    edges.scattered_rows x.from x.want (edge x.r x.relations.now x.event x.l) x.f.now _ c.loop-c.invariant.long
    (loops.scattering_all c.loop-c.invariant c.in-None.ensures.steps)
