use Rattle.std.proofs.Common.{arith}
use Rattle.deciding.proofs.Counting as counting
use Rattle.deciding.proofs.Loops as loops
use Rattle.decide.proofs.rows.diagonal.Goals as goal

pub loop-a-init : goal.loop-a-init
loop-a-init c = rw (c.into_iter-a-iterator.ensures.into_iter_gives, c.of-a-items.ensures) (loops.filling _ (omega arith) c.requires)

pub loop-a-preserved : goal.loop-a-preserved
loop-a-preserved c =
    let steps = c.in-Some.ensures.steps in
    loops.filling_more _ c.loop-a.invariant (loops.turn_of c.loop-a.invariant.upon steps)
    (counting.single-is _ _ c.single.ensures (loops.taken_small steps))

pub returns : goal.returns
returns c = loops.filled c.loop-a.invariant c.in-None.ensures.steps
