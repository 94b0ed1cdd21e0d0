use Rattle.std.proofs.Common.{arith}
use Rattle.deciding.proofs.Loops as loops
use Rattle.decide.proofs.rows.add_to.Goals as goal

pub loop-a-init : goal.loop-a-init
loop-a-init c = rw (c.into_iter-a-iterator.ensures.into_iter_gives, c.of-a-items.ensures) (loops.joining _ _ _ (omega arith))

pub loop-a-preserved : goal.loop-a-preserved
loop-a-preserved c = loops.joining_more c.loop-a.invariant (loops.turn_of c.loop-a.invariant.upon c.in-Some.ensures.steps) c.requires

pub returns : goal.returns
returns c = loops.joining_all c.loop-a.invariant c.in-None.ensures.steps
