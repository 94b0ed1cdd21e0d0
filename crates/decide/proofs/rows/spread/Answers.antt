use Rattle.std.proofs.Common.{arith}
use mathlib.Core.Path.{refl}
use Rattle.deciding.proofs.Loops as loops
use Rattle.decide.proofs.rows.spread.Goals as goal

pub loop-a-init : goal.loop-a-init
loop-a-init c = rw (c.into_iter-a-iterator.ensures.into_iter_gives, c.of-a-items.ensures) (loops.filling _ (omega arith) c.requires)

pub loop-a-preserved : goal.loop-a-preserved
loop-a-preserved c = loops.filling_more _ c.loop-a.invariant (loops.turn_of c.loop-a.invariant.upon c.in-Some.ensures.steps) (λ b. refl)

pub returns : goal.returns
returns c = loops.filled c.loop-a.invariant c.in-None.ensures.steps
