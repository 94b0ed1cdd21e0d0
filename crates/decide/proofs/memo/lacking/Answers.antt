use Rattle.std.proofs.Common.{get_or, arith}
use lib.Bits.{and_le_l}
use Rattle.sets.proofs.MemberLoop.{turn_of, taken_small}
use Rattle.deciding.proofs.Copying as copy
use Rattle.decide.proofs.memo.lacking.Goals as goal

pub loop-a-init : goal.loop-a-init
loop-a-init c =
    rw (c.into_iter-a-iterator.ensures.into_iter_gives, c.of-a-items.ensures)
    (copy.lacking _ _ _ (omega (arith, and_le_l c.args.want (get_or c.args.slot.now 66 0))))

pub loop-a-preserved : goal.loop-a-preserved
loop-a-preserved c =
    let u = c.unless_known-need in
    let t = c.in-Some.ensures.steps in
    copy.lacking_more u.result c.loop-a.invariant (turn_of c.loop-a.invariant.upon t) u.ensures.0 (u.ensures.1 (taken_small t))

pub returns-clause-by_index_2 : goal.returns-clause-by_index_2
returns-clause-by_index_2 c = copy.lacked c.loop-a.invariant c.in-None.ensures.steps
