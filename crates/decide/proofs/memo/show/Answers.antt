use Rattle.sets.proofs.MemberLoop.{turn_of}
use Rattle.deciding.proofs.Copying as copy
use Rattle.decide.proofs.memo.show.Goals as goal

pub loop-a-preserved : goal.loop-a-preserved
loop-a-preserved c =
    copy.showing_more _ c.loop-a.invariant (turn_of c.loop-a.invariant.upon c.in-Some.ensures.steps) c.requires.0 c.row_of.ensures

pub returns : goal.returns
returns c = copy.shown c.loop-a.invariant c.in-None.ensures.steps
