use Rattle.deciding.proofs.Copying as copy
use Rattle.decide.proofs.memo.lacking.Given as goal

abbrev pub invariant-loop-a : goal.invariant-loop-a
invariant-loop-a l = copy.Lacking l.slot l.ask l.want l.a-iterator.rest l.need
