use Rattle.deciding.proofs.Copying as copy
use Rattle.decide.proofs.memo.put.Given as goal

abbrev pub invariant-loop-a : goal.invariant-loop-a
invariant-loop-a l = copy.Putting l.ask l.need l.rows l.initial.slot l.a-iterator.rest l.slot
