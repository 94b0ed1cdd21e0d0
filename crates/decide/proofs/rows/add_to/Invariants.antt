use Rattle.deciding.proofs.Loops as loops
use Rattle.decide.proofs.rows.add_to.Given as goal

abbrev pub invariant-loop-a : goal.invariant-loop-a
invariant-loop-a l = loops.Joining l.set l.w l.fn.out l.a-iterator.rest l.out
