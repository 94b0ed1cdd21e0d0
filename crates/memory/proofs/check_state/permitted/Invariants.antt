-- s has the bits of the quarters below q.
use Rattle.memory.proofs.Pairs.{Permitting}
use Rattle.memory.proofs.check_state.permitted.Given as goal

abbrev pub invariant-loop-q : goal.invariant-loop-q
invariant-loop-q l = Permitting l.n l.i l.s l.q
