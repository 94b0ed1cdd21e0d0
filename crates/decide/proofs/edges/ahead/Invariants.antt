use Rattle.deciding.specs.private.Rows.{edge}
use Rattle.deciding.proofs.Loops as loops
use Rattle.decide.proofs.edges.ahead.Given as goal

abbrev pub invariant-loop-a : goal.invariant-loop-a
invariant-loop-a l = loops.Adding l.set (edge l.r l.relations l.event l.l) l.a-iterator.rest l.s
