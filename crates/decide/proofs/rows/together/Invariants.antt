use Rattle.deciding.specs.private.Rows.{in_row}
use Rattle.deciding.proofs.Loops as loops
use Rattle.decide.proofs.rows.together.Given as goal

abbrev pub invariant-loop-a : goal.invariant-loop-a
invariant-loop-a l = loops.Adding l.set (in_row l.f) l.a-iterator.rest l.s
