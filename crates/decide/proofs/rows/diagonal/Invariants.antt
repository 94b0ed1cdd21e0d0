use Rattle.std.proofs.Common.{eqb}
use Rattle.deciding.proofs.Loops as loops
use Rattle.decide.proofs.rows.diagonal.Given as goal

abbrev pub invariant-loop-a : goal.invariant-loop-a
invariant-loop-a l = loops.Filling l.want (λ a b. eqb b a) l.fn.out l.a-iterator.rest l.out
