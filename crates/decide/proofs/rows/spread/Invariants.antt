use Rattle.sets.specs.Sets.{bit}
use Rattle.deciding.proofs.Loops as loops
use Rattle.decide.proofs.rows.spread.Given as goal

abbrev pub invariant-loop-a : goal.invariant-loop-a
invariant-loop-a l = loops.Filling l.want (λ a b. bit l.w b) l.fn.out l.a-iterator.rest l.out
