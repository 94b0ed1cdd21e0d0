use Rattle.std.proofs.Common.{◌&&◌}
use Rattle.sets.specs.Sets.{bit}
use Rattle.deciding.specs.private.Rows.{table_bit}
use Rattle.deciding.proofs.Loops as loops
use Rattle.decide.proofs.rows.recall.Given as goal

abbrev pub invariant-loop-a : goal.invariant-loop-a
invariant-loop-a l = loops.Filling l.want (λ a b. bit l.all b && table_bit l.past l.t a b) l.fn.out l.a-iterator.rest l.out
