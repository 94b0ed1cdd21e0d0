use Rattle.std.proofs.Common.{get_or}
use Rattle.deciding.specs.private.Rows.{in_row, ahead}
use Rattle.deciding.proofs.Loops as loops
use Rattle.decide.proofs.rows.follow.Given as goal

abbrev pub invariant-loop-a : goal.invariant-loop-a
invariant-loop-a l = loops.Filling l.want (λ a b. ahead (in_row l.f) (get_or l.fn.out a 0) b) l.fn.out l.a-iterator.rest l.out
