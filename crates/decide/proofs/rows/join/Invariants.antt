use Rattle.std.proofs.Common.{get_or, bit_or}
use Rattle.deciding.proofs.Counting as counting
use Rattle.decide.proofs.rows.join.Given as goal

abbrev pub invariant-loop-a : goal.invariant-loop-a
invariant-loop-a l = counting.Storing (λ k. bit_or (get_or l.fn.out k 0) (get_or l.f k 0)) l.fn.out l.a l.out
