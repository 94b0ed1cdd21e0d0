use Rattle.std.proofs.Common.{◌+◌, ◌*◌, get_or, bit_and, bit_or}
use Rattle.deciding.proofs.Counting as counting
use Rattle.decide.proofs.rows.join_kept.Given as goal

abbrev pub invariant-loop-a : goal.invariant-loop-a
invariant-loop-a l = counting.Storing (λ k. bit_or (get_or l.fn.out k 0) (bit_and (get_or l.f k 0) (get_or l.past (64 * l.t + k) 0))) l.fn.out l.a l.out
