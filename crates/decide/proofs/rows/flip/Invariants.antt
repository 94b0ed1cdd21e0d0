use Rattle.std.proofs.Common.{get_or, bit_and}
use lib.Bits.{bit_xor}
use Rattle.deciding.proofs.Counting as counting
use Rattle.decide.proofs.rows.flip.Given as goal

abbrev pub invariant-loop-o : goal.invariant-loop-o
invariant-loop-o l = counting.Storing (λ k. bit_xor l.w (bit_and l.w (get_or l.fn.out k 0))) l.fn.out l.o-index l.out
