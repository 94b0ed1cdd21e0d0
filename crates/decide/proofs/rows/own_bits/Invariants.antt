use Rattle.deciding.specs.private.Rows.{in_row}
use Rattle.deciding.proofs.Counting as counting
use Rattle.decide.proofs.rows.own_bits.Given as goal

abbrev pub invariant-loop-a : goal.invariant-loop-a
invariant-loop-a l = counting.Sweeping (λ b. in_row l.f b b) l.s l.a
