use Rattle.std.proofs.Common.{◌&&◌}
use Rattle.sets.specs.Sets.{any_below, bit}
use Rattle.deciding.specs.private.Rows.{in_row}
use Rattle.deciding.proofs.Counting as counting
use Rattle.decide.proofs.edges.meeting.Given as goal

abbrev pub invariant-loop-a : goal.invariant-loop-a
invariant-loop-a l = counting.Sweeping (λ j. any_below 64 (λ b. in_row l.rows j b && bit l.set b)) l.s l.a
