use Rattle.std.proofs.Common.{◌&&◌}
use Rattle.sets.specs.Sets.{bit}
use Rattle.deciding.specs.private.Rows.{edge, in_row}
use Rattle.deciding.proofs.Loops as loops
use Rattle.decide.proofs.rows.scatter.Given as goal

abbrev pub invariant-loop-c : goal.invariant-loop-c
invariant-loop-c l = loops.Scattering l.from (λ c a b. (bit l.want a && edge l.r l.relations l.event l.l c a) && in_row l.f c b) l.c-iterator.rest l.out
