use Rattle.std.proofs.Common.{replicate}
use Rattle.deciding.specs.private.Rows.{edge, gathered}
use Rattle.deciding.proofs.Loops as loops
use Rattle.decide.proofs.rows.gather.Given as goal

abbrev pub invariant-loop-a : goal.invariant-loop-a
invariant-loop-a l = loops.Filling l.want (gathered (edge l.r l.relations l.event l.l) l.f l.k) (replicate 64 0) l.a-iterator.rest l.out
