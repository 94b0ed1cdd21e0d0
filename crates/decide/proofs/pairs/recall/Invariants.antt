use Rattle.std.proofs.Common.{◌&&◌}
use Rattle.sets.specs.Sets.{bit}
use Rattle.deciding.specs.private.Rows.{pair_cell}
use Rattle.deciding.proofs.Loops as loops
use Rattle.decide.proofs.pairs.recall.Given as goal

abbrev pub invariant-loop-a : goal.invariant-loop-a
invariant-loop-a l = loops.Filling l.want (λ a v. bit l.all v && pair_cell l.past l.t l.b l.c l.free a v) l.fn.out l.a-iterator.rest l.out
