use Rattle.std.proofs.Common.{cond, get_or}
use Rattle.std.specs.Int.Bits.{bit_and}
use Rattle.sets.specs.Sets.{bit}
use Rattle.deciding.proofs.Copying as copy
use Rattle.decide.proofs.memo.show.Given as goal

abbrev pub invariant-loop-a : goal.invariant-loop-a
invariant-loop-a l = copy.Showing l.set (λ a. cond l.whole (bit_and l.all (get_or l.slot a 0)) (cond (bit (get_or l.slot a 0) l.c) l.all 0)) l.initial.out l.a-iterator.rest l.out
