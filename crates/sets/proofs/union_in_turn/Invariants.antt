use Rattle.std.proofs.Common.{◌≡◌}
use Rattle.sets.specs.Sets.{joined}
use Rattle.sets.proofs.union_in_turn.Given as goal

abbrev pub invariant-loop-w : goal.invariant-loop-w
invariant-loop-w l = l.s ≡ joined l.ws l.w-index
