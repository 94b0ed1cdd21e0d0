-- s is the union of the words passed.
use Rattle.std.proofs.Common.{◌≡◌}
use Rattle.sets.specs.Sets.{joined}
use Rattle.memory.proofs.check_terms.all_blank.Given as goal

abbrev pub invariant-loop-w : goal.invariant-loop-w
invariant-loop-w l = l.s ≡ joined l.words l.w-index
