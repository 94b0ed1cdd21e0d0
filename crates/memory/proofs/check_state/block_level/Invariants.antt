-- off is 0 where the words passed are level.
use Rattle.std.proofs.Common.{◌≡◌, eqb, get_or}
use Rattle.sets.specs.Sets.{all_below}
use Rattle.memory.specs.Checks.{level}
use Rattle.memory.proofs.check_state.block_level.Given as goal

abbrev pub invariant-loop-w : goal.invariant-loop-w
invariant-loop-w l = eqb l.off 0 ≡ all_below l.w-index (λ i. level l.n (get_or l.ws i 0))
