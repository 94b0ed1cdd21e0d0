-- ok says that the blocks passed fit.
use Rattle.std.proofs.Common.{◌≡◌, true}
use Rattle.sets.specs.Sets.{all_below}
use Rattle.memory.proofs.StateTests.{block}
use Rattle.memory.proofs.check_state.blocks_fit.Given as goal

abbrev pub invariant-loop-k : goal.invariant-loop-k
invariant-loop-k l = l.ok ≡ all_below l.k (block l.ws l.n true)
