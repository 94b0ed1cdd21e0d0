use Rattle.std.proofs.Common.{◌≡◌, bit_or}
use Rattle.sets.specs.Sets.{joined}
use Rattle.sets.proofs.Joined.{quarters}
use Rattle.sets.proofs.add_to_lanes.Given as goal

-- The lanes' union has gained the words before k of each quarter.
abbrev pub invariant-loop-k : goal.invariant-loop-k
invariant-loop-k l = joined l.lanes 8 ≡ bit_or (joined l.fn.lanes 8) (quarters l.ws l.k)
