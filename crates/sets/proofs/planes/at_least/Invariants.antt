use Rattle.sets.proofs.Tally as tally
use Rattle.sets.proofs.planes.at_least.Given as goal

-- s has those whose counter up to the plane is at least k up to the digit.
abbrev pub invariant-loop-p : goal.invariant-loop-p
invariant-loop-p l = tally.Comparing l.planes l.k l.s l.rest l.p-index
