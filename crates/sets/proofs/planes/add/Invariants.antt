use Rattle.sets.proofs.Tally as tally
use Rattle.sets.proofs.planes.add.Given as goal

-- The planes passed and the carry hold one more than they did.
abbrev pub invariant-loop-p : goal.invariant-loop-p
invariant-loop-p l = tally.Adding l.fn.planes l.row l.planes l.carry l.p-index
