use Rattle.deciding.proofs.Pairs as pairs
use Rattle.decide.proofs.pairs.add_rows.Given as goal

-- The rows of the members below a are in.
abbrev pub invariant-loop-a : goal.invariant-loop-a
invariant-loop-a l = pairs.Putting l.n l.b l.rows l.fn.table l.table l.a
