-- The loop's invariant: the set has the tables of the entries before n.
use Rattle.std.proofs.Common.{◌≡◌, ℕ}
use Rattle.sets.specs.Sets.{bit}
use Rattle.theory.specs.Formula.{number}
use Rattle.memory.specs.Layout.{terms_of}
use Rattle.renumber.specs.private.PairRows.{is_pairs}
use Rattle.renumber.proofs.pairs.two_columns.Given as goal

abbrev pub invariant-loop-n : goal.invariant-loop-n
invariant-loop-n l = (b : ℕ) → bit l.two b ≡ is_pairs (terms_of l.terms) (number (terms_of l.terms).entry l.n) b
