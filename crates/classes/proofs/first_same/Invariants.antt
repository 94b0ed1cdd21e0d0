-- No key below k is this one.
use Rattle.std.proofs.Common.{◌≡◌, eqb, get_or}
use Rattle.theory.specs.Formula.{lowest}
use Rattle.classes.proofs.first_same.Given as goal

abbrev pub invariant-loop-k : goal.invariant-loop-k
invariant-loop-k l = lowest l.k (λ j. eqb (get_or l.keys j 0) l.key) ≡ l.k
