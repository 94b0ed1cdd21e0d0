-- ok says that the marks passed fit.
use Rattle.std.proofs.Common.{◌≡◌, cond, ltb, get_or}
use Rattle.sets.specs.Sets.{all_below}
use Rattle.memory.specs.Layout.{terms_of, mark_at}
use Rattle.memory.proofs.check_terms.marks_fit.Given as goal

abbrev pub invariant-loop-j : goal.invariant-loop-j
invariant-loop-j l = l.ok ≡ all_below l.j (λ j. ltb (get_or l.terms (mark_at j) 0) (cond (ltb j (terms_of l.terms).events) 2 1))
