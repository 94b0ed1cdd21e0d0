-- ok says that the policies passed may be asked.
use Rattle.std.proofs.Common.{◌≡◌}
use Rattle.sets.specs.Sets.{all_below}
use Rattle.theory.specs.Fit.{every, policy_tests}
use Rattle.memory.specs.Layout.{terms_of}
use Rattle.memory.proofs.check_terms.policies_fit.Given as goal

abbrev pub invariant-loop-j : goal.invariant-loop-j
invariant-loop-j l = l.ok ≡ all_below l.j (λ j. every (policy_tests (terms_of l.terms) j))
