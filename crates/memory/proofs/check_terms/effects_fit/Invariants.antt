-- ok says that the effects of the events passed fit.
use Rattle.std.proofs.Common.{◌≡◌}
use Rattle.sets.specs.Sets.{all_below}
use Rattle.theory.specs.Fit.{every}
use Rattle.memory.specs.Checks.{effects_tests}
use Rattle.memory.proofs.check_terms.effects_fit.Given as goal

abbrev pub invariant-loop-j : goal.invariant-loop-j
invariant-loop-j l = l.ok ≡ all_below l.j (λ j. every (effects_tests l.terms j))
