-- ok says that the effects passed fit.
use Rattle.std.proofs.Common.{◌≡◌}
use Rattle.sets.specs.Sets.{all_below}
use Rattle.memory.proofs.TermsTests.{effect-at}
use Rattle.memory.proofs.check_terms.effects_of.Given as goal

abbrev pub invariant-loop-i : goal.invariant-loop-i
invariant-loop-i l = l.ok ≡ all_below l.i (effect-at l.terms l.j)
