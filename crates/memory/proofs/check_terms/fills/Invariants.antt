-- ok says that no effect passed is missing before one that is there.
use Rattle.std.proofs.Common.{◌≡◌}
use Rattle.sets.specs.Sets.{all_below}
use Rattle.memory.proofs.TermsTests.{filled_at}
use Rattle.memory.proofs.check_terms.fills.Given as goal

abbrev pub invariant-loop-i : goal.invariant-loop-i
invariant-loop-i l = l.ok ≡ all_below l.i (filled_at l.terms l.j)
