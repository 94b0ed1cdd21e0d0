-- The loop's invariant: the sets of the entries below i are filled in.
use Rattle.std.proofs.Common.{◌≡◌}
use Rattle.memory.specs.Layout.{terms_of}
use Rattle.effort.specs.Effort.{sets_of}
use Rattle.effort.proofs.fill_sets.Given as goal

abbrev pub invariant-loop-i : goal.invariant-loop-i
invariant-loop-i l = l.sets ≡ sets_of (terms_of l.terms) l.i
