-- The loop's invariant: the classes of the entries below n are filled in.
use Rattle.std.proofs.Common.{◌≡◌}
use Rattle.memory.specs.Layout.{terms_of}
use Rattle.classes.specs.private.Filled.{filled}
use Rattle.classes.proofs.new_classes.Given as goal

abbrev pub invariant-loop-n : goal.invariant-loop-n
invariant-loop-n l = l.classes ≡ filled (terms_of l.terms) l.keys l.limit l.n l.fn.classes
