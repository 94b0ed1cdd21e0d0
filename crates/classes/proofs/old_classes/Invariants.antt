-- The loop's invariant: the classes and keys of the entries below n are filled in, and these keys are marked.
use Rattle.std.proofs.Common.{◌≡◌, length}
use Rattle.memory.specs.Layout.{terms_of}
use Rattle.classes.specs.private.Keys.{Marked}
use Rattle.classes.specs.private.Filled.{own_filled}
use Rattle.classes.proofs.old_classes.Given as goal

abbrev pub invariant-loop-n : goal.invariant-loop-n
invariant-loop-n l = record {
  classes : l.classes ≡ (own_filled (terms_of l.terms) l.n l.fn.classes l.fn.keys).0;
  keys : l.keys ≡ (own_filled (terms_of l.terms) l.n l.fn.classes l.fn.keys).1;
  marked : Marked l.keys l.marks l.n;
  marks : length l.marks ≡ 64;
}
