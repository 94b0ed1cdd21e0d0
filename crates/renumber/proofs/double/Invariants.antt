-- The loop's invariant: the words before v are there once more.
use Rattle.renumber.specs.private.Spread.{Doubled}
use Rattle.renumber.proofs.double.Given as goal

abbrev pub invariant-loop-v : goal.invariant-loop-v
invariant-loop-v l = Doubled l.fn.part l.n l.more l.part l.v
