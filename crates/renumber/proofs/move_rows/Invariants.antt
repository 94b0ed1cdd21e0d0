-- The loop's invariant: the rows before a have gone to their places.
use Rattle.theory.specs.NewNumbers.{new_number}
use Rattle.renumber.specs.private.Spread.{Placed}
use Rattle.renumber.proofs.move_rows.Given as goal

abbrev pub invariant-loop-a : goal.invariant-loop-a
invariant-loop-a l = Placed (new_number l.all) l.from l.into l.a
