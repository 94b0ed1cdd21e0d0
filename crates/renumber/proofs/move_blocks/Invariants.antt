-- The loop's invariant: the blocks before b have been moved.
use Rattle.theory.specs.NewNumbers.{new_number}
use Rattle.renumber.specs.private.Spread.{Moved}
use Rattle.renumber.proofs.move_blocks.Given as goal

abbrev pub invariant-loop-b : goal.invariant-loop-b
invariant-loop-b l = Moved l.two (new_number l.all) l.state l.fn.second l.second l.b
