-- The loop's invariant: the rows of the members before a have gone to their places.
use Rattle.std.proofs.Common.{◌*◌, get_or}
use Rattle.theory.specs.NewNumbers.{new_number}
use Rattle.renumber.specs.private.PairRows.{Gone}
use Rattle.renumber.proofs.pairs.move_table.Given as goal

abbrev pub invariant-loop-a : goal.invariant-loop-a
invariant-loop-a l = Gone (new_number l.all) (λ a. get_or l.from a 0) l.into (16 * l.a)
