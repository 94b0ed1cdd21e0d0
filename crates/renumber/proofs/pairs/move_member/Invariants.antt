-- The loop's invariant: the rows of the words before j have gone to their places.
use Rattle.std.proofs.Common.{◌+◌, ◌*◌, get_or}
use Rattle.theory.specs.NewNumbers.{new_number}
use Rattle.renumber.specs.private.PairRows.{Gone}
use Rattle.renumber.proofs.pairs.move_member.Given as goal

abbrev pub invariant-loop-j : goal.invariant-loop-j
invariant-loop-j l = Gone (new_number l.all) (λ a. get_or l.from a 0) l.into (16 * l.a + 4 * l.j)
