-- The loop's invariant: the rows before the quarter q of word j of a have gone to their places.
use Rattle.std.proofs.Common.{◌+◌, ◌*◌, get_or}
use Rattle.theory.specs.NewNumbers.{new_number}
use Rattle.renumber.specs.private.PairRows.{Gone}
use Rattle.renumber.proofs.pairs.move_word.Given as goal

abbrev pub invariant-loop-q : goal.invariant-loop-q
invariant-loop-q l = Gone (new_number l.all) (λ a. get_or l.from a 0) l.into (16 * l.a + 4 * l.j + l.q)
