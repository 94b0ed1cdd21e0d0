-- The loop's invariant: the numbers before x are seen.
use Rattle.renumber.proofs.Listed.{Seen}
use Rattle.renumber.proofs.are_new_numbers.Given as goal

abbrev pub invariant-loop-x : goal.invariant-loop-x
invariant-loop-x l = Seen l.numbers l.x-index l.seen
