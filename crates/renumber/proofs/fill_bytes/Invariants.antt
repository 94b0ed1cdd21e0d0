-- The loop's invariant: the words of the first i eights are there.
use Rattle.theory.specs.NewNumbers.{new_number}
use Rattle.renumber.proofs.ByBytes.{FilledTo}
use Rattle.renumber.proofs.fill_bytes.Given as goal

abbrev pub invariant-loop-i : goal.invariant-loop-i
invariant-loop-i l = FilledTo (new_number l.all) l.bytes l.i
