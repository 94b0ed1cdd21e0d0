use Rattle.sets.proofs.Tally as tally
use Rattle.sets.proofs.planes.shared.Given as goal

abbrev pub invariant-loop-c : goal.invariant-loop-c
invariant-loop-c l = tally.Counting l.ws l.listed l.c-iterator.rest l.planes
