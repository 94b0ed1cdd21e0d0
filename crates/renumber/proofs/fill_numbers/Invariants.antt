-- The loop's invariant: the numbers before m are there.
use Rattle.std.proofs.Common.{◌≡◌, ℕ, ◌<◌, get_or}
use Rattle.theory.specs.NewNumbers.{new_number}
use Rattle.renumber.proofs.fill_numbers.Given as goal

abbrev pub invariant-loop-m : goal.invariant-loop-m
invariant-loop-m l = (j : ℕ) → j < l.m → get_or l.all j 0 ≡ new_number l.numbers j
