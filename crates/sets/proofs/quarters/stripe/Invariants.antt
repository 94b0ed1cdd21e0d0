use Rattle.std.proofs.Common.{◌≡◌, ◌&&◌, ℕ, ltb}
use Rattle.sets.specs.Sets.{bit}
use Rattle.sets.proofs.Shifts.{there}
use Rattle.sets.proofs.quarters.stripe.Given as goal

-- s has those below b.
abbrev pub invariant-loop-b : goal.invariant-loop-b
invariant-loop-b l = (j : ℕ) → bit l.s j ≡ (ltb j l.b && there l.ws l.from l.c j)
