-- The loop's invariant: the effects before number i are made, whatever own words stand behind.
use Rattle.std.proofs.Common.{List, ◌++◌, ℕ}
use Rattle.deciding.proofs.MomentSteps.{Effecting}
use Rattle.moments.proofs.effects.make_effects.Given as goal

abbrev pub invariant-loop-i : goal.invariant-loop-i
invariant-loop-i l = (own : List ℕ) → Effecting l.terms l.event l.from l.to l.i (l.fn.relations ++ own) (l.relations ++ own)
