use Rattle.std.proofs.Common.{take}
use mathlib.Core.Path.{◌≡◌}
use Rattle.plans.proofs.game.copy_words.Given as goal

abbrev pub invariant-loop-i : goal.invariant-loop-i
invariant-loop-i l = take l.i l.part ≡ take l.i l.from
