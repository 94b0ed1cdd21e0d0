use Rattle.std.proofs.Common.{take}
use mathlib.Core.Path.{◌≡◌}
use Rattle.monitor.proofs.revise.copy.Given as goal

abbrev pub invariant-loop-i : goal.invariant-loop-i
invariant-loop-i l = take l.i l.to ≡ take l.i l.from
