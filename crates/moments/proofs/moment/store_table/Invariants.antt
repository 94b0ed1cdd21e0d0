use Rattle.std.proofs.Common.{take}
use mathlib.Core.Path.{◌≡◌}
use Rattle.moments.proofs.moment.store_table.Given as goal

abbrev pub invariant-loop-a : goal.invariant-loop-a
invariant-loop-a l = take l.a l.part ≡ take l.a l.rows
