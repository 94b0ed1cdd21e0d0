-- The effects of the first i places have been put.
use Rattle.std.proofs.Common.{◌+◌, ◌-◌, ◌*◌, ◌≤◌}
use Rattle.memory.specs.Layout.{effect_at}
use Rattle.writer.proofs.PutLines.{LinesPut, slots}
use Rattle.writer.proofs.write.put_effects_of.Given as goal

abbrev pub invariant-loop-i : goal.invariant-loop-i
invariant-loop-i l =
    (l.next ≤ l.at + 32 * l.i)
    × LinesPut l.fn.out l.out l.at l.next (slots l.terms l.j (effect_at l.j 0) 4) (slots l.terms l.j (effect_at l.j l.i) (4 - l.i))
