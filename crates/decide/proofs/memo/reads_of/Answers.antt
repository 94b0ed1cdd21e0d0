use Rattle.std.proofs.Common.{ℕ, ◌&&◌, ◌||◌, eqb, ltb}
use mathlib.Core.Path.{sym, ap, ◌∙◌}
use Rattle.sets.specs.Sets.{bit}
use Rattle.memory.proofs.FreeSets.{free_entry}
use Rattle.deciding.proofs.ReadSets as sets
use Rattle.decide.proofs.memo.reads_of.Goals as goal

pub returns-then-is_past : goal.returns-then-is_past
returns-then-is_past c =
    let x = c.args in
    sets.covered_past x.op x.a x.p x.f x.g x.k c.single.result _
    (sym c.is_past.ensures ∙ c.if-is_past.true)
    (λ y. c.single.ensures y ∙ ap (λ (z : ℕ). ltb y 64 && eqb y z) c.first_of.ensures)
    (λ y. c.with.ensures y ∙ ap (λ (z : ℕ). bit c.single.result y || (ltb y 64 && eqb y z)) c.last_of.ensures)

pub returns-else-is_past : goal.returns-else-is_past
returns-else-is_past c =
    let x = c.args in
    sets.covered_free x.op x.a x.p x.f x.g x.k _ (sym c.is_past.ensures ∙ c.if-is_past.false) (free_entry _ _ _ _ _ _ c.free_of.ensures)
