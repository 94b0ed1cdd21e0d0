use Rattle.std.proofs.Common.{ℕ, ◌≡◌, ◌-◌, ◌+◌, refl, arith, ap, ◌∙◌}
use Rattle.memory.specs.Layout.{terms_of}
use Rattle.effort.specs.Effort.{policies, count_after}
use Rattle.effort.proofs.CutSums.{no_turn, one_turn, all_turns}
use Rattle.effort.proofs.total.Goals as goal

pub add_policies-requires : goal.add_policies-requires
unfolding policies
add_policies-requires c = refl

pub add_policies-requires-2 : goal.add_policies-requires-2
unfolding policies
add_policies-requires-2 c = refl

pub loop-p-init : goal.loop-p-init
loop-p-init c =
    let a = c.args in
    let none : 0 ≡ c.entries-n.result - c.entries-n.result = omega arith in
    no_turn (terms_of a.terms.now) a.sets.now a.limit _ _ c.add_policies.ensures c.add_policies-2.ensures
    ∙ ap (count_after (terms_of a.terms.now) a.sets.now a.limit) none

pub loop-p-preserved : goal.loop-p-preserved
loop-p-preserved c =
    let a = c.args in
    let l = c.loop-p in
    let t = c.turn-r.ensures in
    let n = c.entries-n.result in
    let i : ℕ = n - l.p in
    let here : l.p - 1 ≡ (terms_of a.terms.now).entries - (i + 1) = omega (arith, c.entries-n.ensures.value) in
    let next : i + 1 ≡ n - (l.p - 1) = omega arith in
    one_turn (terms_of a.terms.now) a.sets.now a.limit i _ l.rows _ _ l.calls l.asked _ _ l.invariant here t.value t.calls_after t.asked_after c.plus-rows.ensures
    ∙ ap (count_after (terms_of a.terms.now) a.sets.now a.limit) next

pub returns : goal.returns
returns c =
    let a = c.args in
    let l = c.loop-p in
    all_turns (terms_of a.terms.now) a.sets.now a.limit (c.entries-n.result - l.p) l.rows l.calls l.asked l.invariant (omega arith)
