use Rattle.std.proofs.Common.{◌≡◌, [], get_or, arith, sym}
use mathlib.Core.Path.{◌∙◌}
use Rattle.memory.specs.Layout.{terms_of, effect_at}
use Rattle.memory.proofs.Accepted.{good}
use Rattle.deciding.proofs.MomentSteps.{effecting, effect_relation, effect_more, four_made, fewer_made}
use Rattle.deciding.proofs.SameDecision.{all_named}
use Rattle.moments.proofs.effects.make_effects.Goals as goal

pub loop-i-init : goal.loop-i-init
loop-i-init c own =
    let x = c.args in
    let g = good x.terms.now c.requires.0 in
    effecting g (all_named (terms_of x.terms.now) g x.event x.from x.to c.requires.1).event

pub effect_at-at-requires : goal.effect_at-at-requires
effect_at-at-requires c =
    let x = c.args in
    ((all_named (terms_of x.terms.now) (good x.terms.now c.requires.0) x.event x.from x.to c.requires.1).small.0, c.loop-i-test.true)

pub returns-then-word-eq0 : goal.returns-then-word-eq0
returns-then-word-eq0 c own =
    fewer_made c.loop-i.i (c.loop-i.invariant own) c.loop-i-test.true
    (rw c.effect_at-at.ensures at (sym c.word.ensures.value ∙ c.if-word-eq0.true))

pub make_effect-requires-clause-terms_value : goal.make_effect-requires-clause-terms_value
make_effect-requires-clause-terms_value c =
    let x = c.args in
    let call = all_named (terms_of x.terms.now) (good x.terms.now c.requires.0) x.event x.from x.to c.requires.1 in
    let some : get_or x.terms.now (effect_at x.event c.loop-i.i) 0 ≡ 0 → ⊥ = λ e. c.if-word-eq0.false (c.word.ensures.value ∙ rw c.effect_at-at.ensures e) in
    rw c.effect_at-at.ensures
    (c.requires.0, omega (arith, call.small), effect_relation c.loop-i.i c.loop-i-test.true some (c.loop-i.invariant []))

pub loop-i-preserved : goal.loop-i-preserved
loop-i-preserved c own =
    let x = c.args in
    let some : get_or x.terms.now (effect_at x.event c.loop-i.i) 0 ≡ 0 → ⊥ = λ e. c.if-word-eq0.false (c.word.ensures.value ∙ rw c.effect_at-at.ensures e) in
    effect_more c.loop-i.i c.loop-i-test.true some (c.loop-i.invariant own) (rw c.effect_at-at.ensures at (c.make_effect.ensures own))

pub returns : goal.returns
returns c own = four_made c.loop-i.i (c.loop-i.invariant own) c.loop-i-test.false
