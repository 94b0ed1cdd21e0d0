-- A move of the rival is met where what is played after it wins.
use Rattle.std.proofs.Common.{◌≡◌, arith, subst, true, ◌∙◌}
use mathlib.Core.Path.{sym}
use Rattle.sets.specs.Sets.{all_below}
use Rattle.sets.proofs.Finite.{all_none, not_both}
use Rattle.memory.specs.Layout.{terms_of}
use Rattle.plans.specs.private.Playing.{standing, offered, wins_from}
use Rattle.theory.proofs.Good.{implies}
use Rattle.plans.proofs.Plays.{spared_none, no_moves, offer, offers_more, offer_fails, all_offers, turn_is, turn_spared}
use Rattle.plans.proofs.game.+always.Goals as goal
use Rattle.plans.proofs.game.+always.Goals.{then-is_offered+else-not-always, else-is_offered}

pub returns-then-plan-k-clause-value : goal.returns-then-plan-k-clause-value
returns-then-plan-k-clause-value t c =
    let x = c.args in
    rw c.if-done.false (sym (no_moves x.terms.now x.plan.now x.planner x.rival x.goal x.u x.v x.k c.if-plan-k.true _))

pub loop-i-init : goal.loop-i-init
loop-i-init t c = (spared_none _ _, all_none _)

pub returns-then-not-always-clause-value : goal.returns-then-not-always-clause-value
returns-then-not-always-clause-value t c =
    let x = c.args in
    let q = c.requires in
    let l = c.loop-i in
    let y = c.reply in
    let z = c.attempt-won in
    let a = c.always in
    let o = sym c.is_offered.ensures ∙ c.if-is_offered.true in
    let lost = sym (turn_is q.playable x.at x.k c.if-plan-k.false x.words.now l.words q.k_bound.1 q.k_bound.2 l.invariant.0 l.i y.new.words y.ensures z.result z.ensures.value z.new.words z.ensures.placed a.result a.ensures.value a.new.words a.ensures.spared) ∙ c.if-not-always.true in
    rw c.if-done.false
    (sym (offer_fails (terms_of x.terms.now) q.playable.few_members q.playable.few_events x.terms.now x.rival
    (wins_from x.terms.now x.plan.now x.planner x.rival x.goal x.u x.v x.k) (standing x.at x.words.now) l.i c.loop-i-test.true o lost))

pub returns-then-not-always-clause-spared : goal.returns-then-not-always-clause-spared
returns-then-not-always-clause-spared t c =
    let x = c.args in
    let q = c.requires in
    let l = c.loop-i in
    let y = c.reply in
    let z = c.attempt-won in
    let a = c.always in
    turn_spared q.playable x.at x.k c.if-plan-k.false x.words.now l.words q.k_bound.1 q.k_bound.2 l.invariant.0 l.i y.new.words y.ensures z.result z.ensures.value z.new.words z.ensures.placed a.result a.ensures.value a.new.words a.ensures.spared

pub loop-i-preserved : goal.loop-i-preserved
loop-i-preserved t c =
    let x = c.args in
    let q = c.requires in
    let l = c.loop-i in
    let kl = c.if-plan-k.false in
    let T = terms_of x.terms.now in
    let ask = offer T x.terms.now x.rival (wins_from x.terms.now x.plan.now x.planner x.rival x.goal x.u x.v x.k) (standing x.at x.words.now) in
    let e = c.is_offered.ensures in
    elim c.if-is_offered.branch [
      | then-is_offered+else-not-always w ↦
          let y = w.reply in
          let z = w.attempt-won in
          let a = w.always in (
            rw w.words-is (turn_spared q.playable x.at x.k kl x.words.now l.words q.k_bound.1 q.k_bound.2 l.invariant.0 l.i y.new.words y.ensures z.result z.ensures.value z.new.words z.ensures.placed a.result a.ensures.value a.new.words a.ensures.spared),
            offers_more l.i ask l.invariant.1 (implies (offered T l.i) (λ _. sym (turn_is q.playable x.at x.k kl x.words.now l.words q.k_bound.1 q.k_bound.2 l.invariant.0 l.i y.new.words y.ensures z.result z.ensures.value z.new.words z.ensures.placed a.result a.ensures.value a.new.words a.ensures.spared) ∙ w.if-not-always.false)),
          )
      | else-is_offered w ↦ (
        rw w.words-is l.invariant.0,
        offers_more l.i ask l.invariant.1 (implies (offered T l.i) (λ o. absurd (not_both _ o (sym e ∙ w.if-is_offered.false)))),
      )
    ]

pub returns-clause-value : goal.returns-clause-value
returns-clause-value t c =
    let x = c.args in
    let q = c.requires.playable in
    let l = c.loop-i in
    let end : l.i ≡ 33 = omega arith in
    let p = wins_from x.terms.now x.plan.now x.planner x.rival x.goal x.u x.v x.k in
    let s = standing x.at x.words.now in
    let T = terms_of x.terms.now in
    rw c.if-done.false
    (sym (subst (λ n. all_below n (offer T x.terms.now x.rival p s) ≡ true) end l.invariant.1) ∙ all_offers T q.few_members q.few_events x.terms.now x.rival p s)
