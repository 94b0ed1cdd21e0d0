-- `forced`: the checks of memory and goal, of the game and its numbers, and then the game itself.
use Rattle.std.proofs.Common.{◌≡◌, Bool, true, false, cond, Ok, refl}
use mathlib.Core.Path.{sym, ◌∙◌}
use lib.Seq.{length-take-le}
use Rattle.std.proofs.lemmas.Result.{err_from_is_err_and}
use Rattle.memory.proofs.Outcomes.{passed_entry}
use Rattle.plans.specs.Game.{game_words}
use Rattle.plans.specs.Game.Ruling.{accept, reject}
use Rattle.plans.specs.Plans.{ruling_of}
use Rattle.plans.proofs.Rulings.{refusal_leaves, verdict_leaves, short_game, unchecked_game, no_game, unknown_game, judged_game, playable}
use Rattle.plans.proofs.forced.Goals as goal

pub returns-then-scratch-lt-GAME-clause-result_value :
    goal.returns-then-scratch-lt-GAME-clause-result_value
returns-then-scratch-lt-GAME-clause-result_value c = short_game _ _ _ _ _ _ _ _ _ c.if-scratch-lt-GAME.true

pub returns-then-scratch-lt-GAME-clause-scratch_after :
    goal.returns-then-scratch-lt-GAME-clause-scratch_after
returns-then-scratch-lt-GAME-clause-scratch_after c = (refusal_leaves _ _ _ _ _ _ _ _ _ 6 0 (short_game _ _ _ _ _ _ _ _ _ c.if-scratch-lt-GAME.true)).1

pub returns-in_err-inspect_entry-clause-result_value :
    goal.returns-in_err-inspect_entry-clause-result_value
returns-in_err-inspect_entry-clause-result_value c =
    let p = err_from_is_err_and c.from_residual.result c.from_residual.ensures.1 in
    rw (p.1, p.2) (unchecked_game _ _ _ _ _ _ _ _ _ c.if-scratch-lt-GAME.false _ _ c.in_err-inspect_entry.ensures.result_value)

pub returns-in_err-inspect_entry-clause-scratch_after :
    goal.returns-in_err-inspect_entry-clause-scratch_after
returns-in_err-inspect_entry-clause-scratch_after c =
    (refusal_leaves _ _ _ _ _ _ _ _ _ _ _ (unchecked_game _ _ _ _ _ _ _ _ _ c.if-scratch-lt-GAME.false _ _ c.in_err-inspect_entry.ensures.result_value)).1

pub returns-then-not-is_game-clause-result_value : goal.returns-then-not-is_game-clause-result_value
returns-then-not-is_game-clause-result_value c =
    let p = passed_entry _ _ _ c.in_ok-inspect_entry.ensures.result_value in
    no_game _ _ _ _ _ _ _ _ _ c.if-scratch-lt-GAME.false p.0 p.1 (sym c.if-not-is_game.ensures)

pub returns-then-not-is_game-clause-scratch_after :
    goal.returns-then-not-is_game-clause-scratch_after
returns-then-not-is_game-clause-scratch_after c =
    let p = passed_entry _ _ _ c.in_ok-inspect_entry.ensures.result_value in
    (refusal_leaves _ _ _ _ _ _ _ _ _ 14 0 (no_game _ _ _ _ _ _ _ _ _ c.if-scratch-lt-GAME.false p.0 p.1 (sym c.if-not-is_game.ensures))).1

pub returns-then-not-is_known-clause-result_value :
    goal.returns-then-not-is_known-clause-result_value
returns-then-not-is_known-clause-result_value c =
    let p = passed_entry _ _ _ c.in_ok-inspect_entry.ensures.result_value in
    unknown_game _ _ _ _ _ _ _ _ _ c.if-scratch-lt-GAME.false p.0 p.1 (sym c.if-not-is_game.ensures) (sym c.if-not-is_known.ensures)

pub returns-then-not-is_known-clause-scratch_after :
    goal.returns-then-not-is_known-clause-scratch_after
returns-then-not-is_known-clause-scratch_after c =
    let p = passed_entry _ _ _ c.in_ok-inspect_entry.ensures.result_value in
    (refusal_leaves _ _ _ _ _ _ _ _ _ 9 0 (unknown_game _ _ _ _ _ _ _ _ _ c.if-scratch-lt-GAME.false p.0 p.1 (sym c.if-not-is_game.ensures) (sym c.if-not-is_known.ensures))).1

pub play-requires-clause-playable : goal.play-requires-clause-playable
play-requires-clause-playable c =
    let x = c.args in
    playable x.terms.now x.plan.now x.planner x.rival x.goal x.u x.v (sym c.if-not-is_game.ensures)

pub play-requires-clause-state_words_in_bounds : goal.play-requires-clause-state_words_in_bounds
play-requires-clause-state_words_in_bounds c = ((passed_entry _ _ _ c.in_ok-inspect_entry.ensures.result_value).0.long_state, length-take-le game_words c.args.scratch.now c.if-scratch-lt-GAME.false)

ruled : (b : Bool) → ruling_of (Ok b) ≡ cond b accept reject
ruled true = refl
ruled false = refl

pub returns-clause-result_value : goal.returns-clause-result_value
returns-clause-result_value c =
    let p = passed_entry _ _ _ c.in_ok-inspect_entry.ensures.result_value in
    ruled c.play.result ∙ judged_game _ _ _ _ _ _ _ _ _ c.if-scratch-lt-GAME.false p.0 p.1 (sym c.if-not-is_game.ensures) (sym c.if-not-is_known.ensures) _ c.play.ensures.value

pub returns-clause-scratch_after : goal.returns-clause-scratch_after
returns-clause-scratch_after c =
    let p = passed_entry _ _ _ c.in_ok-inspect_entry.ensures.result_value in
    (verdict_leaves _ _ _ _ _ _ _ _ _ c.play.result
    (judged_game _ _ _ _ _ _ _ _ _ c.if-scratch-lt-GAME.false p.0 p.1 (sym c.if-not-is_game.ensures) (sym c.if-not-is_known.ensures) _ c.play.ensures.value)
    c.play.new.words c.play.ensures.words_after).1
