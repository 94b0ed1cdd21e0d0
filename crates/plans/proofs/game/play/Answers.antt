-- `play`: the state is copied to the front, and stands there; what is played after the planner's first move is `always`.
use Rattle.std.proofs.Common.{◌≡◌, ◌∙◌, List, ℕ, arith, length, ◌≤◌, take}
use lib.Seq.{length-take-le}
use borrow.Rule.Slice.PartMut.{put_mid}
use Rattle.memory.specs.Layout.{state_words}
use Rattle.plans.specs.Game.{game_words}
use Rattle.plans.specs.private.Playing.{standing, Placed}
use Rattle.plans.proofs.Plays.{placed_part, game_cleared, played}
use Rattle.plans.proofs.game.play.Goals as goal

copied : (state words part : List ℕ) → state_words ≤ length state → length words ≡ game_words → part ≡ take state_words state →
    Placed 0 (take state_words state) words (put_mid 0 state_words words part)
copied state words part l e p = placed_part 0 words part (take state_words state) (omega (arith, e)) p (length-take-le state_words state l)

pub returns-clause-value : goal.returns-clause-value
returns-clause-value c =
    let x = c.args in
    let q = c.requires.state_words_in_bounds in
    let t = c.attempt-won in
    let w = put_mid 0 state_words x.words.now c.copy_words.new.part in
    played x.terms.now x.state.now x.plan.now x.planner x.rival x.goal x.u x.v (standing 0 w) (standing 0 t.new.words)
    t.result c.always-r.result c.requires.playable.some_move (copied x.state.now x.words.now _ q.0 q.1 c.copy_words.ensures).here t.ensures.value t.ensures.placed.here c.always-r.ensures.value

pub returns-clause-words_after : goal.returns-clause-words_after
returns-clause-words_after c =
    let x = c.args in
    let q = c.requires.state_words_in_bounds in
    let long : length c.always-r.new.words ≡ game_words =
    c.always-r.ensures.spared.long ∙ c.attempt-won.ensures.placed.spared.long ∙ (copied x.state.now x.words.now _ q.0 q.1 c.copy_words.ensures).spared.long ∙ q.1 in
    game_cleared c.always-r.new.words c.clear.new.words long c.clear.ensures
