use Rattle.std.proofs.Common.{arith}
use mathlib.Core.Path.{◌∙◌}
use lib.Seq.{length-take-le}
use Rattle.memory.specs.Layout.{block_words}
use Rattle.memory.proofs.Accepted.{good}
use Rattle.deciding.proofs.Stored.{cleared_front}
use Rattle.moments.proofs.Split.{split_movable, split_moved}
use Rattle.moments.proofs.moment.next_moment.Goals as goal

pub move_on-requires-clause-movable : goal.move_on-requires-clause-movable
move_on-requires-clause-movable c =
    let s = c.split_at_mut-relations.ensures in
    let t = c.requires.terms_words_in_bounds in
    let m = c.requires.state_words_in_bounds in
    split_movable c.args.state.now s.front s.back m.0 t.0 t.1 t.2 (good c.args.terms.now t.1) m.1

pub returns-clause-state_after : goal.returns-clause-state_after
returns-clause-state_after c =
    let s = c.split_at_mut-relations.ensures in
    let m = c.requires.state_words_in_bounds in
    split_moved c.args.state.now s.front s.back m.0 c.move_on.new.relations c.move_on.new.own (good c.args.terms.now c.requires.terms_words_in_bounds.1) m.1 c.move_on.ensures

pub returns-clause-scratch_after : goal.returns-clause-scratch_after
returns-clause-scratch_after c =
    let s = c.args.scratch.now in
    let h = c.requires.scratch_words_in_bounds in
    cleared_front s c.move_on.new.rows c.clear.new.words h (c.move_on.auto.rows ∙ length-take-le block_words s (omega arith)) c.clear.ensures
