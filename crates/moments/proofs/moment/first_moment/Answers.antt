use Rattle.std.proofs.Common.{◌≡◌, length, arith, sym, ap}
use mathlib.Core.Path.{◌∙◌}
use Rattle.memory.specs.Layout.{relation_words, terms_of}
use Rattle.memory.specs.Checks.{good_relations}
use Rattle.moments.proofs.Split.{relations_front, opened}
use Rattle.moments.proofs.moment.first_moment.Goals as goal

pub first_moment-requires-clause-relation_words_in_bounds :
    goal.first_moment-requires-clause-relation_words_in_bounds
first_moment-requires-clause-relation_words_in_bounds c =
    let s = c.split_at_mut-relations in
    let T = terms_of c.args.terms.now in
    let r : length s.result.0.now ≡ relation_words = omega arith in
    (omega arith, omega arith, relations_front s.result.0.now s.result.1.now r T ∙ ap (good_relations T) (sym s.ensures.value) ∙ c.requires.state_words_in_bounds.1)

pub returns : goal.returns
returns c =
    let s = c.split_at_mut-relations in
    let r : length s.result.0.now ≡ relation_words = omega arith in
    rw s.ensures.value (opened s.result.0.now s.result.1.now r (terms_of c.args.terms.now) c.first_moment.new.own c.first_moment.ensures)
