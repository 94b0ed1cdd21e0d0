use Rattle.std.proofs.Common.{◌≡◌, set, sym, ap, subst, ◌∙◌, get_or}
use Rattle.theory.specs.NewNumbers.{new_number}
use Rattle.memory.specs.Layout.{terms_of, event_at}
use Rattle.memory.proofs.Accepted.{good}
use Rattle.renumber.specs.private.Spread.{Apart, new_event, Rewritten}
use Rattle.renumber.specs.private.PairRows.{Few}
use Rattle.renumber.proofs.Listed as listed
use Rattle.renumber.proofs.PairRows as rows
use Rattle.renumber.proofs.Placing as placing
use Rattle.renumber.proofs.rewrite.Goals as goal

pub move_blocks-requires : goal.move_blocks-requires
move_blocks-requires c =
    let x = c.args in
    let l = c.requires.numbers_len_bound in
    let f = c.fill_numbers in
    let same : new_number f.new.all ≡ new_number x.numbers.now = listed.same_numbers x.numbers.now f.new.all l.0 f.ensures.0 f.ensures.1 in
    record {
      state_words_in_bounds = (c.requires.state_words_in_bounds.0, c.requires.state_words_in_bounds.1, f.ensures.0);
      bytes = (
        c.fill_bytes.ensures,
        subst Apart (sym same) l.1,
        λ b e. subst Few (sym same) (l.2 (rows.pairs_few (terms_of x.terms.now) (good _ c.requires.terms_value.0) b (sym (c.two_columns-two.ensures b) ∙ e))),
      );
    }

pub returns : goal.returns
returns c =
    let x = c.args in
    let l = c.requires.numbers_len_bound in
    let f = c.fill_numbers in
    let same : new_number f.new.all ≡ new_number x.numbers.now = listed.same_numbers x.numbers.now f.new.all l.0 f.ensures.0 f.ensures.1 in
    subst (λ p. Rewritten (terms_of x.terms.now) p x.state.now x.second.now (set c.move_blocks.new.second event_at c.new_event.result)) same
    (placing.rewritten (new_number f.new.all) (subst Apart (sym same) l.1) c.two_columns-two.result x.state.now x.second.now (terms_of x.terms.now)
    c.two_columns-two.ensures c.move_blocks.new.second c.new_event.result c.requires.state_words_in_bounds.1
    (c.new_event.ensures ∙ ap (λ p. new_event p (get_or x.state.now event_at 0)) (sym same)) c.move_blocks.ensures)
