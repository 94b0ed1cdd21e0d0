-- `open`: the checks, and then moment 0.
use Rattle.std.proofs.Common.{refl}
use mathlib.Core.Path.{sym, ◌∙◌}
use Rattle.calls.proofs.Answers as answers
use Rattle.calls.proofs.Refused.{opened_says}
use Rattle.monitor.proofs.open.Goals as goal

pub returns-in_err-inspect_opening-clause-state_after :
    goal.returns-in_err-inspect_opening-clause-state_after
returns-in_err-inspect_opening-clause-state_after c = answers.open_kept _ _ _ _ c.in_err-inspect_opening.ensures.result_value

pub first_moment-requires-clause-terms_words_in_bounds :
    goal.first_moment-requires-clause-terms_words_in_bounds
first_moment-requires-clause-terms_words_in_bounds c =
    let o = opened_says _ _ (sym c.in_ok-inspect_opening.ensures.result_value) in
    (o.terms_long, o.terms_good, c.in_ok-inspect_opening.ensures.indexed refl)

pub first_moment-requires-clause-state_words_in_bounds :
    goal.first_moment-requires-clause-state_words_in_bounds
first_moment-requires-clause-state_words_in_bounds c =
    let o = opened_says _ _ (sym c.in_ok-inspect_opening.ensures.result_value) in (o.state_long, o.relations_good)

pub returns-clause-state_after : goal.returns-clause-state_after
returns-clause-state_after c = c.first_moment.ensures ∙ answers.open_done _ _ c.in_ok-inspect_opening.ensures.result_value
