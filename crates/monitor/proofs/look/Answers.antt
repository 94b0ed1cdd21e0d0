-- `look`: the checks, and then the verdict.
use Rattle.std.proofs.Common.{refl}
use mathlib.Core.Path.{sym, ◌∙◌}
use Rattle.calls.proofs.ListChecks.{list_ready, refused_alike}
use Rattle.monitor.proofs.look.Goals as goal

pub look-requires-clause-terms_words_in_bounds : goal.look-requires-clause-terms_words_in_bounds
look-requires-clause-terms_words_in_bounds c =
    let p = list_ready _ _ _ _ c.in-Ok.ensures.result_value (c.in-Ok.ensures.indexed refl) in (p.long_terms, p.good_terms)

pub look-requires-clause-state_words_in_bounds : goal.look-requires-clause-state_words_in_bounds
look-requires-clause-state_words_in_bounds c =
    let p = list_ready _ _ _ _ c.in-Ok.ensures.result_value (c.in-Ok.ensures.indexed refl) in (p.long_state, p.good-state)

pub returns-in-Ok : goal.returns-in-Ok
returns-in-Ok c = c.look.ensures _ (list_ready _ _ _ _ c.in-Ok.ensures.result_value (c.in-Ok.ensures.indexed refl)).long_scratch

pub returns-in-Err : goal.returns-in-Err
returns-in-Err c = c.into.ensures ∙ sym (refused_alike _ _ _ _ _ (sym c.in-Err.ensures.result_value) _ _ _)
