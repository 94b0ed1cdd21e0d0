-- `request`: the checks, and then the answer and its moment.
use Rattle.std.proofs.Common.{refl}
use mathlib.Core.Path.{sym, ap, ◌∙◌}
use Rattle.memory.specs.Layout.{terms_of}
use Rattle.calls.specs.Monitor.{moves}
use Rattle.calls.proofs.Answers.{state_kept, scratch_kept}
use Rattle.calls.proofs.ListChecks.{list_ready, refused_alike}
use Rattle.monitor.proofs.request.Goals as goal

pub request-requires : goal.request-requires
request-requires c = list_ready _ _ _ _ c.in-Ok.ensures.result_value (c.in-Ok.ensures.indexed refl)

pub returns-in-Err-clause-result_value : goal.returns-in-Err-clause-result_value
returns-in-Err-clause-result_value c = c.into.ensures ∙ sym (refused_alike _ _ _ _ _ (sym c.in-Err.ensures.result_value) _ _ _)

pub returns-in-Err-clause-state_after : goal.returns-in-Err-clause-state_after
returns-in-Err-clause-state_after c =
    let x = c.args in
    state_kept _ _ _ _ _ _ (ap (moves ((terms_of x.terms.now).kept x.event)) (refused_alike _ _ _ _ _ (sym c.in-Err.ensures.result_value) x.event x.from x.to))

pub returns-in-Err-clause-scratch_after : goal.returns-in-Err-clause-scratch_after
returns-in-Err-clause-scratch_after c =
    let x = c.args in
    scratch_kept _ _ _ _ _ _ (ap (moves ((terms_of x.terms.now).kept x.event)) (refused_alike _ _ _ _ _ (sym c.in-Err.ensures.result_value) x.event x.from x.to))
