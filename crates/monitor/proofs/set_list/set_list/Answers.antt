-- `Listing` over state and scratch, turn by turn.
use Rattle.std.proofs.Common.{◌≡◌, ℕ, refl, subst, arith, length}
use Rattle.std.proofs.lemmas.Result.{err_from_is_err_and}
use Rattle.calls.proofs.ListChecks.{list_ready}
use Rattle.monitor.proofs.SetListing.{Facts, begins, turn, ends, refuses}
use Rattle.monitor.proofs.set_list.set_list.Goals as goal

pub returns-in_err-inspect_call : goal.returns-in_err-inspect_call
returns-in_err-inspect_call c =
    let p = err_from_is_err_and c.from_residual.result c.from_residual.ensures.1 in
    rw (p.1, p.2) (refuses _ _ _ _ c.inspect_call.new.index _ c.in_err-inspect_call.ensures.result_value)

pub loop-r-init : goal.loop-r-init
loop-r-init c =
    let e = c.in_ok-inspect_call.ensures in
    begins _ _ _ _ _ (list_ready _ _ _ _ e.result_value (e.indexed refl))

pub loop-r-preserved : goal.loop-r-preserved
loop-r-preserved c =
    rw c.tally-granted.ensures (turn _ _ _ _ _ _ _ _ _ _ _ _ _ c.step-answer.ensures c.loop-r.invariant (omega (arith, c.loop-r-test.true)))

pub returns : goal.returns
returns c =
    let x = c.args in
    let l = c.loop-r in
    let e : l.r-index ≡ length x.records.now = omega (arith, l.invariant.size, c.loop-r-test.false) in
    ends _ _ _ _ _ _ _ _ _ c.in_ok-inspect_call.ensures.result_value
    (subst (λ (n : ℕ). Facts x.terms.now x.records.now x.state.now x.scratch.now c.inspect_call.new.index n l.granted l.records l.state l.scratch) e l.invariant)
