-- One law for each way that it goes.
use Rattle.std.proofs.Common.{sym, arith}
use mathlib.Core.Path.{◌∙◌}
use lib.Seq.{length-take-le}
use Rattle.std.proofs.lemmas.Result.{err_from_is_err_and}
use Rattle.reader.proofs.Ended.{unrefused, copied, short_memory, text_refused, text_partly, text_accepted}
use Rattle.reader.proofs.read.fill.Goals as goal

pub returns-then-terms-lt-TERMS : goal.returns-then-terms-lt-TERMS
returns-then-terms-lt-TERMS c =
    let q = short_memory c.args.text.now c.args.terms.now c.args.state.now c.then-terms-lt-TERMS.either in
    record { result_value = q.0; terms_after = q.1.0; state_after = q.1.1 }

pub returns-in_err-form : goal.returns-in_err-form
returns-in_err-form c =
    let q = text_refused c.args.text.now c.args.terms.now c.args.state.now c.if-terms-lt-TERMS.false c.if-state-lt-STATE.false _ _
    c.in_err-form.ensures.given in
    let p = err_from_is_err_and c.from_residual.result c.from_residual.ensures.1 in
    record { result_value = rw (p.1, p.2) q.0; terms_after = q.1.0; state_after = q.1.1 }

pub returns-in-Some : goal.returns-in-Some
returns-in-Some c =
    let q = text_partly c.args.text.now c.args.terms.now c.args.state.now c.if-terms-lt-TERMS.false c.if-state-lt-STATE.false _ _ _ _
    c.in_ok-form.ensures (unrefused c.in_ok-form.form) c.in-Some.line c.in-Some.ensures.1 c.in-Some.ensures.0 in
    record { result_value = q.0; terms_after = q.1.0; state_after = q.1.1 }

pub copy_from_slice-requires : goal.copy_from_slice-requires
copy_from_slice-requires c =
    length-take-le _ _ c.if-terms-lt-TERMS.false ∙ sym c.read_lines.auto.terms

pub copy_from_slice-requires-2 : goal.copy_from_slice-requires-2
copy_from_slice-requires-2 c =
    length-take-le _ _ c.if-state-lt-STATE.false ∙ sym c.read_lines.auto.state

pub returns : goal.returns
returns c =
    let q = text_accepted c.args.text.now c.args.terms.now c.args.state.now c.if-terms-lt-TERMS.false c.if-state-lt-STATE.false _ _ _ _
    c.in_ok-form.ensures (unrefused c.in_ok-form.form) 0 c.in_default.ensures (omega arith) _ _
    (copied c.read_lines.new.terms c.args.terms.now _ c.copy_from_slice.ensures.after c.read_lines.auto.terms)
    (copied c.read_lines.new.state c.args.state.now _ c.copy_from_slice-2.ensures.after c.read_lines.auto.state) in
    record { result_value = q.0; terms_after = q.1.0; state_after = q.1.1 }
