-- One law for each way that it goes.
use Rattle.std.proofs.Common.{◌≤◌, List, ℕ, length, take, sym, arith}
use mathlib.Core.Path.{◌∙◌}
use lib.ListN.{replicate, length-replicate}
use lib.Seq.{length-take-le}
use Rattle.std.proofs.lemmas.Result.{err_from_is_err_and}
use Rattle.memory.specs.Layout.{state_words, relation_words}
use Rattle.reader.proofs.Ended.{unrefused, copied}
use Rattle.reader.proofs.OldForm.{short_memory, form_refused, text_refused, text_accepted}
use Rattle.reader.proofs.read.fill_relations.Goals as goal

-- The words that the text is read into.
abbrev blank : List ℕ
blank = replicate state_words 0

blank-long : state_words ≤ length blank
blank-long = omega (arith, length-replicate {A = ℕ} state_words 0)

pub returns-then-terms-lt-TERMS : goal.returns-then-terms-lt-TERMS
returns-then-terms-lt-TERMS c =
    let q = short_memory c.args.text.now c.args.terms.now c.args.relations.now c.then-terms-lt-TERMS.either in
    record { result_value = q.0; terms_after = q.1.0; relations_after = q.1.1 }

pub returns-then-begins_stored : goal.returns-then-begins_stored
returns-then-begins_stored c =
    let q = form_refused c.args.text.now c.args.terms.now c.args.relations.now c.if-terms-lt-TERMS.false c.if-relations-lt-TABLES_AT.false
    c.if-begins_stored.ensures in
    record { result_value = q.0; terms_after = q.1.0; relations_after = q.1.1 }

pub returns-in_err-form : goal.returns-in_err-form
returns-in_err-form c =
    let q = text_refused c.args.text.now c.args.terms.now c.args.relations.now c.if-terms-lt-TERMS.false c.if-relations-lt-TABLES_AT.false
    blank blank-long c.if-begins_stored.ensures _ _ c.in_err-form.ensures.result_value c.fill.new.terms c.in_err-form.ensures.terms_after in
    let p = err_from_is_err_and c.from_residual.result c.from_residual.ensures.1 in
    record { result_value = rw (p.1, p.2) q.0; terms_after = q.1.0; relations_after = q.1.1 }

pub slice_bounds-copy_from_slice-end-3 : goal.slice_bounds-copy_from_slice-end-3
slice_bounds-copy_from_slice-end-3 c = sym (length-take-le _ _ (omega (arith, c.fill.auto.state)))

pub copy_from_slice-requires : goal.copy_from_slice-requires
copy_from_slice-requires c =
    length-take-le _ _ c.if-relations-lt-TABLES_AT.false ∙ sym (length-take-le _ _ (omega (arith, c.fill.auto.state)))

pub returns : goal.returns
returns c =
    let q = text_accepted c.args.text.now c.args.terms.now c.args.relations.now c.if-terms-lt-TERMS.false c.if-relations-lt-TABLES_AT.false
    blank blank-long c.if-begins_stored.ensures _ c.in_ok-form.ensures.result_value (unrefused c.in_ok-form.form)
    c.fill.new.terms c.fill.new.state _ c.in_ok-form.ensures.terms_after c.in_ok-form.ensures.state_after
    (copied (take relation_words c.fill.new.state) c.args.relations.now _ c.copy_from_slice.ensures.after
    (length-take-le relation_words c.fill.new.state (omega (arith, c.fill.auto.state)))) in
    record { result_value = q.0; terms_after = q.1.0; relations_after = q.1.1 }
