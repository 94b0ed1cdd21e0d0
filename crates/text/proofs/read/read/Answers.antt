-- What the reader filled of an old file is opened, and of a stored one stands.
use Rattle.std.proofs.Common.{Ok, ap, sym}
use mathlib.Core.Path.{◌∙◌}
use Rattle.std.proofs.lemmas.Result.{err_from_is_err_and}
use Rattle.reader.specs.Read.{filling_of}
use Rattle.reader.specs.declared.Form.{Form}
use Rattle.text.proofs.Opened.{fill_opened, fill_stored, fill_refused}
use Rattle.text.proofs.read.read.Goals as goal

pub returns-in-Old : goal.returns-in-Old
returns-in-Old c =
    let f = c.in_ok-fill.ensures in
    let h = sym (ap (λ (x : Form). filling_of (Ok x)) c.in-Old.is) ∙ f.result_value in
    let o = fill_opened _ _ _ h _ _ f.terms_after f.state_after _ _ c.open.ensures.result_value c.open.ensures.state_after in
    record { result_value = o.0; terms_after = f.terms_after; state_after = o.1 }

pub returns-in-Stored : goal.returns-in-Stored
returns-in-Stored c =
    let f = c.in_ok-fill.ensures in
    let o = fill_stored _ _ _ (sym (ap (λ (x : Form). filling_of (Ok x)) c.in-Stored.is) ∙ f.result_value) in
    record { result_value = o.0; terms_after = f.terms_after; state_after = f.state_after ∙ o.1 }

pub returns-in_err-fill : goal.returns-in_err-fill
returns-in_err-fill c =
    let f = c.in_err-fill.ensures in
    let o = fill_refused _ _ _ _ _ f.result_value in
    let p = err_from_is_err_and c.from_residual.result c.from_residual.ensures.1 in
    record { result_value = rw (p.1, p.2) o.0; terms_after = f.terms_after; state_after = f.state_after ∙ o.1 }
