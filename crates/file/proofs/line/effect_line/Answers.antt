use Rattle.std.proofs.Common.{sym, refl}
use mathlib.Core.Path.{◌∙◌}
use borrow.Author.Tests.{ne_eqb, eq-eqb}
use Rattle.theory.specs.Fit.{every}
use Rattle.fields.proofs.Numeral.{number_is, number_none}
use Rattle.file.specs.Line.{effect_line}
use Rattle.file.proofs.Fields.{malformed, word_none, word_some}
use Rattle.file.proofs.line.effect_line.Goals as goal

pub returns-then-pieces-ne5 : goal.returns-then-pieces-ne5
unfolding effect_line
returns-then-pieces-ne5 c = malformed _ _ 0 (ne_eqb _ _ (λ e. c.if-pieces-ne5.true (c.pieces.ensures ∙ e)))

pub returns-in_err-j : goal.returns-in_err-j
unfolding effect_line
returns-in_err-j c = rw c.from_residual.ensures (malformed _ _ 1 (number_none _ (sym c.number_at.ensures ∙ c.in_err-j.was)))

pub returns-in_err-action : goal.returns-in_err-action
unfolding effect_line
returns-in_err-action c =
    let e = sym c.read_action.ensures ∙ c.in_err-action.was in
    rw c.from_residual-in_err-action.ensures (malformed _ _ 2 (word_none _ _ (rw c.piece.ensures at e)))

pub returns-in_err-k : goal.returns-in_err-k
unfolding effect_line
returns-in_err-k c =
    rw c.from_residual-in_err-k.ensures (malformed _ _ 3 (number_none _ (sym c.number_at-2.ensures ∙ c.in_err-k.was)))

pub returns-in_err-direction : goal.returns-in_err-direction
unfolding effect_line
returns-in_err-direction c =
    let e = sym c.read_direction.ensures ∙ c.in_err-direction.was in
    rw c.from_residual-in_err-direction.ensures (malformed _ _ 4 (word_none _ _ (rw c.piece-2.ensures at e)))

pub returns : goal.returns
unfolding effect_line every
returns c =
    let e1 = number_is _ _ (sym c.number_at.ensures ∙ c.in_ok-j.was) in
    let w2 = sym c.read_action.ensures ∙ c.in_ok-action.was in
    let e2 = word_some _ _ _ (rw c.piece.ensures at w2) in
    let e3 = number_is _ _ (sym c.number_at-2.ensures ∙ c.in_ok-k.was) in
    let w4 = sym c.read_direction.ensures ∙ c.in_ok-direction.was in
    let e4 = word_some _ _ _ (rw c.piece-2.ensures at w4) in
    rw (eq-eqb _ _ (sym c.pieces.ensures ∙ c.if-pieces-ne5.false), e1.0, e2.0, e3.0, e4.0, e1.1, e2.1, e3.1, e4.1) refl
