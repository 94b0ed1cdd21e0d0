-- The first test that fails makes the line malformed.
use Rattle.std.proofs.Common.{◌≡◌, List, ℕ, sym, refl, ap}
use mathlib.Core.Path.{◌∙◌}
use mathlib.Core.List.{[], ◌∷◌}
use mathlib.Core.Bool.{Bool}
use borrow.Author.Tests.{ne_eqb, eq-eqb}
use Rattle.theory.specs.Fit.{every}
use Rattle.fields.specs.Split.{alike}
use Rattle.fields.proofs.Numeral.{number_is, number_none}
use Rattle.transcript.specs.Transcript.{asked}
use Rattle.transcript.proofs.Lines.{not_asked}
use Rattle.transcript.proofs.request.read_request.Goals as goal
use Rattle.transcript.proofs.request.read_request.Goals.{then-pieces-ne4-via-then-pieces-ne4, then-pieces-ne4-via-else-pieces-ne4+then-not-same}

-- What `same` gave of the first field.
first : {r : Bool} {w f : List ℕ} → r ≡ alike w (82 ∷ []) → w ≡ f → alike f (82 ∷ []) ≡ r
first p q = sym (p ∙ ap (λ (x : List ℕ). alike x (82 ∷ [])) q)

pub returns-then-pieces-ne4 : goal.returns-then-pieces-ne4
unfolding asked
returns-then-pieces-ne4 c =
    elim c.then-pieces-ne4.branch [
      | then-pieces-ne4-via-then-pieces-ne4 w ↦ not_asked _ _ 0 (ne_eqb _ _ (λ e. w.if-pieces-ne4.true (c.pieces.ensures ∙ e)))
      | then-pieces-ne4-via-else-pieces-ne4+then-not-same w ↦ not_asked _ _ 1 (first w.same.ensures w.piece.ensures ∙ w.if-not-same.true)
    ]

pub returns-in_err-event : goal.returns-in_err-event
unfolding asked
returns-in_err-event c = rw c.from_residual.ensures (not_asked _ _ 2 (number_none _ (sym c.number_at.ensures ∙ c.in_err-event.was)))

pub returns-in_err-from : goal.returns-in_err-from
unfolding asked
returns-in_err-from c =
    rw c.from_residual-in_err-from.ensures (not_asked _ _ 3 (number_none _ (sym c.number_at-2.ensures ∙ c.in_err-from.was)))

pub returns-in_err-to : goal.returns-in_err-to
unfolding asked
returns-in_err-to c =
    rw c.from_residual-in_err-to.ensures (not_asked _ _ 4 (number_none _ (sym c.number_at-3.ensures ∙ c.in_err-to.was)))

pub returns : goal.returns
unfolding asked every
returns c =
    let n = sym c.pieces.ensures ∙ c.if-pieces-ne4.false in
    let w = first c.same.ensures c.piece.ensures ∙ c.if-not-same.false in
    let e1 = number_is _ _ (sym c.number_at.ensures ∙ c.in_ok-event.was) in
    let e2 = number_is _ _ (sym c.number_at-2.ensures ∙ c.in_ok-from.was) in
    let e3 = number_is _ _ (sym c.number_at-3.ensures ∙ c.in_ok-to.was) in
    rw (eq-eqb _ _ n, w, e1.0, e2.0, e3.0, e1.1, e2.1, e3.1) refl
