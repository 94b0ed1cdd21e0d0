use Rattle.std.proofs.Common.{sym}
use mathlib.Core.Path.{◌∙◌}
use Rattle.fields.proofs.Numeral.{number_is, number_none}
use Rattle.file.proofs.Fields.{word_none, word_some, entry_bad, entry_wordless, entry_length, entry_third, entry_says_three, entry_says_two}
use Rattle.file.proofs.line.entry_line.Goals as goal

pub returns-in_err-o : goal.returns-in_err-o
returns-in_err-o c =
    let e = sym c.read_operator.ensures ∙ c.in_err-o.was in
    rw c.from_residual.ensures (entry_wordless _ (word_none _ _ (rw c.piece.ensures at e)))

pub returns-then-pieces-from : goal.returns-then-pieces-from
returns-then-pieces-from c =
    let w = sym c.read_operator.ensures ∙ c.in_ok-o.was in
    entry_length _ _ (word_some _ _ _ (rw c.piece.ensures at w)) _ c.from.ensures (λ e. c.if-pieces-from.true (c.pieces.ensures ∙ e))

pub returns-in_err-n : goal.returns-in_err-n
returns-in_err-n c =
    let e = number_none _ (sym c.number_at.ensures ∙ c.in_err-n.was) in
    rw c.from_residual-in_err-n.ensures (entry_bad _ 1 1 e e)

pub returns-in_err-a : goal.returns-in_err-a
returns-in_err-a c =
    let e = number_none _ (sym c.number_at-2.ensures ∙ c.in_err-a.was) in
    rw c.from_residual-in_err-a.ensures (entry_bad _ 2 3 e e)

pub returns-in_err-b : goal.returns-in_err-b
returns-in_err-b c =
    let e = number_none _ (sym c.number_at-3.ensures ∙ c.in_err-b.was) in
    rw c.from_residual-in_err-b.ensures (entry_bad _ 3 4 e e)

pub returns-in_err-c : goal.returns-in_err-c
returns-in_err-c c =
    let w = sym c.read_operator.ensures ∙ c.in_ok-o.was in
    let e = number_none _ (sym c.number_at-then-third.ensures ∙ c.in_err-c.was) in
    rw c.from_residual-in_err-c.ensures (entry_third _ _ (word_some _ _ _ (rw c.piece.ensures at w)) c.if-third.true e)

pub returns-in_ok-c : goal.returns-in_ok-c
returns-in_ok-c c =
    let w = sym c.read_operator.ensures ∙ c.in_ok-o.was in
    entry_says_three _ _ (word_some _ _ _ (rw c.piece.ensures at w)) _ _ _ _ c.from.ensures (sym c.pieces.ensures ∙ c.if-pieces-from.false)
    (number_is _ _ (sym c.number_at.ensures ∙ c.in_ok-n.was)) (number_is _ _ (sym c.number_at-2.ensures ∙ c.in_ok-a.was))
    (number_is _ _ (sym c.number_at-3.ensures ∙ c.in_ok-b.was)) c.if-third.true _
    (number_is _ _ (sym c.number_at-then-third.ensures ∙ c.in_ok-c.was))

pub returns-else-third : goal.returns-else-third
returns-else-third c =
    let w = sym c.read_operator.ensures ∙ c.in_ok-o.was in
    entry_says_two _ _ (word_some _ _ _ (rw c.piece.ensures at w)) _ _ _ _ c.from.ensures (sym c.pieces.ensures ∙ c.if-pieces-from.false)
    (number_is _ _ (sym c.number_at.ensures ∙ c.in_ok-n.was)) (number_is _ _ (sym c.number_at-2.ensures ∙ c.in_ok-a.was))
    (number_is _ _ (sym c.number_at-3.ensures ∙ c.in_ok-b.was)) c.if-third.false
