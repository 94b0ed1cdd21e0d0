-- The arms are the kinds in the order of their words.
use Rattle.std.proofs.Common.{sym, refl, ap, get_or}
use mathlib.Core.Path.{◌∙◌}
use Rattle.file.specs.Words.{kind_of}
use Rattle.file.specs.Line.{line_of, single_line, labels_line, policy_line, triple_line, pair_line}
use Rattle.file.specs.private.Numbers.{are_numbers, numbers_of, tests_from, numbers_from}
use Rattle.file.specs.declared.line.Line.TheVariants.{Members, Labels, Policy, Edge, Form, TableBit, PairBit, EventEdge, Mark}
use Rattle.file.proofs.Fields.{says, says_none, line_kind, table_pair, table_triple}
use Rattle.file.proofs.line.said.Goals as goal

pub returns-in_err-read_kind : goal.returns-in_err-read_kind
unfolding line_of
returns-in_err-read_kind c =
    rw c.from_residual.ensures (line_kind 10 _ refl (c.in_err-read_kind.ensures ∙ ap kind_of c.piece.ensures))

pub returns-in_err-n-in-Members : goal.returns-in_err-n-in-Members
unfolding line_of single_line are_numbers tests_from
returns-in_err-n-in-Members c =
    rw c.from_residual-in_err-n-in-Members.ensures
    (line_kind 0 _ (says_none _ _ _ c.in_err-n-in-Members.ensures)
    (rw c.in-Members.is at c.in_ok-read_kind.ensures ∙ ap kind_of c.piece.ensures))

pub returns-in_ok-n-in-Members : goal.returns-in_ok-n-in-Members
unfolding line_of single_line are_numbers numbers_of tests_from numbers_from
returns-in_ok-n-in-Members c =
    line_kind 0 _ (says _ _ _ (λ xs. Members (get_or xs 0 0)) c.in_ok-n-in-Members.ensures)
    (rw c.in-Members.is at c.in_ok-read_kind.ensures ∙ ap kind_of c.piece.ensures)

pub returns-in_err-r-in-Labels : goal.returns-in_err-r-in-Labels
unfolding line_of labels_line are_numbers tests_from
returns-in_err-r-in-Labels c =
    rw c.from_residual-in_err-r-in-Labels.ensures
    (line_kind 1 _ (says_none _ _ _ c.in_err-r-in-Labels.ensures)
    (rw c.in-Labels.is at c.in_ok-read_kind.ensures ∙ ap kind_of c.piece.ensures))

pub returns-in_ok-r-in-Labels : goal.returns-in_ok-r-in-Labels
unfolding line_of labels_line are_numbers numbers_of tests_from numbers_from
returns-in_ok-r-in-Labels c =
    line_kind 1 _ (says _ _ _ (λ xs. Labels (get_or xs 0 0) (get_or xs 1 0)) c.in_ok-r-in-Labels.ensures)
    (rw c.in-Labels.is at c.in_ok-read_kind.ensures ∙ ap kind_of c.piece.ensures)

pub returns-in_err-j-in-Policy : goal.returns-in_err-j-in-Policy
unfolding line_of policy_line are_numbers tests_from
returns-in_err-j-in-Policy c =
    rw c.from_residual-in_err-j-in-Policy.ensures
    (line_kind 3 _ (says_none _ _ _ c.in_err-j-in-Policy.ensures)
    (rw c.in-Policy.is at c.in_ok-read_kind.ensures ∙ ap kind_of c.piece.ensures))

pub returns-in_ok-j-in-Policy : goal.returns-in_ok-j-in-Policy
unfolding line_of policy_line are_numbers numbers_of tests_from numbers_from
returns-in_ok-j-in-Policy c =
    line_kind 3 _ (says _ _ _ (λ xs. Policy (get_or xs 0 0) (get_or xs 1 0)) c.in_ok-j-in-Policy.ensures)
    (rw c.in-Policy.is at c.in_ok-read_kind.ensures ∙ ap kind_of c.piece.ensures)

pub returns-in_err-k-in-Edge : goal.returns-in_err-k-in-Edge
unfolding line_of triple_line are_numbers tests_from
returns-in_err-k-in-Edge c =
    rw c.from_residual-in_err-k-in-Edge.ensures
    (line_kind 5 _ (says_none _ _ _ c.in_err-k-in-Edge.ensures)
    (rw c.in-Edge.is at c.in_ok-read_kind.ensures ∙ ap kind_of c.piece.ensures))

pub returns-in_ok-k-in-Edge : goal.returns-in_ok-k-in-Edge
unfolding line_of triple_line are_numbers numbers_of tests_from numbers_from
returns-in_ok-k-in-Edge c =
    line_kind 5 _ (says _ _ _ (λ xs. Edge (get_or xs 0 0) (get_or xs 1 0) (get_or xs 2 0)) c.in_ok-k-in-Edge.ensures)
    (rw c.in-Edge.is at c.in_ok-read_kind.ensures ∙ ap kind_of c.piece.ensures)

pub returns-in_err-n-in-Form : goal.returns-in_err-n-in-Form
unfolding line_of single_line are_numbers tests_from
returns-in_err-n-in-Form c =
    rw c.from_residual-in_err-n-in-Form.ensures
    (line_kind 6 _ (says_none _ _ _ c.in_err-n-in-Form.ensures)
    (rw c.in-Form.is at c.in_ok-read_kind.ensures ∙ ap kind_of c.piece.ensures))

pub returns-in_ok-n-in-Form : goal.returns-in_ok-n-in-Form
unfolding line_of single_line are_numbers numbers_of tests_from numbers_from
returns-in_ok-n-in-Form c =
    line_kind 6 _ (says _ _ _ (λ xs. Form (get_or xs 0 0)) c.in_ok-n-in-Form.ensures)
    (rw c.in-Form.is at c.in_ok-read_kind.ensures ∙ ap kind_of c.piece.ensures)

pub returns-in_err-t-in-Table : goal.returns-in_err-t-in-Table
unfolding line_of pair_line are_numbers tests_from
returns-in_err-t-in-Table c =
    rw c.from_residual-in_err-t-in-Table.ensures
    (line_kind 7 _ (says_none _ _ _ c.in_err-t-in-Table.ensures
    ∙ table_pair _ (sym c.pieces.ensures ∙ c.if-pieces-eq5.true))
    (rw c.in-Table.is at c.in_ok-read_kind.ensures ∙ ap kind_of c.piece.ensures))

pub returns-in_ok-t-in-Table : goal.returns-in_ok-t-in-Table
unfolding line_of pair_line are_numbers numbers_of tests_from numbers_from
returns-in_ok-t-in-Table c =
    line_kind 7 _ (says _ _ _ (λ xs. PairBit (get_or xs 0 0) (get_or xs 1 0) (get_or xs 2 0) (get_or xs 3 0)) c.in_ok-t-in-Table.ensures
    ∙ table_pair _ (sym c.pieces.ensures ∙ c.if-pieces-eq5.true))
    (rw c.in-Table.is at c.in_ok-read_kind.ensures ∙ ap kind_of c.piece.ensures)

pub returns-in_err-t-in-Table-2 : goal.returns-in_err-t-in-Table-2
unfolding line_of triple_line are_numbers tests_from
returns-in_err-t-in-Table-2 c =
    rw c.from_residual-in_err-t-in-Table-2.ensures
    (line_kind 7 _ (says_none _ _ _ c.in_err-t-in-Table-2.ensures
    ∙ table_triple _ (λ e. c.if-pieces-eq5.false (c.pieces.ensures ∙ e)))
    (rw c.in-Table-2.is at c.in_ok-read_kind.ensures ∙ ap kind_of c.piece.ensures))

pub returns-in_ok-t-in-Table-2 : goal.returns-in_ok-t-in-Table-2
unfolding line_of triple_line are_numbers numbers_of tests_from numbers_from
returns-in_ok-t-in-Table-2 c =
    line_kind 7 _ (says _ _ _ (λ xs. TableBit (get_or xs 0 0) (get_or xs 1 0) (get_or xs 2 0)) c.in_ok-t-in-Table-2.ensures
    ∙ table_triple _ (λ e. c.if-pieces-eq5.false (c.pieces.ensures ∙ e)))
    (rw c.in-Table-2.is at c.in_ok-read_kind.ensures ∙ ap kind_of c.piece.ensures)

pub returns-in_err-j-in-Event : goal.returns-in_err-j-in-Event
unfolding line_of triple_line are_numbers tests_from
returns-in_err-j-in-Event c =
    rw c.from_residual-in_err-j-in-Event.ensures
    (line_kind 8 _ (says_none _ _ _ c.in_err-j-in-Event.ensures)
    (rw c.in-Event.is at c.in_ok-read_kind.ensures ∙ ap kind_of c.piece.ensures))

pub returns-in_ok-j-in-Event : goal.returns-in_ok-j-in-Event
unfolding line_of triple_line are_numbers numbers_of tests_from numbers_from
returns-in_ok-j-in-Event c =
    line_kind 8 _ (says _ _ _ (λ xs. EventEdge (get_or xs 0 0) (get_or xs 1 0) (get_or xs 2 0)) c.in_ok-j-in-Event.ensures)
    (rw c.in-Event.is at c.in_ok-read_kind.ensures ∙ ap kind_of c.piece.ensures)

pub returns-in_err-j-in-Mark : goal.returns-in_err-j-in-Mark
unfolding line_of single_line are_numbers tests_from
returns-in_err-j-in-Mark c =
    rw c.from_residual-in_err-j-in-Mark.ensures
    (line_kind 9 _ (says_none _ _ _ c.in_err-j-in-Mark.ensures)
    (rw c.in-Mark.is at c.in_ok-read_kind.ensures ∙ ap kind_of c.piece.ensures))

pub returns-in_ok-j-in-Mark : goal.returns-in_ok-j-in-Mark
unfolding line_of single_line are_numbers numbers_of tests_from numbers_from
returns-in_ok-j-in-Mark c =
    line_kind 9 _ (says _ _ _ (λ xs. Mark (get_or xs 0 0)) c.in_ok-j-in-Mark.ensures)
    (rw c.in-Mark.is at c.in_ok-read_kind.ensures ∙ ap kind_of c.piece.ensures)

pub returns-in-Entry : goal.returns-in-Entry
unfolding line_of
returns-in-Entry c =
    line_kind 2 _ c.entry_line.ensures
    (rw c.in-Entry.is at c.in_ok-read_kind.ensures ∙ ap kind_of c.piece.ensures)

pub returns-in-Effect : goal.returns-in-Effect
unfolding line_of
returns-in-Effect c =
    line_kind 4 _ c.effect_line.ensures
    (rw c.in-Effect.is at c.in_ok-read_kind.ensures ∙ ap kind_of c.piece.ensures)
