use Rattle.std.proofs.Common.{◌≡◌, ℕ, refl, sym, ap, false}
use mathlib.Core.Path.{◌∙◌}
use Rattle.file.specs.Said.{form_in}
use Rattle.file.specs.declared.line.Line.{Line}
use Rattle.file.specs.declared.line.Line.TheVariants.{Members, Labels, Entry, Policy, Effect, Edge, Form, TableBit, PairBit, EventEdge, Mark, Malformed}
use Rattle.reader.specs.OldForm.{begins_stored}
use Rattle.reader.proofs.FirstLine.{none_taken, line_taken}
use Rattle.reader.proofs.read.begins_stored.Goals as goal
use Rattle.reader.proofs.read.begins_stored.Goals.{After-parse_line}

-- The kinds that are no S line.
no_form : (l : Line) → ((x : ℕ) → l ≡ Form x → ⊥) → false ≡ form_in l false
no_form (Members n) h = refl
no_form (Labels r e) h = refl
no_form (Entry n o a b c) h = refl
no_form (Policy j n) h = refl
no_form (Effect j a k d) h = refl
no_form (Edge k a b) h = refl
no_form (Form n) h = absurd (h n refl)
no_form (TableBit t a b) h = refl
no_form (PairBit t a b c) h = refl
no_form (EventEdge j u v) h = refl
no_form (Mark j) h = refl
no_form Malformed h = refl

pub returns-in_default : goal.returns-in_default
returns-in_default c =
    none_taken _ _ _ c.next.ensures.steps (sym c.flatten.ensures ∙ c.in_default.is)
    ∙ ap begins_stored c.of.ensures

first : (c : After-parse_line) → form_in c.parse_line.result false ≡ begins_stored c.args.text.now
first c =
    line_taken _ _ _ c.next.ensures.steps _ (sym c.flatten.ensures ∙ c.in-Some.is) _ c.parse_line.ensures
    ∙ ap begins_stored c.of.ensures

pub returns-in-Form : goal.returns-in-Form
returns-in-Form c =
    sym (ap (λ (l : Line). form_in l false) c.in-Form.is) ∙ first (goal.at.returns-in-Form c).After-parse_line

pub returns-in_default-matches : goal.returns-in_default-matches
returns-in_default-matches c =
    no_form _ c.in_default-matches.not-Form ∙ first (goal.at.returns-in_default-matches c).After-parse_line
