-- `look`: what is asked is named, and then the verdict.
use Rattle.std.proofs.Common.{◌≡◌, true, List, ◌≤◌, length, ℕ}
use mathlib.Core.Path.{sym, ◌∙◌}
use Rattle.memory.specs.Checks.{good_memory, good_state}
use Rattle.memory.specs.Layout.{terms_words, state_words, terms_of}
use Rattle.memory.proofs.Outcomes.{Checked}
use Rattle.calls.proofs.Answers.{unnamed, judged}
use Rattle.monitor.proofs.passed.look.Goals as goal

checked : (terms state : List ℕ) → (terms_words ≤ length terms) × (good_memory terms ≡ true) →
    (state_words ≤ length state) × (good_state (terms_of terms) state ≡ true) → Checked terms state
checked terms state t s = record { long_terms = t.0; long_state = s.0; good_terms = t.1; good-state = s.1 }

pub returns-then-not-is_named : goal.returns-then-not-is_named
returns-then-not-is_named c scratch long =
    c.into.ensures
    ∙ unnamed _ _ scratch _ _ _ long (checked _ _ c.requires.terms_words_in_bounds c.requires.state_words_in_bounds) (sym c.if-not-is_named.ensures)

pub returns-then-is_granted : goal.returns-then-is_granted
returns-then-is_granted c scratch long =
    judged _ _ scratch _ _ _ long (checked _ _ c.requires.terms_words_in_bounds c.requires.state_words_in_bounds) (sym c.if-not-is_named.ensures) c.if-is_granted.true c.is_granted.ensures

pub returns-else-is_granted : goal.returns-else-is_granted
returns-else-is_granted c scratch long =
    judged _ _ scratch _ _ _ long (checked _ _ c.requires.terms_words_in_bounds c.requires.state_words_in_bounds) (sym c.if-not-is_named.ensures) c.if-is_granted.false c.is_granted.ensures
