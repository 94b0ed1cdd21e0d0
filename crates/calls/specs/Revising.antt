-- New terms while playing (docs/SCOPE.md, New terms): what `revise` leaves of the second state. What it gives is
-- `revises`, with the other checks.
use Rattle.std.specs.Prelude.{ℕ, cond, List, ◌++◌, drop}
use Rattle.theory.specs.Tables.{revised}
use Rattle.memory.specs.Layout.{state_words, terms_of, state_of, words_of}
use Rattle.memory.specs.Outcome.{has_passed, revises}

-- The second state afterwards: the words of the state that the new terms begin with, or, where it is refused, as lent.
-- Further words are not touched.
unfoldable pub revised_state : (old state new second : List ℕ) → List ℕ
revised_state old state new second =
    cond (has_passed (revises old state new second))
    (words_of (terms_of new) (revised (terms_of old) (state_of state) (terms_of new)) ++ drop state_words second)
    second
