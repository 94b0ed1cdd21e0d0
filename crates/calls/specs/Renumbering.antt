-- Members renumbered over lent memory (docs/SCOPE.md, Members renumbered): what the call gives, and what
-- it leaves of the second state.
use Rattle.std.specs.Prelude.{ℕ, cond, not, ◌||◌, List, ◌++◌, ltb, length, drop}
use Rattle.theory.specs.Terms.{Terms}
use Rattle.theory.specs.NewNumbers.{old_number, renumbers}
use Rattle.theory.specs.MembersRenumbered.{state_by}
use Rattle.memory.specs.Layout.{terms_words, state_words, terms_of, state_of, words_of, tabulate}
use Rattle.memory.specs.Checks.{good_memory, good_state}
use Rattle.memory.specs.Outcome.{Outcome, has_passed}
use Rattle.memory.specs.Outcome.Outcome.{passed, refused}

-- What renumbering gives: lengths of terms, state and second state (6), terms (7), state
-- (8), the list of new numbers (15).
unfoldable pub renumbering : (terms state numbers second : List ℕ) → Outcome
renumbering terms state numbers second =
    cond (ltb (length terms) terms_words || (ltb (length state) state_words || ltb (length second) state_words)) (refused 6 0)
    (cond (not (good_memory terms)) (refused 7 0)
    (cond (not (good_state (terms_of terms) state)) (refused 8 0)
    (cond (not (renumbers (terms_of terms).members numbers)) (refused 15 0)
    passed)))

-- The words of a state, renumbered.
abbrev pub renumbered_words : Terms → (numbers state : List ℕ) → List ℕ
renumbered_words T p w = words_of T (state_by T p (state_of w))

-- What it leaves of the second state: its named words, or, where it is refused, all as lent.
-- The first state is not touched.
unfoldable pub renumbered_state : (terms state numbers second : List ℕ) → List ℕ
renumbered_state terms state numbers second =
    cond (has_passed (renumbering terms state numbers second))
    (renumbered_words (terms_of terms) numbers state ++ drop state_words second)
    second

-- The numbers that undo a renumbering.
abbrev pub undo : (members : ℕ) → List ℕ → List ℕ
undo N p = tabulate N (old_number N p)
