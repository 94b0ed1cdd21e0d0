-- What the private functions that begin new terms ask of, and leave in, the second state.
use Rattle.std.specs.Prelude.{ℕ, ◌≤◌, ◌≡◌, true, false, List, length}
use Rattle.theory.specs.Terms.{Terms, same_size}
use Rattle.theory.specs.Tables.{State, start_tables}
use Rattle.theory.specs.private.Classes.{Classed}
use Rattle.memory.specs.Layout.{terms_words, state_words, terms_of, state_of}
use Rattle.memory.specs.Checks.{good_memory, good_state}
use Rattle.memory.specs.TableIndex.{Indexed}
use Rattle.deciding.specs.private.Moving.{HasState, tabled}

-- Old terms, the state under them and new terms that have passed the checks, with the indexes of both.
pub record Revising (old before state new index : List ℕ) : Type 0 where
  pub long_old : terms_words ≤ length old
  pub good_old : good_memory old ≡ true
  pub indexed_old : Indexed (terms_of old) before
  pub long_state : state_words ≤ length state
  pub good-state : good_state (terms_of old) state ≡ true
  pub long_new : terms_words ≤ length new
  pub good_new : good_memory new ≡ true
  pub indexed_new : Indexed (terms_of new) index
  pub same : same_size (terms_of old) (terms_of new) ≡ true

-- The state of the new terms in which the tables of entries below n are filled in, and the others are empty.
abbrev pub start_below : (old state : List ℕ) → ℕ → Terms → State
start_below old state n U = tabled (state_of state) (start_tables (terms_of old) (state_of state) U n (λ t a b. false))

-- The memory m has that state, and then the words rest.
abbrev pub Begun : (old state new : List ℕ) → ℕ → (rest m : List ℕ) → Type 0
Begun old state new n rest m = HasState (terms_of new) (start_below old state n (terms_of new)) rest m

-- Taken has, for each new entry, the first old one with the same formula.
abbrev pub Taken : (old new taken : List ℕ) → Type 0
Taken old new taken = Classed (terms_of old) (terms_of new) (terms_of new).entries taken
