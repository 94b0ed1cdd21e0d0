-- What the private functions of requests and set lists ask and leave.
use Rattle.std.specs.Prelude.{ℕ, ◌≤◌, ◌≡◌, true, cond, List, length}
use Rattle.theory.specs.Limits.{scratch_words}
use Rattle.memory.specs.Layout.{terms_words, state_words, terms_of}
use Rattle.memory.specs.Checks.{good_memory, good_state}
use Rattle.memory.specs.Outcome.{Outcome, has_passed}
use Rattle.memory.specs.TableIndex.{Indexed}

-- Memory that has passed the checks that come before a request or a list, with the table index.
pub record MemoryPassed (terms index state scratch : List ℕ) : Type 0 where
  pub long_terms : terms_words ≤ length terms
  pub good_terms : good_memory terms ≡ true
  pub indexed : Indexed (terms_of terms) index
  pub long_state : state_words ≤ length state
  pub good-state : good_state (terms_of terms) state ≡ true
  pub long_scratch : scratch_words ≤ length scratch

-- How many records are answered: none where a check fails.
unfoldable pub turns_of : Outcome → ℕ → ℕ
turns_of o n = cond (has_passed o) n 0
