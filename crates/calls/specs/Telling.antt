-- What telling an entry gives, for every lent memory: an entry is asked in place of an event's policy, and no moment
-- is made. What is told is no answer to a request, so it has a type of its own.
use Rattle.std.specs.Prelude.{ℕ, Bool, true, false, cond, not, ◌&&◌, ◌||◌, List, ltb, length, Result, Ok, Err}
use Rattle.theory.specs.Meaning.{alone}
use Rattle.theory.specs.Terms.{Terms, formula}
use Rattle.theory.specs.Moment.{graph}
use Rattle.theory.specs.Tables.{State, holds_now}
use Rattle.memory.specs.Layout.{terms_words, state_words, terms_of, state_of}
use Rattle.memory.specs.Checks.{good_memory, good_state}
use Rattle.memory.specs.Outcome.{askable}
use Rattle.memory.specs.declared.refusal.Refusal.{Refusal}
use Rattle.memory.specs.Refusal.{refusal_number, refusal_line}

-- An entry holds or fails, or its telling is refused with its number and line.
pub data Telling : Type 0 where
  holds : Telling
  fails : Telling
  refused : (number line : ℕ) → Telling

abbrev pub telling_of : Result Bool Refusal → Telling
telling_of (Ok true) = holds
telling_of (Ok false) = fails
telling_of (Err r) = refused (refusal_number r) (refusal_line r)

-- It is told that the entry holds.
abbrev pub affirms : Telling → Bool
affirms holds = true
affirms fails = false
affirms (refused n l) = false

-- Both are members.
abbrev pub paired : Terms → (u v : ℕ) → Bool
paired T u v = ltb u T.members && ltb v T.members

-- Entry n holds now, at u with variable 0 standing for v.
abbrev pub holds_at : Terms → State → (n u v : ℕ) → Bool
holds_at T S n u v = holds_now T.members (graph T S.now) S.table (formula T n) (alone 0 v) u

-- Lengths of terms and state (6), terms (7), state (8), an entry that is none or has a free variable besides 0 (14),
-- the pair (9), else whether it holds.
unfoldable pub tells : (terms state : List ℕ) → (n u v : ℕ) → Telling
tells terms state n u v =
    cond (ltb (length terms) terms_words || ltb (length state) state_words) (refused 6 0)
    (cond (not (good_memory terms)) (refused 7 0)
    (cond (not (good_state (terms_of terms) state)) (refused 8 0)
    (cond (not (askable (terms_of terms) n)) (refused 14 0)
    (cond (not (paired (terms_of terms) u v)) (refused 9 0)
    (cond (holds_at (terms_of terms) (state_of state) n u v) holds fails)))))
