-- What `write` and `store` give and leave, for all lent memory: lengths (6), terms (7), state (8), of the old form a
-- state that is no fresh start (12), and last an output too short for the whole text (6).
use Rattle.std.specs.Prelude.{ℕ, Bool, false, cond, List, ◌++◌, eqb, ltb, length, get_or, drop, Result, Ok, Err}
use Rattle.sets.specs.Sets.{all_below}
use Rattle.theory.specs.Tables.{opening}
use Rattle.memory.specs.Layout.{state_words, terms_of, state_of, word_at}
use Rattle.memory.specs.Outcome.{Outcome, checks}
use Rattle.memory.specs.Outcome.Outcome.{passed, refused as refusedOutcome}
use Rattle.file.specs.Writing.{written, stored}
use Rattle.memory.specs.declared.refusal.Refusal.{Refusal}
use Rattle.memory.specs.Refusal.{refusal_number, refusal_line}

-- A writing gives its count of bytes, or it is refused with its number and line.
pub data Writing : Type 0 where
  bytes : ℕ → Writing
  refused : (number line : ℕ) → Writing

abbrev pub writing_of : Result ℕ Refusal → Writing
writing_of (Ok n) = bytes n
writing_of (Err r) = refused (refusal_number r) (refusal_line r)

-- The text of the lent terms and present relations, and of the whole state.
unfoldable pub written_text : (terms state : List ℕ) → List ℕ
written_text terms state = written (terms_of terms) (state_of state).now.edge

unfoldable pub stored_text : (terms state : List ℕ) → List ℕ
stored_text terms state = stored (terms_of terms) (state_of state)

abbrev pub fitted : Bool → ℕ → Outcome → Writing
fitted short n (refusedOutcome k l) = refused k l
fitted short n passed = cond short (refused 6 0) (bytes n)

-- The output is filled from its first byte, and nothing else is touched.
abbrev pub filled_out : (text out : List ℕ) → Writing → List ℕ
filled_out text out (bytes n) = text ++ drop (length text) out
filled_out text out (refused k l) = out

-- ---- the old form

-- The state is a fresh start of its own relations: each of its words is.
unfoldable pub is_fresh : (terms state : List ℕ) → Bool
is_fresh terms state =
    all_below state_words (λ i. eqb (get_or state i 0) (word_at (terms_of terms) (opening (terms_of terms) (state_of state).now.edge) i))

-- 12, after 6, 7 and 8 and before the output's length, where the state is another.
abbrev pub if_fresh : Bool → Outcome → Writing → Writing
if_fresh fresh (refusedOutcome n l) w = w
if_fresh fresh passed w = cond fresh w (refused 12 0)

-- What writing a fresh start gives; its size, where the output is long enough.
unfoldable pub size_gives : (terms state : List ℕ) → Writing
size_gives terms state = fitted false (length (written_text terms state)) (checks terms state)

unfoldable pub write_gives : (terms state out : List ℕ) → Writing
write_gives terms state out =
    fitted (ltb (length out) (length (written_text terms state))) (length (written_text terms state)) (checks terms state)

-- What writing any state gives, and what it leaves of the output.
unfoldable pub old_size_gives : (terms state : List ℕ) → Writing
old_size_gives terms state = if_fresh (is_fresh terms state) (checks terms state) (size_gives terms state)

unfoldable pub old_write_gives : (terms state out : List ℕ) → Writing
old_write_gives terms state out = if_fresh (is_fresh terms state) (checks terms state) (write_gives terms state out)

unfoldable pub old_write_leaves : (terms state out : List ℕ) → List ℕ
old_write_leaves terms state out = filled_out (written_text terms state) out (old_write_gives terms state out)

-- ---- the stored form, of any state

unfoldable pub store_size_gives : (terms state : List ℕ) → Writing
store_size_gives terms state = fitted false (length (stored_text terms state)) (checks terms state)

unfoldable pub store_gives : (terms state out : List ℕ) → Writing
store_gives terms state out =
    fitted (ltb (length out) (length (stored_text terms state))) (length (stored_text terms state)) (checks terms state)

unfoldable pub store_leaves : (terms state out : List ℕ) → List ℕ
store_leaves terms state out = filled_out (stored_text terms state) out (store_gives terms state out)
