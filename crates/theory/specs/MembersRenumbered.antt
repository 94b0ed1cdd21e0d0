-- Members renumbered: what becomes of states and calls.
use Rattle.std.specs.Prelude.{ℕ, ◌<◌, List, ◌≡◌}
use Rattle.theory.specs.Formula.{columns}
use Rattle.theory.specs.Columns.{word_under, bit_under}
use Rattle.theory.specs.Terms.{Terms, formula, past_entry}
use Rattle.theory.specs.Keeper.{Call}
use Rattle.theory.specs.Tables.{Tables, State}
use Rattle.theory.specs.NewNumbers.{new_number, old_number, renumber_moment}

-- By p, the new numbers, and q, the old ones.
module _ (p q : ℕ → ℕ) where
  -- A table says of the new numbers what it said of the old ones, in each of its indices.
  abbrev pub renumber_tables : Terms → Tables → Tables
  renumber_tables T X t i k =
      let cs = columns (formula T (past_entry T t)) in
      X t (word_under cs q i k) (bit_under cs q i k)

  abbrev pub renumber_state : Terms → State → State
  renumber_state T S = record { now = renumber_moment p q S.now; table = renumber_tables T S.table }

  abbrev pub renumber_call : Call → Call
  renumber_call c = record { look = c.look; event = c.event; from = p c.from; to = p c.to; scratch = c.scratch }

-- By the list of new numbers.
abbrev pub state_by : Terms → (numbers : List ℕ) → State → State
state_by T p = renumber_state (new_number p) (old_number T.members p) T

-- p gives the new numbers of the members below N, q the old ones. What is no member keeps its
-- number, so that both are total.
pub record Renumbering (N : ℕ) (p q : ℕ → ℕ) : Type 0 where
  pub new : (m : ℕ) → m < N → p m < N
  pub old : (m : ℕ) → m < N → q m < N
  pub back : (m : ℕ) → q (p m) ≡ m
  pub forth : (m : ℕ) → p (q m) ≡ m
