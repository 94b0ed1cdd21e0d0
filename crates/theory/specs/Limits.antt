-- The most that there may be (docs/SCOPE.md, The terms file), and the least memory that
-- is lent (docs/SCOPE.md, Memory).
use Rattle.std.specs.Prelude.{ℕ}

abbrev pub max_members : ℕ
max_members = 64

abbrev pub max_relations : ℕ
max_relations = 16

abbrev pub max_events : ℕ
max_events = 16

abbrev pub max_entries : ℕ
max_entries = 256

-- Past-time entries, each with a table.
abbrev pub max_tables : ℕ
max_tables = 32

-- Effects of an event.
abbrev pub max_effects : ℕ
max_effects = 4

-- Variables are numbered from 0 on.
abbrev pub variables : ℕ
variables = 16

-- Members with which a past-time entry may have two free variables.
abbrev pub pair_members : ℕ
pair_members = 16

-- The most that `many` asks for.
abbrev pub max_count : ℕ
max_count = 64

abbrev pub scratch_words : ℕ
scratch_words = 64

-- Words of terms, and of a state.
abbrev pub least_terms : ℕ
least_terms = 1252

abbrev pub least_state : ℕ
least_state = 3073
