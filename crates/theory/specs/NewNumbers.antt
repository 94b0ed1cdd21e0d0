-- Members renumbered (docs/SCOPE.md, Members renumbered): the new numbers, check 15, and what becomes of a moment.
use Rattle.std.specs.Prelude.{ℕ, Bool, cond, ◌&&◌, List, eqb, ltb, length, get_or}
use Rattle.sets.specs.Sets.{any_below, all_below}
use Rattle.theory.specs.Formula.{highest}
use Rattle.theory.specs.Moment.{Event, Moment}
use Rattle.theory.specs.Moment.Event.{none, happened, tried}

-- Byte m is the new number of m. What is no member keeps its number.
abbrev pub new_number : (numbers : List ℕ) → ℕ → ℕ
new_number p m = get_or p m m

-- The member whose new number is m.
abbrev pub old_number : (members : ℕ) → (numbers : List ℕ) → ℕ → ℕ
old_number N p m = cond (ltb m N) (highest N (λ k. eqb (get_or p k k) m)) m

-- Check 15: the list is N long, and each number below N is in it.
unfoldable pub renumbers : (members : ℕ) → List ℕ → Bool
renumbers N p = eqb (length p) N && all_below N (λ m. any_below N (λ k. eqb (get_or p k k) m))

-- By p, the new numbers, and q, the old ones.
module _ (p q : ℕ → ℕ) where
  abbrev pub renumber_event : Event → Event
  renumber_event none = none
  renumber_event (happened j u v) = happened j (p u) (p v)
  renumber_event (tried j u v) = tried j (p u) (p v)

  -- There is an edge between two new numbers where there was one between the old ones.
  abbrev pub renumber_moment : Moment → Moment
  renumber_moment M = record { edge = λ k a b. M.edge k (q a) (q b); event = renumber_event M.event }

-- By the list of new numbers.
abbrev pub moment_by : (members : ℕ) → (numbers : List ℕ) → Moment → Moment
moment_by N p = renumber_moment (new_number p) (old_number N p)
