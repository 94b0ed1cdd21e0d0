-- Why a plan is refused, or the telling of an entry (docs/SCOPE.md, Plans and Refusals): line by line of the table.
use Rattle.std.specs.Prelude.{ℕ, ◌+◌, ◌*◌, ◌≤◌, ◌<◌, ◌≡◌, List, true, false, length, get_or}
use Rattle.theory.specs.Terms.{Terms, formula}
use Rattle.theory.specs.Fit.{only_free}
use Rattle.memory.specs.Layout.{terms_words, state_words, terms_of}
use Rattle.memory.specs.Checks.{good_memory, good_state}
use Rattle.plans.specs.Game.{moves, game_words}

-- Terms and state are as long as named, and are accepted.
pub record Sound (terms state : List ℕ) : Type 0 where
  pub terms_long : terms_words ≤ length terms
  pub state_long : state_words ≤ length state
  pub terms_good : good_memory terms ≡ true
  pub state_good : good_state (terms_of terms) state ≡ true

-- An entry that may not be asked: there is none, or it has a free variable besides 0.
pub data Unasked (T : Terms) (n : ℕ) : Type 0 where
  no-entry : T.entries ≤ n → Unasked T n
  free_variable : n < T.entries → only_free 0 (formula T n) ≡ false → Unasked T n

-- Why there is no game: N above 8, e above 4, a plan that is not 1 to 3 long, one side, a goal that may not be asked.
pub data NoGame (T : Terms) (plan : List ℕ) (planner rival goal : ℕ) : Type 0 where
  many_members : 8 < T.members → NoGame T plan planner rival goal
  many_events : 4 < T.events → NoGame T plan planner rival goal
  other_length : ¬ (length plan ≡ 2) → ¬ (length plan ≡ 4) → ¬ (length plan ≡ 6) → NoGame T plan planner rival goal
  one_side : planner ≡ rival → NoGame T plan planner rival goal
  no_goal : Unasked T goal → NoGame T plan planner rival goal

-- What names no member or event: a side, a member of the pair, or a request of the plan.
pub data Unknown (T : Terms) (plan : List ℕ) (planner rival u v : ℕ) : Type 0 where
  no_planner : T.members ≤ planner → Unknown T plan planner rival u v
  no_rival : T.members ≤ rival → Unknown T plan planner rival u v
  no_first : T.members ≤ u → Unknown T plan planner rival u v
  no_second : T.members ≤ v → Unknown T plan planner rival u v
  no_event : (k : ℕ) → k < moves plan → T.events ≤ get_or plan (2 * k) 0 → Unknown T plan planner rival u v
  no_target : (k : ℕ) → k < moves plan → T.members ≤ get_or plan (2 * k + 1) 0 → Unknown T plan planner rival u v

-- Why a plan is refused with a number: the first of these that fits.
pub data PlanRefusal (terms state scratch plan : List ℕ) (planner rival goal u v : ℕ) : (number : ℕ) → Type 0 where
  short_terms : length terms < terms_words → PlanRefusal terms state scratch plan planner rival goal u v 6
  short_state : length state < state_words → PlanRefusal terms state scratch plan planner rival goal u v 6
  short_scratch : length scratch < game_words → PlanRefusal terms state scratch plan planner rival goal u v 6
  bad_terms : terms_words ≤ length terms → state_words ≤ length state → game_words ≤ length scratch →
      good_memory terms ≡ false → PlanRefusal terms state scratch plan planner rival goal u v 7
  bad_state : terms_words ≤ length terms → state_words ≤ length state → game_words ≤ length scratch →
      good_memory terms ≡ true → good_state (terms_of terms) state ≡ false →
      PlanRefusal terms state scratch plan planner rival goal u v 8
  no_game : Sound terms state → game_words ≤ length scratch → NoGame (terms_of terms) plan planner rival goal →
      PlanRefusal terms state scratch plan planner rival goal u v 14
  unknown : Sound terms state → game_words ≤ length scratch → ¬ NoGame (terms_of terms) plan planner rival goal →
      Unknown (terms_of terms) plan planner rival u v → PlanRefusal terms state scratch plan planner rival goal u v 9

-- Why the telling of an entry is refused with a number.
pub data TellingRefusal (terms state : List ℕ) (n u v : ℕ) : (number : ℕ) → Type 0 where
  short_terms : length terms < terms_words → TellingRefusal terms state n u v 6
  short_state : length state < state_words → TellingRefusal terms state n u v 6
  bad_terms : terms_words ≤ length terms → state_words ≤ length state → good_memory terms ≡ false →
      TellingRefusal terms state n u v 7
  bad_state : terms_words ≤ length terms → state_words ≤ length state → good_memory terms ≡ true →
      good_state (terms_of terms) state ≡ false → TellingRefusal terms state n u v 8
  unasked : Sound terms state → Unasked (terms_of terms) n → TellingRefusal terms state n u v 14
  no_first : Sound terms state → ¬ Unasked (terms_of terms) n → (terms_of terms).members ≤ u →
      TellingRefusal terms state n u v 9
  no_second : Sound terms state → ¬ Unasked (terms_of terms) n → (terms_of terms).members ≤ v →
      TellingRefusal terms state n u v 9
