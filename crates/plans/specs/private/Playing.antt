-- What the private functions that play a plan ask of, and leave in, the lent words.
use Rattle.std.specs.Prelude.{ℕ, ◌-◌, ◌/◌, ◌%◌, ◌<◌, ◌≡◌, Bool, cond, ◌&&◌, ◌||◌, List, eqb, ltb, length, take, drop}
use Rattle.theory.specs.Terms.{Terms}
use Rattle.memory.specs.Layout.{state_words, terms_of}
use Rattle.plans.specs.Game.{whatever, wins, moves_from, moves}
use Rattle.plans.specs.Plans.{stepped, reached_in}

-- The state that stands in the words from a place on.
abbrev pub standing : (at : ℕ) → List ℕ → List ℕ
standing at w = take state_words (drop at w)

-- The words before a place are as they were.
pub record Spared (at : ℕ) (w w' : List ℕ) : Type 0 where
  pub long : length w' ≡ length w
  pub before : take at w' ≡ take at w

-- And the state s stands from there on. Later words may be any.
pub record Placed (at : ℕ) (s w w' : List ℕ) : Type 0 where
  pub spared : Spared at w w'
  pub here : standing at w' ≡ s

-- A game that can be played: the terms are small enough, and the plan has 1 to 3 moves.
pub record Playable (terms plan : List ℕ) (planner rival goal u v : ℕ) : Type 0 where
  pub few_members : (terms_of terms).members < 9
  pub few_events : (terms_of terms).events < 5
  pub few_moves : moves plan < 4
  pub some_move : 0 < moves plan

-- The rival's moves in number: 8j + v is the request of event j with target v, and 32 is a pass.
abbrev pub offered : Terms → ℕ → Bool
offered T i = eqb i 32 || (ltb (i / 8) T.events && ltb (i % 8) T.members)

abbrev pub replied : (terms : List ℕ) → (rival i : ℕ) → List ℕ → List ℕ
replied terms rival i s = cond (eqb i 32) s (stepped terms s (i / 8) rival (i % 8))

-- The moves of a plan from number k on win; and they do so whatever the rival does first.
abbrev pub wins_from : (terms plan : List ℕ) → (planner rival goal u v k : ℕ) → List ℕ → Bool
wins_from terms plan planner rival goal u v k =
    wins (stepped terms) (reached_in terms goal u v) (terms_of terms) planner rival (moves_from plan (moves plan - k) k)

abbrev pub outlasts : (terms plan : List ℕ) → (planner rival goal u v k : ℕ) → List ℕ → Bool
outlasts terms plan planner rival goal u v k =
    whatever (stepped terms) (reached_in terms goal u v) (terms_of terms) planner rival (wins_from terms plan planner rival goal u v k)
