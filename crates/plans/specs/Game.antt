-- Plans against a rival (docs/SCOPE.md, Plans): the game, its checks, and how the keeper plays it. No definition of the
-- monitor is named here.
use Rattle.std.specs.Prelude.{ℕ, zero, suc, ◌+◌, ◌*◌, ◌/◌, Bool, true, false, cond, not, ◌&&◌, ◌||◌, List, [], ◌∷◌, eqb, ltb, length, get_or}
use Rattle.sets.specs.Sets.{all_below}
use Rattle.theory.specs.Meaning.{Starts}
use Rattle.theory.specs.Terms.{Terms, formula}
use Rattle.theory.specs.Fit.{every, only_free}
use Rattle.theory.specs.Limits.{scratch_words}
use Rattle.theory.specs.Moment.{Moment}
use Rattle.theory.specs.Keeper.{Book, target, keeper_holds, keep}

-- ---- the game

-- A request of a plan is given by event and target only.
pub record Move : Type 0 where
  pub event : ℕ
  pub target : ℕ

-- The game over any kind of state. `step s j u v` is what a request of event j from u to v makes of s, granted or
-- denied; `reached` is the goal.
module _ {S : Type 0} (step : S → (j u v : ℕ) → S) (reached : S → Bool) (T : Terms) (planner rival : ℕ) where
  -- Whatever the rival does: it passes, or makes any request that it initiates.
  abbrev pub whatever : (S → Bool) → S → Bool
  whatever p s = p s && all_below T.events (λ j. all_below T.members (λ v. p (step s j rival v)))

  -- The planner moves first, and the rival moves between the planner's moves: the goal holds after one of the
  -- planner's.
  unfoldable pub wins : List Move → S → Bool
  wins [] s = false
  wins (m ∷ ms) s =
      reached (step s m.event planner m.target) || whatever (wins ms) (step s m.event planner m.target)

-- What the rival does once: it passes, or makes a request of an event with a target.
pub data Reply : Type 0 where
  pass : Reply
  asks : (event target : ℕ) → Reply

-- A reply that the rival has.
abbrev pub has_reply : Terms → Reply → Bool
has_reply T pass = true
has_reply T (asks j v) = ltb j T.events && ltb v T.members

-- The same sentence read move by move, where the rival's replies are r 0, r 1, ..: the goal holds after one of the
-- planner's moves.
module _ {S : Type 0} (step : S → (j u v : ℕ) → S) (reached : S → Bool) (planner rival : ℕ) where
  abbrev pub replies : Reply → S → S
  replies pass s = s
  replies (asks j v) s = step s j rival v

  unfoldable pub reaches : List Move → (r : ℕ → Reply) → S → Bool
  reaches [] r s = false
  reaches (m ∷ ms) r s =
      reached (step s m.event planner m.target)
      || reaches ms (λ k. r (suc k)) (replies (r 0) (step s m.event planner m.target))

-- A plan is lent as numbers: move k is event and target at places 2k and 2k + 1. These are n moves from number k on.
unfoldable pub moves_from : List ℕ → (n k : ℕ) → List Move
moves_from plan zero k = []
moves_from plan (suc n) k = record { event = get_or plan (2 * k) 0; target = get_or plan (2 * k + 1) 0 } ∷ moves_from plan n (suc k)

abbrev pub moves : List ℕ → ℕ
moves plan = length plan / 2

abbrev pub moves_of : List ℕ → List Move
moves_of plan = moves_from plan (moves plan) 0

-- ---- what is ruled

-- A plan is accepted or rejected, or it is refused with its number and line.
pub data Ruling : Type 0 where
  accept : Ruling
  reject : Ruling
  refuse : (number line : ℕ) → Ruling

-- Check 14: at most 8 members and 4 events, 1 to 3 whole requests, two sides, a goal that meets a policy's rule on
-- variables.
abbrev pub game_tests : Terms → (plan : List ℕ) → (planner rival goal : ℕ) → List Bool
game_tests T plan planner rival goal =
    ltb T.members 9
    ∷ ltb T.events 5
    ∷ (eqb (length plan) 2 || (eqb (length plan) 4 || eqb (length plan) 6))
    ∷ not (eqb planner rival)
    ∷ ltb goal T.entries
    ∷ only_free 0 (formula T goal)
    ∷ []

-- Check 9: planner, rival, the pair and the plan name members and events.
abbrev pub known_tests : Terms → (plan : List ℕ) → (planner rival u v : ℕ) → List Bool
known_tests T plan planner rival u v =
    ltb planner T.members
    ∷ ltb rival T.members
    ∷ ltb u T.members
    ∷ ltb v T.members
    ∷ all_below (moves plan) (λ k. ltb (get_or plan (2 * k) 0) T.events && ltb (get_or plan (2 * k + 1) 0) T.members)
    ∷ []

-- The words of scratch that a plan is lent: three states, and the scratch of a request.
abbrev pub game_words : ℕ
game_words = 9283

-- ---- the same game, played by the keeper over its book

-- What a request makes of the keeper's list; terms and starts stay.
abbrev pub keeper_step : Terms → Starts → List Moment → (j u v : ℕ) → List Moment
keeper_step T s Ms j u v = (keep T s Ms (record { look = false; event = j; from = u; to = v; scratch = scratch_words })).1

abbrev pub keeper_accepts : Book → (plan : List ℕ) → (planner rival goal u v : ℕ) → Bool
keeper_accepts B plan planner rival goal u v =
    wins (keeper_step B.terms B.start) (λ Ms. keeper_holds B.terms B.start Ms goal (target v) u) B.terms planner rival (moves_of plan) B.moments

-- What the keeper rules, fed the plan and the number of scratch words. Each past-time entry is judged from its own
-- start.
unfoldable pub keeper_rules : Book → (scratch : ℕ) → (plan : List ℕ) → (planner rival goal u v : ℕ) → Ruling
keeper_rules B scratch plan planner rival goal u v =
    cond (ltb scratch game_words) (refuse 6 0)
    (cond (not (every (game_tests B.terms plan planner rival goal))) (refuse 14 0)
    (cond (not (every (known_tests B.terms plan planner rival u v))) (refuse 9 0)
    (cond (keeper_accepts B plan planner rival goal u v) accept reject)))
