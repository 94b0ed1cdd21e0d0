-- What `forced` gives and leaves, for every lent memory. `demand_3_plans` holds it against the keeper.
use Rattle.std.specs.Prelude.{ℕ, Bool, true, false, cond, not, ◌||◌, List, ◌++◌, ltb, length, take, drop, replicate, Result, Ok, Err}
use Rattle.theory.specs.Fit.{every}
use Rattle.theory.specs.Limits.{scratch_words}
use Rattle.memory.specs.Layout.{terms_words, state_words, terms_of}
use Rattle.memory.specs.Checks.{good_memory, good_state}
use Rattle.calls.specs.Monitor.{state_after}
use Rattle.calls.specs.Telling.{affirms, tells}
use Rattle.plans.specs.Game.{wins, moves_of, Ruling, game_tests, known_tests, game_words}
use Rattle.plans.specs.Game.Ruling.{accept, reject, refuse}
use Rattle.memory.specs.declared.refusal.Refusal.{Refusal}
use Rattle.memory.specs.Refusal.{refusal_number, refusal_line}

-- ---- the monitor's game: on the named words of a state, by what a request leaves and by what is told of the goal

-- What a request leaves of a state, where the scratch that it needs is lent.
abbrev pub stepped : (terms state : List ℕ) → (j u v : ℕ) → List ℕ
stepped terms state j u v = state_after terms state (replicate scratch_words 0) j u v

-- The goal is told to hold.
abbrev pub reached_in : (terms : List ℕ) → (goal u v : ℕ) → List ℕ → Bool
reached_in terms goal u v w = affirms (tells terms w goal u v)

unfoldable pub accepted : (terms state plan : List ℕ) → (planner rival goal u v : ℕ) → Bool
accepted terms state plan planner rival goal u v =
    wins (stepped terms) (reached_in terms goal u v) (terms_of terms) planner rival (moves_of plan) (take state_words state)

-- ---- what `forced` gives and leaves

abbrev pub ruling_of : Result Bool Refusal → Ruling
ruling_of (Ok true) = accept
ruling_of (Ok false) = reject
ruling_of (Err r) = refuse (refusal_number r) (refusal_line r)

-- Lengths of terms, state and scratch (6), terms (7), state (8), the game (14), its numbers (9), else the verdict.
unfoldable pub ruling : (terms state scratch plan : List ℕ) → (planner rival goal u v : ℕ) → Ruling
ruling terms state scratch plan planner rival goal u v =
    cond (ltb (length terms) terms_words || (ltb (length state) state_words || ltb (length scratch) game_words)) (refuse 6 0)
    (cond (not (good_memory terms)) (refuse 7 0)
    (cond (not (good_state (terms_of terms) state)) (refuse 8 0)
    (cond (not (every (game_tests (terms_of terms) plan planner rival goal))) (refuse 14 0)
    (cond (not (every (known_tests (terms_of terms) plan planner rival u v))) (refuse 9 0)
    (cond (accepted terms state plan planner rival goal u v) accept reject)))))

abbrev pub is_verdict : Ruling → Bool
is_verdict accept = true
is_verdict reject = true
is_verdict (refuse n l) = false

-- A verdict leaves the named words of scratch 0; a refusal leaves scratch as lent.
unfoldable pub scratch_after_ruling : (scratch : List ℕ) → Ruling → List ℕ
scratch_after_ruling scratch r = cond (is_verdict r) (replicate game_words 0 ++ drop game_words scratch) scratch
