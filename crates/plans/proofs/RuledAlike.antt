-- Terms that agree where they count: the keeper rules the same by both.
use Prim.Native.Nat.{ℕ, ◌<◌}
use mathlib.Core.Path.{◌≡◌, refl, sym, ap, ap₂, ◌∙◌}
use mathlib.Core.List.{List, [], ◌∷◌}
use mathlib.Core.Bool.{Bool, true, false, cond, not, ◌&&◌, ◌||◌}
use lib.Dec.{ltb}
use lib.ListN.{take}
use borrow.Author.Tests.{ltb-true}
use Rattle.sets.proofs.Finite.{and_left, and_right, and_under, all_cong}
use Rattle.theory.specs.Formula.{Formula}
use Rattle.theory.specs.Meaning.{Starts, holds}
use Rattle.theory.specs.Terms.{Terms, Alike}
use Rattle.theory.specs.Fit.{every, only_free, Good}
use Rattle.theory.specs.Limits.{scratch_words}
use Rattle.theory.specs.Moment.{Moment}
use Rattle.theory.specs.Keeper.{Book, Call, Answer, record_of, last, target, keeper_holds, keep_all}
use Rattle.memory.specs.Outcome.{askable}
use Rattle.plans.specs.Game.{Move, wins, moves_of, game_tests, known_tests, game_words, keeper_step, keeper_accepts, keeper_rules}
use Rattle.plans.specs.Game.Ruling.{accept, reject, refuse}
use Rattle.theory.proofs.AlikeTerms.{met, met-is, same_formula, keep_all_alike}
use Rattle.plans.proofs.Rulings.{game_parts}
use Rattle.plans.proofs.Rivals.{wins_same}

module _ (T U : Terms) (a : Alike T U) (g : Good T) (s : Starts) where
  abbrev W : Terms
  W = met T U

  abbrev book : Terms → List Moment → Book
  book X Ms = record { terms = X; start = s; moments = Ms }

  step_met : (Ms : List Moment) (j u v : ℕ) → keeper_step T s Ms j u v ≡ keeper_step W s Ms j u v
  unfolding keep_all
  step_met Ms j u v =
      let c : Call = record { look = false; event = j; from = u; to = v; scratch = scratch_words } in
      ap (λ (x : List Answer × List Moment). x.1) (keep_all_alike T U a g s Ms (c ∷ []))
      ∙ sym (ap (λ X. (keep_all X s Ms (c ∷ [])).1) (met-is T U a))

  holds_met : (Ms : List Moment) (n u v : ℕ) → n < T.entries → keeper_holds T s Ms n (target v) u ≡ keeper_holds W s Ms n (target v) u
  holds_met Ms n u v l = ap (λ (f : Formula). holds T.members s (record_of T Ms) f (last Ms) (target v) u) (same_formula T U a n l)

  -- The game goes by the numbers of events and members only.
  wins_met : {S : Type 0} (step : S → (j u v : ℕ) → S) (reached : S → Bool) (planner rival : ℕ) (ms : List Move) (x : S) →
      wins step reached T planner rival ms x ≡ wins step reached W planner rival ms x
  unfolding wins
  wins_met step reached planner rival [] x = refl
  wins_met step reached planner rival (m ∷ ms) x =
      ap (◌||◌ (reached (step x m.event planner m.target)))
      (ap₂ ◌&&◌ (wins_met step reached planner rival ms (step x m.event planner m.target))
      (all_cong T.events (λ j jl. all_cong T.members (λ v vl.
      wins_met step reached planner rival ms (step (step x m.event planner m.target) j rival v)))))

  accepts_met : (Ms : List Moment) (plan : List ℕ) (planner rival goal u v : ℕ) → goal < T.entries →
      keeper_accepts (book T Ms) plan planner rival goal u v ≡ keeper_accepts (book W Ms) plan planner rival goal u v
  accepts_met Ms plan planner rival goal u v l =
      wins_same (keeper_step T s) (λ Ns. keeper_holds T s Ns goal (target v) u) (keeper_step W s) (λ Ns. keeper_holds W s Ns goal (target v) u) T planner rival
      (λ Ns Os. Ns ≡ Os) (λ Ns Os e j x y. ap (λ Ps. keeper_step T s Ps j x y) e ∙ step_met Os j x y)
      (λ Ns Os e. ap (λ Ps. keeper_holds T s Ps goal (target v) u) e ∙ holds_met Os goal u v l) (moves_of plan) Ms Ms refl
      ∙ wins_met (keeper_step W s) (λ Ns. keeper_holds W s Ns goal (target v) u) planner rival (moves_of plan) Ms

  tests_met : (plan : List ℕ) (planner rival goal : ℕ) → every (game_tests T plan planner rival goal) ≡ every (game_tests W plan planner rival goal)
  tests_met plan planner rival goal =
      game_parts T plan planner rival goal
      ∙ ap (◌&&◌ (every (take 4 (game_tests T plan planner rival 0))))
      (and_under (ltb goal T.entries) _ _ (λ e. ap (only_free 0) (same_formula T U a goal (ltb-true goal T.entries e))))
      ∙ sym (game_parts W plan planner rival goal)

  rules_met : (Ms : List Moment) (n : ℕ) (plan : List ℕ) (planner rival goal u v : ℕ) →
      keeper_rules (book T Ms) n plan planner rival goal u v ≡ keeper_rules (book W Ms) n plan planner rival goal u v
  unfolding keeper_rules
  rules_met Ms n plan planner rival goal u v =
      ap (cond (ltb n game_words) (refuse 6 0))
      (go (every (game_tests T plan planner rival goal)) (every (game_tests W plan planner rival goal)) (tests_met plan planner rival goal)
      (λ e. accepts_met Ms plan planner rival goal u v (ltb-true goal T.entries (goal_exists e))))
    where
      goal_exists : every (game_tests T plan planner rival goal) ≡ true → ltb goal T.entries ≡ true
      goal_exists e =
          let q : askable T goal ≡ true = and_right (every (take 4 (game_tests T plan planner rival 0))) _ (sym (game_parts T plan planner rival goal) ∙ e) in
          and_left (ltb goal T.entries) _ q

      k : Bool
      k = every (known_tests T plan planner rival u v)

      go : {p q : Bool} (x y : Bool) → x ≡ y → (x ≡ true → p ≡ q) →
          cond (not x) (refuse 14 0) (cond (not k) (refuse 9 0) (cond p accept reject))
          ≡ cond (not y) (refuse 14 0) (cond (not k) (refuse 9 0) (cond q accept reject))
      go true y e h = λ d. cond (not (e d)) (refuse 14 0) (cond (not k) (refuse 9 0) (cond (h refl d) accept reject))
      go {p} {q} false y e h = ap (λ (z : Bool). cond (not z) (refuse 14 0) (cond (not k) (refuse 9 0) (cond q accept reject))) e

  pub rules_alike : (Ms : List Moment) (n : ℕ) (plan : List ℕ) (planner rival goal u v : ℕ) →
      keeper_rules (book T Ms) n plan planner rival goal u v ≡ keeper_rules (book U Ms) n plan planner rival goal u v
  rules_alike Ms n plan planner rival goal u v =
      rules_met Ms n plan planner rival goal u v ∙ ap (λ X. keeper_rules (book X Ms) n plan planner rival goal u v) (met-is T U a)
