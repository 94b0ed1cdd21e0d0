-- The tests of 14 and 9, and the reasons of which they are made: a test fails exactly where a reason fits.
use Prim.Native.Nat.{ℕ, zero, suc, ◌+◌, ◌*◌, ◌<◌}
use native.Mathlib.Omega.{arith}
use mathlib.Core.Path.{◌≡◌, refl, sym, ◌∙◌}
use mathlib.Core.List.{List}
use mathlib.Core.Bool.{Bool, true, false, not, ◌&&◌, ◌||◌, true≢false, and-false}
use lib.Dec.{eqb, ltb}
use lib.ListN.{length, get_or}
use borrow.Author.Tests.{le-ltb, ltb-true, ltb-false, eq-eqb, ne_eqb, eqb-true}
use Rattle.sets.specs.Sets.{all_below}
use Rattle.sets.proofs.Finite.{or_left, or_right, not_both, is_false, all_out}
use Rattle.theory.specs.Terms.{Terms, formula}
use Rattle.theory.specs.Fit.{every, only_free}
use Rattle.memory.specs.Outcome.{askable}
use Rattle.plans.specs.Game.{moves, game_tests, known_tests}
use Rattle.plans.specs.Refused.{Unasked, NoGame, Unknown}
use Rattle.plans.specs.Refused.Unasked.{no-entry, free_variable}
use Rattle.plans.specs.Refused.NoGame.{many_members, many_events, other_length, one_side, no_goal}
use Rattle.plans.specs.Refused.Unknown.{no_planner, no_rival, no_first, no_second, no_event, no_target}
use Rattle.plans.proofs.Rulings.{game_parts}

module _ (T : Terms) (n : ℕ) where
  pub why_unasked : askable T n ≡ false → Unasked T n
  why_unasked e = go (ltb n T.entries) refl (only_free 0 (formula T n)) refl e
    where
      go : (a : Bool) → ltb n T.entries ≡ a → (b : Bool) → only_free 0 (formula T n) ≡ b → (a && b) ≡ false → Unasked T n
      go false a b _ e = no-entry (ltb-false n T.entries a)
      go true a false b e = free_variable (ltb-true n T.entries a) b
      go true a true b e = absurd (true≢false e)

  pub is_unasked : Unasked T n → askable T n ≡ false
  is_unasked (no-entry h) = rw (le-ltb n T.entries h)
  is_unasked (free_variable h f) = rw f (simp and-false)

module _ (T : Terms) (plan : List ℕ) (planner rival goal : ℕ) where
  abbrev two : Bool
  two = eqb (length plan) 2

  abbrev four : Bool
  four = eqb (length plan) 4

  abbrev six : Bool
  six = eqb (length plan) 6

  abbrev sized : Bool
  sized = two || (four || six)

  other : sized ≡ false → (n : ℕ) → (eqb (length plan) n ≡ true → sized ≡ true) → ¬ (length plan ≡ n)
  other e n h z = not_both sized (h (eq-eqb (length plan) n z)) e

  pub why_no_game : every (game_tests T plan planner rival goal) ≡ false → NoGame T plan planner rival goal
  unfolding every
  why_no_game e =
      go (ltb T.members 9) refl (ltb T.events 5) refl sized refl (eqb planner rival) refl (askable T goal) refl
      (sym (game_parts T plan planner rival goal) ∙ e)
    where
      go : (a : Bool) → ltb T.members 9 ≡ a → (b : Bool) → ltb T.events 5 ≡ b → (c : Bool) → sized ≡ c →
          (d : Bool) → eqb planner rival ≡ d → (g : Bool) → askable T goal ≡ g →
          ((a && (b && (c && (not d && true)))) && g) ≡ false → NoGame T plan planner rival goal
      go false a _ _ _ _ _ _ _ _ e = many_members (let h = ltb-false T.members 9 a in omega arith)
      go true _ false b _ _ _ _ _ _ e = many_events (let h = ltb-false T.events 5 b in omega arith)
      go true _ true _ false c _ _ _ _ e =
          other_length (other c 2 (λ q. or_left two (four || six) q)) (other c 4 (λ q. or_right two (four || six) (or_left four six q)))
          (other c 6 (λ q. or_right two (four || six) (or_right four six q)))
      go true _ true _ true _ true d _ _ e = one_side (eqb-true planner rival d)
      go true _ true _ true _ false _ false g e = no_goal (why_unasked T goal g)
      go true _ true _ true _ false _ true g e = absurd (true≢false e)

  pub is_no_game : NoGame T plan planner rival goal → every (game_tests T plan planner rival goal) ≡ false
  unfolding every
  is_no_game (many_members h) = rw (le-ltb T.members 9 (omega arith))
  is_no_game (many_events h) = rw (le-ltb T.events 5 (omega arith)) (simp and-false)
  is_no_game (other_length h i j) =
      rw (ne_eqb (length plan) 2 h, ne_eqb (length plan) 4 i, ne_eqb (length plan) 6 j) (simp and-false)
  is_no_game (one_side h) = rw (eq-eqb planner rival h) (simp and-false)
  is_no_game (no_goal h) = game_parts T plan planner rival goal ∙ rw (is_unasked T goal h) (simp and-false)

  -- Where there is no reason against it, there is a game.
  pub is_game : ¬ NoGame T plan planner rival goal → every (game_tests T plan planner rival goal) ≡ true
  is_game h = go (every (game_tests T plan planner rival goal)) refl
    where
      go : (c : Bool) → every (game_tests T plan planner rival goal) ≡ c → every (game_tests T plan planner rival goal) ≡ true
      go true e = e
      go false e = absurd (h (why_no_game e))

-- Some request of the plan fails its test.
some_fails : (n : ℕ) (p : ℕ → Bool) → all_below n p ≡ false → (k : ℕ) × (k < n) × (p k ≡ false)
unfolding all_below
some_fails zero p e = absurd (true≢false e)
some_fails (suc n) p e = go (p n) refl e (some_fails n p)
  where
    go : (c : Bool) → p n ≡ c → (c && all_below n p) ≡ false → (all_below n p ≡ false → (k : ℕ) × (k < n) × (p k ≡ false)) →
        (k : ℕ) × (k < suc n) × (p k ≡ false)
    go false q e later = (n, omega arith, q)
    go true q e later = let r = later e in (r.0, omega (arith, r.1), r.2)

module _ (T : Terms) (plan : List ℕ) (planner rival u v : ℕ) where
  abbrev move : ℕ → Bool
  move k = ltb (get_or plan (2 * k) 0) T.events && ltb (get_or plan (2 * k + 1) 0) T.members

  pub why_unknown : every (known_tests T plan planner rival u v) ≡ false → Unknown T plan planner rival u v
  unfolding every
  why_unknown e =
      go (ltb planner T.members) refl (ltb rival T.members) refl (ltb u T.members) refl (ltb v T.members) refl
      (all_below (moves plan) move) refl e
    where
      of_move : (k : ℕ) → k < moves plan → (a : Bool) → ltb (get_or plan (2 * k) 0) T.events ≡ a →
          (b : Bool) → ltb (get_or plan (2 * k + 1) 0) T.members ≡ b → (a && b) ≡ false → Unknown T plan planner rival u v
      of_move k kl false a b _ e = no_event k kl (ltb-false (get_or plan (2 * k) 0) T.events a)
      of_move k kl true _ false b e = no_target k kl (ltb-false (get_or plan (2 * k + 1) 0) T.members b)
      of_move k kl true _ true _ e = absurd (true≢false e)

      go : (a : Bool) → ltb planner T.members ≡ a → (b : Bool) → ltb rival T.members ≡ b →
          (c : Bool) → ltb u T.members ≡ c → (d : Bool) → ltb v T.members ≡ d →
          (f : Bool) → all_below (moves plan) move ≡ f → (a && (b && (c && (d && (f && true))))) ≡ false →
          Unknown T plan planner rival u v
      go false a _ _ _ _ _ _ _ _ e = no_planner (ltb-false planner T.members a)
      go true _ false b _ _ _ _ _ _ e = no_rival (ltb-false rival T.members b)
      go true _ true _ false c _ _ _ _ e = no_first (ltb-false u T.members c)
      go true _ true _ true _ false d _ _ e = no_second (ltb-false v T.members d)
      go true _ true _ true _ true _ false f e =
          let r = some_fails (moves plan) move f in
          of_move r.0 r.1 (ltb (get_or plan (2 * r.0) 0) T.events) refl
          (ltb (get_or plan (2 * r.0 + 1) 0) T.members) refl r.2
      go true _ true _ true _ true _ true _ e = absurd (true≢false e)

  unmoved : (k : ℕ) → k < moves plan → move k ≡ false → all_below (moves plan) move ≡ false
  unmoved k kl e = is_false (all_below (moves plan) move) (λ a. not_both (move k) (all_out (moves plan) move a k kl) e)

  pub is_unknown : Unknown T plan planner rival u v → every (known_tests T plan planner rival u v) ≡ false
  unfolding every
  is_unknown (no_planner h) = rw (le-ltb planner T.members h)
  is_unknown (no_rival h) = rw (le-ltb rival T.members h) (simp and-false)
  is_unknown (no_first h) = rw (le-ltb u T.members h) (simp and-false)
  is_unknown (no_second h) = rw (le-ltb v T.members h) (simp and-false)
  is_unknown (no_event k kl h) =
      let q : all_below (moves plan) move ≡ false = unmoved k kl (rw (le-ltb (get_or plan (2 * k) 0) T.events h)) in
      rw q (simp and-false)
  is_unknown (no_target k kl h) =
      let q : all_below (moves plan) move ≡ false =
      unmoved k kl (rw (le-ltb (get_or plan (2 * k + 1) 0) T.members h) (simp and-false)) in
      rw q (simp and-false)
