-- The ways through what `forced` gives: one law for each, and what a plan that passes check 14 is.
use Prim.Native.Nat.{ℕ, ◌≤◌, ◌<◌}
use native.Mathlib.Omega.{arith}
use mathlib.Core.Path.{◌≡◌, refl, sym, ap, ◌∙◌}
use mathlib.Core.Bool.{Bool, true, false, cond, not, ◌&&◌, ◌||◌, true≢false}
use mathlib.Core.List.{List, ◌++◌}
use lib.Dec.{eqb, ltb}
use lib.ListN.{length, get_or, take, drop, replicate, length-replicate}
use borrow.Author.Tests.{lt-ltb, le-ltb, ltb-true, eqb-true}
use borrow.Rule.Slice.PartMut.{put_mid}
use Rattle.sets.proofs.Finite.{or_right, and-true}
use Rattle.theory.specs.Terms.{Terms, formula}
use Rattle.theory.specs.Fit.{every, only_free}
use Rattle.memory.specs.Layout.{terms_words, state_words, terms_of}
use Rattle.memory.specs.Checks.{good_memory, good_state}
use Rattle.memory.specs.Outcome.{has_passed, askable, entry_checks}
use Rattle.memory.specs.Outcome.Outcome.{passed, refused}
use Rattle.plans.specs.Game.{Ruling, game_tests, known_tests, game_words}
use Rattle.plans.specs.Plans.{accepted, ruling, scratch_after_ruling}
use Rattle.plans.specs.Game.Ruling.{accept, reject, refuse}
use Rattle.plans.specs.private.Playing.{Playable}
use Rattle.theory.proofs.Unfolding.{or_cases}
use Rattle.theory.proofs.Good.{every_at}
use Rattle.memory.proofs.Outcomes.{Checked}
use Rattle.deciding.proofs.Stored.{put_back}

-- Check 14 is that of the game and that of the goal.
pub game_parts : (T : Terms) (plan : List ℕ) (planner rival goal : ℕ) →
    every (game_tests T plan planner rival goal) ≡ every (take 4 (game_tests T plan planner rival 0)) && askable T goal
unfolding every
game_parts T plan planner rival goal =
    go (ltb T.members 9) (ltb T.events 5) (eqb (length plan) 2 || (eqb (length plan) 4 || eqb (length plan) 6)) (not (eqb planner rival))
    (ltb goal T.entries) (only_free 0 (formula T goal))
  where
    go : (a b c d e f : Bool) → (a && (b && (c && (d && (e && (f && true)))))) ≡ (a && (b && (c && (d && true)))) && (e && f)
    go true true true true e f = ap (◌&&◌ e) (and-true f)
    go true true true false e f = refl
    go true true false d e f = refl
    go true false c d e f = refl
    go false b c d e f = refl

module _ (terms state scratch plan : List ℕ) (planner rival goal u v : ℕ) where
  abbrev Given : Ruling
  Given = ruling terms state scratch plan planner rival goal u v

  pub refusal_leaves : (n l : ℕ) → refuse n l ≡ Given → (refuse n l ≡ Given) × (scratch ≡ scratch_after_ruling scratch Given)
  unfolding scratch_after_ruling
  refusal_leaves n l e = (e, ap (scratch_after_ruling scratch) e)

  pub verdict_leaves : (d : Bool) → cond d accept reject ≡ Given → (zs : List ℕ) → zs ≡ replicate game_words 0 →
      (cond d accept reject ≡ Given) × (put_mid 0 game_words scratch zs ≡ scratch_after_ruling scratch Given)
  unfolding scratch_after_ruling
  verdict_leaves d e zs z =
      (e, cleared ∙ sym (verdict d) ∙ ap (scratch_after_ruling scratch) e)
    where
      blank : List ℕ
      blank = replicate game_words 0

      size : length blank ≡ game_words
      size = length-replicate {A = ℕ} game_words 0

      cleared : put_mid 0 game_words scratch zs ≡ blank ++ drop game_words scratch
      cleared =
          put_back 0 game_words scratch zs blank z (omega (arith, size))
          ∙ ap (λ n. blank ++ drop n scratch) size

      verdict : (d : Bool) → scratch_after_ruling scratch (cond d accept reject) ≡ blank ++ drop game_words scratch
      verdict true = refl
      verdict false = refl

  pub short_game : length scratch < game_words → refuse 6 0 ≡ Given
  unfolding ruling
  short_game l = rw (or_right (ltb (length terms) terms_words) (ltb (length state) state_words || ltb (length scratch) game_words)
      (or_right (ltb (length state) state_words) (ltb (length scratch) game_words) (lt-ltb (length scratch) game_words l)))

  module _ (ls : game_words ≤ length scratch) where
    -- What fails a check of terms, state and goal fails a plan.
    pub unchecked_game : (n l : ℕ) → refused n l ≡ entry_checks terms state goal → refuse n l ≡ Given
    unfolding ruling entry_checks
    unchecked_game n l e =
        go (ltb (length terms) terms_words) (ltb (length state) state_words) (ltb (length scratch) game_words) (le-ltb (length scratch) game_words ls)
        (good_memory terms) (good_state (terms_of terms) state) (every (take 4 (game_tests (terms_of terms) plan planner rival 0))) (askable (terms_of terms) goal)
        (every (game_tests (terms_of terms) plan planner rival goal)) (game_parts (terms_of terms) plan planner rival goal) e
      where
        rest : Ruling
        rest =
            cond (not (every (known_tests (terms_of terms) plan planner rival u v))) (refuse 9 0)
            (cond (accepted terms state plan planner rival goal u v) accept reject)

        go : (a b c : Bool) → c ≡ false → (g s q r t : Bool) → t ≡ q && r →
            refused n l ≡ cond (a || b) (refused 6 0) (cond (not g) (refused 7 0) (cond (not s) (refused 8 0) (cond (not r) (refused 14 0) passed))) →
            refuse n l ≡ cond (a || (b || c)) (refuse 6 0) (cond (not g) (refuse 7 0) (cond (not s) (refuse 8 0) (cond (not t) (refuse 14 0) rest)))
        go true b c z g s q r t p e = cc
        go false true c z g s q r t p e = cc
        go false false true z g s q r t p e = absurd (true≢false z)
        go false false false z false s q r t p e = cc
        go false false false z true false q r t p e = cc
        go false false false z true true q true t p e = absurd (true≢false (sym (ap has_passed e)))
        go false false false z true true true false t p e = rw p cc
        go false false false z true true false false t p e = rw p cc

    module _ (c : Checked terms state) (a : askable (terms_of terms) goal ≡ true) where
      passes_game : every (take 4 (game_tests (terms_of terms) plan planner rival 0)) ≡ every (game_tests (terms_of terms) plan planner rival goal)
      passes_game = sym (game_parts (terms_of terms) plan planner rival goal ∙ rw a (and-true (every (take 4 (game_tests (terms_of terms) plan planner rival 0)))))

      pub no_game : every (take 4 (game_tests (terms_of terms) plan planner rival 0)) ≡ false → refuse 14 0 ≡ Given
      unfolding ruling
      no_game e =
          rw (
            le-ltb (length terms) terms_words c.long_terms,
            le-ltb (length state) state_words c.long_state,
            le-ltb (length scratch) game_words ls,
            c.good_terms,
            c.good-state,
            sym passes_game ∙ e,
          )

      module _ (g : every (take 4 (game_tests (terms_of terms) plan planner rival 0)) ≡ true) where
        pub unknown_game : every (known_tests (terms_of terms) plan planner rival u v) ≡ false → refuse 9 0 ≡ Given
        unfolding ruling
        unknown_game e =
            rw (
              le-ltb (length terms) terms_words c.long_terms,
              le-ltb (length state) state_words c.long_state,
              le-ltb (length scratch) game_words ls,
              c.good_terms,
              c.good-state,
              sym passes_game ∙ g,
              e,
            )

        pub judged_game : every (known_tests (terms_of terms) plan planner rival u v) ≡ true → (d : Bool) →
            d ≡ accepted terms state plan planner rival goal u v → cond d accept reject ≡ Given
        unfolding ruling
        judged_game k d e =
            ap (λ (x : Bool). cond x accept reject) e
            ∙ rw (
              le-ltb (length terms) terms_words c.long_terms,
              le-ltb (length state) state_words c.long_state,
              le-ltb (length scratch) game_words ls,
              c.good_terms,
              c.good-state,
              sym passes_game ∙ g,
              k,
            )

-- What check 14 says of terms and plan.
pub playable : (terms plan : List ℕ) (planner rival goal u v : ℕ) → every (take 4 (game_tests (terms_of terms) plan planner rival 0)) ≡ true →
    Playable terms plan planner rival goal u v
playable terms plan planner rival goal u v g = record {
  few_members = ltb-true T.members 9 (game 0);
  few_events = ltb-true T.events 5 (game 1);
  few_moves = (let h = size in omega arith);
  some_move = (let h = size in omega arith);
}
  where
    T : Terms
    T = terms_of terms

    game : (i : ℕ) → get_or (take 4 (game_tests T plan planner rival 0)) i true ≡ true
    game = every_at (take 4 (game_tests T plan planner rival 0)) g

    size : (1 < length plan) × (length plan < 7)
    size =
        or_cases (eqb (length plan) 2) (eqb (length plan) 4 || eqb (length plan) 6) (game 2)
        (λ e. let h : length plan ≡ 2 = eqb-true (length plan) 2 e in (omega arith, omega arith))
        (λ e. or_cases (eqb (length plan) 4) (eqb (length plan) 6) e
        (λ e. let h : length plan ≡ 4 = eqb-true (length plan) 4 e in (omega arith, omega arith))
        (λ e. let h : length plan ≡ 6 = eqb-true (length plan) 6 e in (omega arith, omega arith)))
