-- Plans worked out by the keeper.
use native.Mathlib.Decide.{ℕ_discrete}
use mathlib.Core.Path.{◌≡◌, refl}
use mathlib.Core.List.{[], ◌∷◌}
use mathlib.Core.Bool.{Bool, true, false, cond, ◌&&◌}
use lib.Dec.{eqb}
use lib.ListN.{get_or}
use Rattle.sets.specs.Sets.{any_below, all_below}
use Rattle.theory.specs.Formula.{node, number, below, spelled, renumbered, same, free, lowest, highest}
use Rattle.theory.specs.Meaning.{holds}
use Rattle.theory.specs.Terms.{Terms, first_same}
use Rattle.theory.specs.Fit.{every, only_free}
use Rattle.theory.specs.Moment.{affect_all}
use Rattle.theory.specs.Limits.{least_terms, least_state}
use Rattle.theory.specs.Keeper.{Book, first_book, judge, keep, keep_step, keep_steps}
use Rattle.theory.specs.Keeper.Step.{call, revise}
use Rattle.theory.specs.Cases.{line, requests}
use Rattle.plans.specs.Game.{wins, moves_from, game_words, keeper_rules}
use Rattle.plans.specs.Game.Ruling.{accept, reject, refuse}

-- Three members, one relation, two events: 0 takes the target, where nobody has taken it; 1 does nothing and is always
-- granted. Entry 5 says that one has it.
unfoldable pub taking : Terms
taking = record {
  members = 3;
  relations = 1;
  events = 2;
  entries = 6;
  entry = λ n. get_or (line 0 0 0 ∷ line 5 0 0 ∷ line 2 1 0 ∷ line 9 0 2 ∷ line 1 0 0 ∷ line 4 0 4 ∷ []) n (line 0 0 0);
  policy = λ j. cond (eqb j 0) 3 0;
  effects = λ j. cond (eqb j 0) (record { adds = true; relation = 0; back = false } ∷ []) [];
  kept = λ j. false;
}

unfoldable pub fresh : Book
fresh = first_book taking (λ k a b. false)

-- Can 1 keep 0 from 2? Not if 0 takes it first, whatever the plan says after that; but where 0 does something else
-- first, 1 takes it between.
pub plan_cases : (keeper_rules fresh game_words (0 ∷ 2 ∷ []) 0 1 5 0 2 ≡ accept)
    × (keeper_rules fresh game_words (1 ∷ 0 ∷ 0 ∷ 2 ∷ []) 0 1 5 0 2 ≡ reject)
    × (keeper_rules fresh game_words (1 ∷ 0 ∷ 1 ∷ 0 ∷ 0 ∷ 2 ∷ []) 0 1 5 0 2 ≡ reject)
    × (keeper_rules fresh game_words (0 ∷ 2 ∷ 0 ∷ 2 ∷ 0 ∷ 2 ∷ []) 0 1 5 0 2 ≡ accept)
    × (keeper_rules fresh game_words (0 ∷ 2 ∷ 0 ∷ []) 0 1 5 0 2 ≡ refuse 14 0)
    × (keeper_rules fresh game_words (0 ∷ 2 ∷ []) 0 0 5 0 2 ≡ refuse 14 0)
    × (keeper_rules fresh game_words (0 ∷ 2 ∷ []) 0 1 6 0 2 ≡ refuse 14 0)
    × (keeper_rules fresh game_words (0 ∷ 3 ∷ []) 0 1 5 0 2 ≡ refuse 9 0)
    × (keeper_rules fresh 9282 (0 ∷ 3 ∷ []) 0 1 5 0 2 ≡ refuse 6 0)
unfolding taking fresh keeper_rules wins moves_from judge keep holds spelled below node number every only_free all_below any_below free affect_all
plan_cases = (refl, refl, refl, refl, refl, refl, refl, refl, refl)

-- Event 0 is never granted; its denied requests are kept, or not. Event 1 is granted to whoever has an edge: member 0.
-- Entry 5 says that the moment before this one was the planner's request of event 1; entry 7 that this one is its
-- denied request of event 0.
unfoldable pub denying : (k : Bool) → Terms
denying k = record {
  members = 3;
  relations = 1;
  events = 2;
  entries = 8;
  entry = λ n. get_or (line 0 0 0 ∷ line 2 0 0 ∷ line 1 0 0 ∷ line 4 0 0 ∷ line 4 2 2 ∷ line 6 4 0 ∷ line 0 0 0 ∷ line 4 3 2 ∷ []) n (line 0 0 0);
  policy = λ j. cond (eqb j 0) 1 3;
  effects = λ j. [];
  kept = λ j. k && eqb j 0;
}

unfoldable pub owner : (k : Bool) → Book
owner k = first_book (denying k) (λ k a b. eqb k 0 && (eqb a 0 && eqb b 0))

-- A denied move has the effect of any denied request. Where it is kept, the rival's denied request between makes a
-- moment, and the planner's own does.
pub denied_moves : (keeper_rules (owner false) game_words (1 ∷ 0 ∷ 1 ∷ 0 ∷ []) 0 1 5 0 0 ≡ accept)
    × (keeper_rules (owner true) game_words (1 ∷ 0 ∷ 1 ∷ 0 ∷ []) 0 1 5 0 0 ≡ reject)
    × (keeper_rules (owner false) game_words (0 ∷ 2 ∷ []) 0 1 7 0 2 ≡ reject)
    × (keeper_rules (owner true) game_words (0 ∷ 2 ∷ []) 0 1 7 0 2 ≡ accept)
unfolding denying owner keeper_rules wins moves_from judge keep holds spelled below node number every only_free all_below any_below free affect_all
denied_moves = (refl, refl, refl, refl)

-- Event 0 takes the edge away. Entry 2, which the terms have or have not, says that one had an edge at some time.
unfoldable pub remembering : (has : Bool) → Terms
remembering has = record {
  members = 2;
  relations = 1;
  events = 1;
  entries = cond has 3 2;
  entry = λ n. get_or (line 0 0 0 ∷ line 4 0 0 ∷ line 7 0 1 ∷ []) n (line 0 0 0);
  policy = λ j. 0;
  effects = λ j. record { adds = false; relation = 0; back = false } ∷ [];
  kept = λ j. false;
}

-- What the keeper holds after the edge was taken away and terms with entry 2 were brought in.
unfoldable pub later : (had : Bool) → Book
later had =
    (keep_steps (first_book (remembering had) (λ k a b. eqb k 0 && (eqb a 0 && eqb b 1)))
    (call (requests 0 0 1) ∷ revise (record { words = least_terms; state = least_state; sound = true; terms = remembering true }) ∷ [])).1

-- The game is played from the starts of the book: where entry 2 was there from the first it remembers the edge; where
-- it is new it does not.
pub plans_after_new_terms : (keeper_rules (later true) game_words (0 ∷ 1 ∷ []) 0 1 2 0 0 ≡ accept) × (keeper_rules (later false) game_words (0 ∷ 1 ∷ []) 0 1 2 0 0 ≡ reject)
unfolding remembering later keep_steps keep_step keeper_rules wins moves_from judge keep holds spelled below node number every only_free all_below any_below free affect_all highest first_same same renumbered lowest ℕ_discrete
plans_after_new_terms = (refl, refl)
