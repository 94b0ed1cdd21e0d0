-- Small runs with new terms, computed of the keeper and of the tables: they fail where a
-- definition that both share is wrong.
use Prim.Native.Nat.{ℕ}
use native.Mathlib.Decide.{ℕ_discrete}
use mathlib.Core.Path.{◌≡◌, refl}
use mathlib.Core.Bool.{true, false, cond, not, ◌&&◌}
use mathlib.Core.List.{List, [], ◌∷◌}
use lib.ListN.{get_or, length}
use Rattle.sets.specs.Sets.{any_below, all_below}
use Rattle.theory.specs.Formula.{Entry, node, number, below, spelled, renumbered, same, free, lowest, those, highest}
use Rattle.theory.specs.Meaning.{holds, from_first}
use Rattle.theory.specs.Terms.{Terms, first_same}
use Rattle.theory.specs.Moment.{Relations, affect_all}
use Rattle.theory.specs.Limits.{least_terms, least_state}
use Rattle.theory.specs.Keeper.{Step, Answer, first_book, judge, keep, keep_step, keep_steps}
use Rattle.theory.specs.Keeper.Step.{call, revise, renumber}
use Rattle.theory.specs.Keeper.Answer.{done, refused}
use Rattle.theory.specs.Tables.{State, holds_now, prev_tables, since_tables, opening, decide_now, made, advance, start_tables, revised}
use Rattle.theory.specs.MembersRenumbered.{state_by}
use Rattle.theory.specs.Cases.{line, requests, looks, yes, no}

-- Two members, no relation, e events with the listed policies.
abbrev with : (e : ℕ) → List Entry → List ℕ → Terms
with e es ps = record {
  members = 2;
  relations = 0;
  events = e;
  entries = length es;
  entry = λ n. get_or es n (line 0 0 0);
  policy = λ j. get_or ps j 0;
  effects = λ j. [];
  kept = λ j. false;
}

abbrev asks : (j u v : ℕ) → Step
asks j u v = call (requests j u v)

abbrev sees : (j u v : ℕ) → Step
sees j u v = call (looks j u v)

abbrev takes : Terms → Step
takes U = revise (record { words = least_terms; state = least_state; sound = true; terms = U })

-- What the tables answer, where calls name what there is and no denial is kept.
unfoldable pub by_tables : Terms → State → List Step → List Answer
by_tables T S [] = []
by_tables T S (call c ∷ xs) =
    let g = decide_now T S c.event c.from c.to in
    cond g yes no ∷ by_tables T (cond (g && not c.look) (advance T S (made T S.now true c.event c.from c.to)) S) xs
by_tables T S (revise o ∷ xs) = done ∷ by_tables o.terms (revised T S o.terms) xs
by_tables T S (renumber p n ∷ xs) = done ∷ by_tables T (state_by T p S) xs

-- Old: entry 1 is prev top; every policy is top.
unfoldable pub before : Terms
before = with 5 (line 0 0 0 ∷ line 6 0 0 ∷ []) (0 ∷ 0 ∷ 0 ∷ 0 ∷ 0 ∷ [])

-- New: 2 is once event 0 from here; 3, with another table, is prev top; 4 is once prev top; 7 is prev not not top.
unfoldable pub newer : Terms
newer = with 5
    (line 0 0 0 ∷ line 4 0 0 ∷ line 7 0 1 ∷ line 6 0 0 ∷ line 7 0 3 ∷ line 2 0 0 ∷ line 2 5 0 ∷ line 6 6 0 ∷ [])
    (0 ∷ 3 ∷ 4 ∷ 7 ∷ 2 ∷ [])

-- With the new terms prev top goes on. Once prev top starts now, and its second operand holds now. prev not not top
-- starts now and is false; so is once event 0, which was before. One grant of event 0 later both hold.
unfoldable pub season : List Step
season = asks 0 0 1 ∷ asks 1 0 1 ∷ takes newer ∷ sees 1 0 0 ∷ sees 2 0 0 ∷ sees 3 0 0 ∷ sees 4 0 0 ∷ asks 0 0 1 ∷ sees 3 0 0 ∷ sees 4 0 0 ∷ []

unfoldable pub season_answers : List Answer
season_answers = yes ∷ yes ∷ done ∷ yes ∷ yes ∷ no ∷ no ∷ yes ∷ yes ∷ yes ∷ []

abbrev nobody : Relations
nobody k a b = false

pub season-answers : ((keep_steps (first_book before nobody) season).0 ≡ season_answers) × (by_tables before (opening before nobody) season ≡ season_answers)
unfolding keep_steps keep_step judge keep holds season season_answers before newer spelled below node number any_below all_below affect_all free those highest first_same same renumbered lowest ℕ_discrete by_tables holds_now opening advance prev_tables since_tables revised start_tables
season-answers = (refl, refl)

-- The carried event edge is included.
unfoldable pub carried : List Step
carried = asks 0 0 1 ∷ takes newer ∷ sees 4 0 0 ∷ []

pub carried_answers : ((keep_steps (first_book before nobody) carried).0 ≡ yes ∷ done ∷ yes ∷ []) × (by_tables before (opening before nobody) carried ≡ yes ∷ done ∷ yes ∷ [])
unfolding keep_steps keep_step judge keep holds carried before newer spelled below node number any_below all_below affect_all free those highest first_same same renumbered lowest ℕ_discrete by_tables holds_now opening advance prev_tables since_tables revised start_tables
carried_answers = (refl, refl)

-- Terms of another size, words that no file yields and short memory are refused, and the old terms stay: under them
-- event 1 is granted, under the new ones it would not be.
unfoldable pub refusals : List Step
refusals =
    takes (with 4 [] []) ∷ revise (record { words = least_terms; state = least_state; sound = false; terms = newer })
    ∷ revise (record { words = least_terms; state = 3072; sound = true; terms = newer }) ∷ sees 1 0 0 ∷ takes newer ∷ sees 1 0 0 ∷ []

pub refusals_answered : (keep_steps (first_book before nobody) refusals).0 ≡ refused 13 0 ∷ refused 7 0 ∷ refused 6 0 ∷ yes ∷ done ∷ no ∷ []
unfolding keep_steps keep_step judge keep holds refusals before newer spelled below node number any_below all_below affect_all free those highest first_same same renumbered lowest ℕ_discrete
refusals_answered = refl

-- Were an entry judged over the record cut off at its start, entries inside included, once prev top would fail at the
-- moment that it starts. This is not the reading: the table must be what the second operand is at this moment.
cut_off : holds 2 from_first (λ j l a b. false) (spelled newer.entry 4) 0 (λ x. 0) 0 ≡ false
unfolding holds newer spelled below node number any_below all_below
cut_off = refl
