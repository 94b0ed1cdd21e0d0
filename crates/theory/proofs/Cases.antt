-- The marked cases hold of the keeper and of the meaning. The preset's requests and nested past-time terms likewise.
use Prim.Native.Nat.{ℕ}
use native.Mathlib.Omega.{arith}
use mathlib.Core.Path.{◌≡◌, refl}
use mathlib.Core.List.{List, [], ◌∷◌}
use mathlib.Core.Bool.{Bool, true, false, cond, not, ◌&&◌, ◌||◌}
use lib.Dec.{eqb}
use lib.ListN.{get_or}
use borrow.Author.Tests.{ltb-true, lt-ltb, eqb-true, eq-eqb}
use Rattle.sets.specs.Sets.{any_below, all_below, count_below}
use Rattle.sets.proofs.Finite.{and_left, and_both}
use Rattle.theory.specs.Formula.{node, number, below, spelled, free, those}
use Rattle.theory.specs.Formula.Formula.{top, neg}
use Rattle.theory.specs.Meaning.{Record, from_first, Assignment, holds}
use Rattle.theory.specs.Terms.{Effect, Terms}
use Rattle.theory.specs.Moment.{Relations, affect, affect_all}
use Rattle.theory.specs.Keeper.{Call, Answer, judge, keep, keep_all, keeper}
use Rattle.theory.specs.Keeper.Answer.{refused}
use Rattle.theory.specs.Tables.{State, holds_now, prev_tables, since_tables, opening, decide_now, made, advance}
use Rattle.theory.specs.Cases.{line, effect, adds, requests, looks, yes, no, preset, circle, own}
use Rattle.theory.specs.Cases.{cases, kept_answers, expected, Anywhere, AnyEnds}
use Rattle.theory.proofs.Record.{since_unfolds}

-- ---- the preset's requests

pub preset_answers :
    (keeper preset own (requests 2 1 2 ∷ requests 0 0 1 ∷ requests 2 1 2 ∷ requests 1 0 1 ∷ requests 2 1 2 ∷ requests 9 0 0 ∷ [])).0
    ≡ no ∷ yes ∷ yes ∷ yes ∷ no ∷ refused 9 0 ∷ []
unfolding preset own judge keep keep_all holds any_below all_below node number below spelled affect_all
preset_answers = refl

-- ---- the marked cases

anywhere : (N : ℕ) (γ : Record) (i : ℕ) (g : Assignment) (m : ℕ) → Anywhere N γ i g m
unfolding holds
anywhere N γ i g m = record {
  prev_top = λ t. ((λ e. ltb-true 0 i (and_left _ _ e)), (λ h. and_both _ _ (lt-ltb 0 i h) refl));
  since_top = λ t. since_unfolds N from_first γ t (neg top) top g m i (omega arith);
  var_target = (eqb-true m (g 0), eq-eqb m (g 0));
  bind_var = eq-eqb m m refl;
  bind_again = eq-eqb (g 0) (g 0) refl;
}

-- An effect leaves its own edge as it says.
affected : (u v : ℕ) (e : Effect) (R : Relations) →
    affect u v e R e.relation (cond e.back v u) (cond e.back u v) ≡ e.adds
affected u v e R =
    rw (
      eq-eqb e.relation e.relation refl,
      eq-eqb (cond e.back v u) (cond e.back v u) refl,
      eq-eqb (cond e.back u v) (cond e.back u v) refl,
    )

any_ends : (R : Relations) (k : ℕ) (back : Bool) (u v : ℕ) → AnyEnds R k back u v
unfolding affect_all
any_ends R k back u v = record {
  add_del = affected u v (effect false k back) (affect u v (effect true k back) R);
  del_add = affected u v (effect true k back) (affect u v (effect false k back) R);
}

-- The keeper answers every call of the table as it says; what is marked as holding always, or with where it holds, does
-- so for every number of members, record, moment, assignment and member; and what is marked of effects, for every
-- relation, direction and pair of ends.
pub marked_cases :
    (kept_answers cases ≡ expected cases)
    × ((N : ℕ) (γ : Record) (i : ℕ) (g : Assignment) (m : ℕ) → Anywhere N γ i g m)
    × ((R : Relations) (k : ℕ) (back : Bool) (u v : ℕ) → AnyEnds R k back u v)
unfolding cases kept_answers expected preset circle own judge keep keep_all holds any_below all_below count_below node number below spelled affect_all
marked_cases = (refl, anywhere, any_ends)

-- ---- nested past-time terms, by the keeper and by the tables

-- The answers of a state that keeps tables.
unfoldable pub by_tables : Terms → State → List Call → List Answer
by_tables T S [] = []
by_tables T S (c ∷ cs) =
    let p = decide_now T S c.event c.from c.to in
    let after = advance T S (made T S.now p c.event c.from c.to) in
    let rest = by_tables T (cond (not c.look && (p || T.kept c.event)) after S) cs in
    cond p yes no ∷ rest

-- Event 0 is always granted; the others go by: prev of prev, prev of a since, since over a since, since with a first
-- operand that never holds, prev.
unfoldable pub nested : Terms
nested = record {
  members = 2;
  relations = 1;
  events = 6;
  entries = 11;
  entry = λ n. get_or (
      line 0 0 0 ∷ line 6 0 0 ∷ line 6 1 0 ∷ line 4 1 0 ∷ line 7 0 3 ∷ line 6 4 0 ∷ line 2 3 0 ∷ line 7 6 4 ∷ line 2 0 0 ∷ line 7 8 3 ∷ line 6 3 0 ∷ []
      ) n (line 0 0 0);
  policy = λ j. get_or (0 ∷ 2 ∷ 5 ∷ 7 ∷ 9 ∷ 10 ∷ []) j 0;
  effects = λ j. [];
  kept = λ j. false;
}

-- Three grants, and at each moment the five policies at member 0.
unfoldable pub nested_calls : List Call
nested_calls =
    looks 1 0 1 ∷ looks 2 0 1 ∷ looks 3 0 1 ∷ looks 4 0 1 ∷ looks 5 0 1 ∷ requests 0 0 1
    ∷ looks 1 0 1 ∷ looks 2 0 1 ∷ looks 3 0 1 ∷ looks 4 0 1 ∷ looks 5 0 1 ∷ requests 0 1 0
    ∷ looks 1 0 1 ∷ looks 2 0 1 ∷ looks 3 0 1 ∷ looks 4 0 1 ∷ looks 5 0 1 ∷ requests 0 1 1
    ∷ looks 1 0 1 ∷ looks 2 0 1 ∷ looks 3 0 1 ∷ looks 4 0 1 ∷ looks 5 0 1 ∷ []

unfoldable pub nested_answers : List Answer
nested_answers =
    no ∷ no ∷ no ∷ no ∷ no ∷ yes
    ∷ no ∷ no ∷ yes ∷ yes ∷ no ∷ yes
    ∷ yes ∷ yes ∷ yes ∷ no ∷ yes ∷ yes
    ∷ yes ∷ yes ∷ yes ∷ no ∷ no ∷ []

pub nested-answers : ((keeper nested own nested_calls).0 ≡ nested_answers) × (by_tables nested (opening nested own) nested_calls ≡ nested_answers)
unfolding nested nested_calls nested_answers own judge keep keep_all holds any_below all_below node number below spelled affect_all by_tables holds_now free those prev_tables since_tables opening advance
nested-answers = (refl, refl)

-- ---- denied requests that are kept, by the keeper and by the tables

-- Denied requests of event 0 are kept; a grant of it adds an edge of relation 0. It is granted where there is no such
-- edge yet and the same request was denied just before. Event 1 goes by: I was granted event 0 at some time; event 2
-- by: I was denied it at some time, to the target. Label 1 is event 0, label 4 event 0 denied.
unfoldable pub trying : Terms
trying = record {
  members = 2;
  relations = 1;
  events = 3;
  entries = 10;
  entry = λ n. get_or (
      line 0 0 0 ∷ line 1 0 0 ∷ line 4 0 1 ∷ line 4 4 1 ∷ line 2 3 0 ∷ line 3 2 4 ∷ line 2 5 0 ∷ line 4 1 0 ∷ line 7 0 7 ∷ line 7 0 3 ∷ []
      ) n (line 0 0 0);
  policy = λ j. get_or (6 ∷ 8 ∷ 9 ∷ []) j 0;
  effects = λ j. cond (eqb j 0) (adds ∷ []) [];
  kept = λ j. eqb j 0;
}

unfoldable pub tries : List Call
tries =
    looks 0 0 1 ∷ requests 0 0 1 ∷ looks 1 0 1 ∷ looks 2 0 1 ∷ looks 2 0 0 ∷ looks 2 1 0 ∷ looks 0 0 1
    ∷ requests 0 0 1 ∷ looks 1 0 1 ∷ requests 0 0 1 ∷ looks 2 1 0 ∷ requests 2 1 0 ∷ looks 0 0 1 ∷ []

unfoldable pub tries_answers : List Answer
tries_answers = no ∷ no ∷ no ∷ yes ∷ no ∷ no ∷ yes ∷ yes ∷ yes ∷ no ∷ no ∷ no ∷ no ∷ []

pub tries-answers : ((keeper trying own tries).0 ≡ tries_answers) × (by_tables trying (opening trying own) tries ≡ tries_answers)
unfolding trying tries tries_answers own judge keep keep_all holds any_below all_below node number below spelled affect_all by_tables holds_now free those prev_tables since_tables opening advance
tries-answers = (refl, refl)

-- ---- terms about three people, by the keeper and by the tables

-- The preset's load by a since with two free variables: 1 has shared with 2 and not withdrawn
-- since. Its columns are 1 and 2.
unfoldable pub pairs : Terms
pairs = record {
  members = 3;
  relations = 1;
  events = 3;
  entries = 12;
  entry = λ n. get_or (
      line 1 2 0 ∷ line 4 1 0 ∷ line 9 1 1 ∷ line 4 2 0 ∷ line 9 1 3 ∷ line 2 4 0 ∷ line 7 5 2 ∷ line 8 1 6 ∷ line 5 0 7 ∷ line 9 0 8 ∷ line 8 2 9 ∷ line 0 0 0 ∷ []
      ) n (line 0 0 0);
  policy = λ j. get_or (11 ∷ 11 ∷ 10 ∷ []) j 0;
  effects = λ j. [];
  kept = λ j. false;
}

unfoldable pub pair_calls : List Call
pair_calls = requests 2 1 2 ∷ requests 0 0 1 ∷ requests 2 1 2 ∷ requests 1 0 1 ∷ requests 2 1 2 ∷ requests 0 2 1 ∷ looks 2 1 2 ∷ []

unfoldable pub pair_answers : List Answer
pair_answers = no ∷ yes ∷ yes ∷ yes ∷ no ∷ yes ∷ no ∷ []

pub pair-answers : ((keeper pairs own pair_calls).0 ≡ pair_answers) × (by_tables pairs (opening pairs own) pair_calls ≡ pair_answers)
unfolding pairs pair_calls pair_answers own judge keep keep_all holds any_below all_below node number below spelled affect_all by_tables holds_now free those prev_tables since_tables opening advance
pair-answers = (refl, refl)
