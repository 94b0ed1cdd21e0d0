-- Small runs of two banks, computed of the keeper and of the tables: what one bank sees of the other, why each premise
-- of `isolated` is there, and that all of them can be met.
use Prim.Native.Nat.{ℕ}
use native.Mathlib.Decide.{ℕ_discrete}
use native.Mathlib.Omega.{arith}
use mathlib.Core.Path.{◌≡◌, refl}
use mathlib.Core.Logic.{inl, inr}
use mathlib.Core.Bool.{true, false, cond, not, ◌&&◌}
use mathlib.Core.List.{List, [], ◌∷◌}
use lib.ListN.{get_or}
use Rattle.sets.specs.Sets.{any_below, all_below}
use Rattle.theory.specs.Formula.{node, number, below, spelled, renumbered, same, free, those, lowest, highest}
use Rattle.theory.specs.Meaning.{holds}
use Rattle.theory.specs.Terms.{Terms, first_same}
use Rattle.theory.specs.Limits.{scratch_words, least_terms}
use Rattle.theory.specs.Moment.{Relations, affect_all}
use Rattle.theory.specs.Keeper.{Answer, judge}
use Rattle.theory.specs.Keeper.Answer.{done}
use Rattle.theory.specs.Tables.{State, holds_now, prev_tables, since_tables, opening, decide_now, made, advance, start_tables, revised}
use Rattle.theory.specs.Cases.{line, requests, looks, yes, no, own, adds, small}
use Rattle.theory.proofs.Cases.{pairs}
use Rattle.banking.specs.Banks.{Bank, other, quiet, BankStep, first_books, least_relations, least_own, keep_bank, keep_bank_step, keep_bank_steps}
use Rattle.banking.specs.Banks.Bank.{left, right}
use Rattle.banking.specs.Banks.BankStep.{call, revise}
use Rattle.banking.specs.BankRuns.{of_banks}
use Rattle.banking.proofs.Isolated.{isolated}

abbrev asks : Bank → (j u v : ℕ) → BankStep
asks b j u v = call (record { bank = b; call = requests j u v; other_scratch = scratch_words })

abbrev sees : Bank → (j u v : ℕ) → BankStep
sees b j u v = call (record { bank = b; call = looks j u v; other_scratch = scratch_words })

abbrev takes : Terms → BankStep
takes U = revise (record { words = least_terms; relations = least_relations; own = λ d. least_own; sound = true; terms = U })

-- What the tables answer, where calls name what there is and no denial is kept.
unfoldable pub by_tables : Terms → (Bank → State) → List BankStep → List Answer
by_tables T S [] = []
by_tables T S (call c ∷ xs) =
    let b = c.bank in
    let g = decide_now T (S b) c.call.event c.call.from c.call.to in
    let M = made T (S b).now true c.call.event c.call.from c.call.to in
    cond g yes no ∷ by_tables T (cond (g && not c.call.look) (of_banks b (advance T (S b) M) (advance T (S (other b)) (quiet M))) S) xs
by_tables T S (revise o ∷ xs) = done ∷ by_tables o.terms (λ d. revised T (S d) o.terms) xs

abbrev nobody : Relations
nobody k a b = false

-- Two members, no relation, five events, of which 0 and 4 are always granted. 1: event 0 goes from here; 2: it once
-- did; 3: it did a moment ago; 4: there was a moment before.
unfoldable pub watching : Terms
watching = record {
  members = 2;
  relations = 0;
  events = 5;
  entries = 5;
  entry = λ n. get_or (line 0 0 0 ∷ line 4 0 0 ∷ line 7 0 1 ∷ line 6 1 0 ∷ line 6 0 0 ∷ []) n (line 0 0 0);
  policy = λ j. get_or (0 ∷ 2 ∷ 3 ∷ 4 ∷ 0 ∷ []) j 0;
  effects = λ j. [];
  kept = λ j. false;
}

-- The left bank's event 0 is a moment in the right bank too, and no event there. The right bank's then moves the left
-- bank's prev on by the left bank's own event, the one from 1.
unfoldable pub quietly : List BankStep
quietly =
    asks left 0 0 1 ∷ sees left 1 0 0 ∷ sees right 1 0 0 ∷ sees right 3 0 0
    ∷ asks left 0 1 0 ∷ sees left 2 0 0 ∷ sees right 2 0 0
    ∷ asks right 0 0 1 ∷ sees right 1 0 0 ∷ sees left 2 0 0 ∷ sees left 2 1 0 ∷ []

unfoldable pub quiet_answers : List Answer
quiet_answers = yes ∷ yes ∷ no ∷ yes ∷ yes ∷ yes ∷ no ∷ yes ∷ yes ∷ no ∷ yes ∷ []

pub event_unseen : ((keep_bank_steps (first_books watching nobody) quietly).0 ≡ quiet_answers) × (by_tables watching (λ d. opening watching nobody) quietly ≡ quiet_answers)
unfolding keep_bank_steps keep_bank_step keep_bank judge holds quietly quiet_answers watching spelled below node number any_below all_below affect_all free those by_tables holds_now opening advance prev_tables since_tables
event_unseen = (refl, refl)

-- A table with two columns, in the terms of `pair-answers`: 0 has shared with 1 in one bank alone, and a withdrawal in
-- the other bank is a moment here that leaves it standing.
unfoldable pub sharing : List BankStep
sharing =
    asks left 0 0 1 ∷ sees left 2 1 2 ∷ sees right 2 1 2
    ∷ asks right 1 0 1 ∷ sees left 2 1 2
    ∷ asks right 0 0 1 ∷ asks left 1 0 1 ∷ sees left 2 1 2 ∷ sees right 2 1 2 ∷ []

unfoldable pub sharing_answers : List Answer
sharing_answers = yes ∷ yes ∷ no ∷ yes ∷ yes ∷ yes ∷ yes ∷ no ∷ yes ∷ []

pub pairs_apart : ((keep_bank_steps (first_books pairs own) sharing).0 ≡ sharing_answers) × (by_tables pairs (λ d. opening pairs own) sharing ≡ sharing_answers)
unfolding keep_bank_steps keep_bank_step keep_bank judge holds sharing sharing_answers pairs own spelled below node number any_below all_below affect_all free those by_tables holds_now opening advance prev_tables since_tables
pairs_apart = (refl, refl)

-- The same sizes, with prev of top alone.
unfoldable pub before : Terms
before = record {
  members = 2;
  relations = 0;
  events = 5;
  entries = 2;
  entry = λ n. get_or (line 0 0 0 ∷ line 6 0 0 ∷ []) n (line 0 0 0);
  policy = λ j. 0;
  effects = λ j. [];
  kept = λ j. false;
}

-- With the new terms "event 0 once went from here" starts now in both banks, so that neither bank's own event 0 counts,
-- and prev of top goes on in both. The right bank's next event 0 counts there alone.
unfoldable pub together : List BankStep
together =
    asks right 0 1 0 ∷ asks left 0 0 1 ∷ asks left 4 0 0 ∷ takes watching ∷ sees right 1 1 0 ∷ sees left 1 0 0 ∷ sees right 3 0 0 ∷ sees left 3 0 0
    ∷ asks right 0 1 0 ∷ sees right 1 1 0 ∷ sees left 1 1 0 ∷ []

unfoldable pub together_answers : List Answer
together_answers = yes ∷ yes ∷ yes ∷ done ∷ no ∷ no ∷ yes ∷ yes ∷ yes ∷ yes ∷ no ∷ []

pub revised_together : ((keep_bank_steps (first_books before nobody) together).0 ≡ together_answers) × (by_tables before (λ d. opening before nobody) together ≡ together_answers)
unfolding keep_bank_steps keep_bank_step keep_bank judge holds together together_answers before watching spelled below node number any_below all_below affect_all free those highest first_same same renumbered lowest ℕ_discrete by_tables holds_now opening advance prev_tables since_tables revised start_tables
revised_together = (refl, refl)

-- Without "a moment in both or in neither" `isolated` is false: prev of top tells the left bank whether the right one
-- made one. Its look makes none.
pub moments_tell : ((keep_bank_steps (first_books watching nobody) (asks right 0 0 1 ∷ sees left 3 0 0 ∷ [])).0 ≡ yes ∷ yes ∷ [])
    × ((keep_bank_steps (first_books watching nobody) (sees right 0 0 1 ∷ sees left 3 0 0 ∷ [])).0 ≡ yes ∷ no ∷ [])
unfolding keep_bank_steps keep_bank_step keep_bank judge holds watching spelled below node number any_below affect_all free
moments_tell = (refl, refl)

-- Without "equal relations after it" it is false: "I own somebody", where the right bank adds an edge from 1, or one
-- that is there already.
pub relations_tell : ((keep_bank_steps (first_books (small 2 (line 4 0 0 ∷ []) (adds ∷ [])) own) (asks right 0 1 2 ∷ sees left 1 1 0 ∷ [])).0 ≡ yes ∷ yes ∷ [])
    × ((keep_bank_steps (first_books (small 2 (line 4 0 0 ∷ []) (adds ∷ [])) own) (asks right 0 0 2 ∷ sees left 1 1 0 ∷ [])).0 ≡ yes ∷ no ∷ [])
unfolding keep_bank_steps keep_bank_step keep_bank judge holds own spelled below node number any_below affect_all free
relations_tell = (refl, refl)

-- In one run the right bank makes event 0, in the other event 4: the left bank gets the same answer, a grant.
pub isolated_met : (get_or (keep_bank_steps (first_books watching nobody) (asks right 0 0 1 ∷ asks left 3 0 0 ∷ [])).0 1 no
    ≡ get_or (keep_bank_steps (first_books watching nobody) (asks right 4 1 1 ∷ asks left 3 0 0 ∷ [])).0 1 no)
    × ((keep_bank_steps (first_books watching nobody) (asks right 0 0 1 ∷ asks left 3 0 0 ∷ [])).0 ≡ yes ∷ yes ∷ [])
unfolding keep_bank_steps keep_bank_step keep_bank judge holds watching spelled below node number any_below affect_all free
isolated_met = (
  isolated left (asks left 0 0 0) no (asks right 0 0 1 ∷ asks left 3 0 0 ∷ []) (asks right 4 1 1 ∷ asks left 3 0 0 ∷ [])
      (first_books watching nobody) (first_books watching nobody) refl (
        inr (record { bank-left = refl; bank_right = refl; made = (λ k x y. refl, tt) }),
        (
          inl (record {
            bank-left = refl;
            bank_right = refl;
            look = refl;
            event = refl;
            from = refl;
            to = refl;
            scratch_left = omega arith;
            scratch_right = omega arith;
            other_left = omega arith;
            other_right = omega arith;
          }),
          tt,
        ),
      ) 1 refl,
  refl,
)
