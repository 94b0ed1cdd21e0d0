-- A run of two banks over lent memory, computed through `demand_3_banks`: set lists of either bank, looks, and new
-- terms for both.
use Prim.Native.Nat.{ℕ, ◌≤◌}
use native.Mathlib.Decide.{ℕ_discrete}
use native.Mathlib.Omega.{arith}
use mathlib.Core.Path.{◌≡◌, refl, ap, ◌∙◌}
use mathlib.Core.Bool.{Bool, true, false, false≢true}
use mathlib.Core.List.{List, [], ◌∷◌, ◌++◌}
use lib.Dec.{lit≤}
use lib.ListN.{length, replicate}
use borrow.Author.Tests.{le-ltb}
use Rattle.sets.specs.Sets.{any_below, all_below, count_below}
use Rattle.sets.proofs.Finite.{and_both}
use Rattle.theory.specs.Formula.{node, number, below, spelled, renumbered, same, free, those, lowest, highest}
use Rattle.theory.specs.Meaning.{holds}
use Rattle.theory.specs.Terms.{first_same}
use Rattle.theory.specs.Limits.{scratch_words, least_terms}
use Rattle.theory.specs.Moment.{Relations, affect_all}
use Rattle.theory.specs.Keeper.{Answer, judge}
use Rattle.theory.specs.Keeper.Answer.{done, refused}
use Rattle.theory.specs.Tables.{opening}
use Rattle.theory.specs.Fit.{every, operand_fits, only_free, reach_fits}
use Rattle.theory.specs.Cases.{requests, looks, yes, no}
use Rattle.memory.specs.Layout.{terms_words, relation_words, own_words, entry_at, policy_at, effect_at, terms_of, effects_from, state_of, words_of}
use Rattle.memory.specs.Checks.{good_memory}
use Rattle.memory.specs.Outcome.{opens, banks_open}
use Rattle.memory.specs.Outcome.Outcome.{passed}
use Rattle.calls.specs.declared.Record.{Record}
use Rattle.calls.proofs.Refused.{opened_says}
use Rattle.calls.proofs.Demand.{all_first_relations}
use Rattle.calls.proofs.Reached.{zeros_blank}
use Rattle.banking.specs.Banks.{Bank, BankStep, first_books, least_relations, least_own, keep_bank, keep_bank_step, keep_bank_steps}
use Rattle.banking.specs.Banks.Bank.{left, right}
use Rattle.banking.specs.Banks.BankStep.{call, revise as reviseStep}
use Rattle.banking.specs.BankRuns.{Lent, LentBankStep, fed_bank_steps, serve_bank_steps, opened_in_use}
use Rattle.banking.specs.BankRuns.LentBankStep.{once, set_list, revise}
use Rattle.banking.proofs.Lengths.{not_short}
use Rattle.banking.proofs.Demand.{demand_3_banks}

-- Words of terms with two members, no relation, three entries and two events without effects, of which the first is
-- always granted and the second goes by entry p.
abbrev terms_with : (entries : List ℕ) → (p : ℕ) → List ℕ
terms_with es p = 2 ∷ 0 ∷ 2 ∷ 3 ∷ (es ++ (replicate 1012 0 ++ (0 ∷ p ∷ replicate 222 0)))

-- Old: top, and prev of it. New: event 0 goes from here, and it once did.
unfoldable pub old_words : List ℕ
old_words = terms_with (0 ∷ 0 ∷ 0 ∷ 0 ∷ 6 ∷ 0 ∷ 0 ∷ 0 ∷ 0 ∷ 0 ∷ 0 ∷ 0 ∷ []) 1

unfoldable pub new_words : List ℕ
new_words = terms_with (0 ∷ 0 ∷ 0 ∷ 0 ∷ 4 ∷ 0 ∷ 0 ∷ 0 ∷ 7 ∷ 0 ∷ 1 ∷ 0 ∷ []) 2

-- Such words are accepted.
good_old : good_memory old_words ≡ true
unfolding old_words good_memory terms_of every all_below any_below count_below operand_fits only_free reach_fits node number below spelled free those effects_from
good_old =
    and_both _ _ (zeros_blank old_words (entry_at 3) 1012 (0 ∷ 1 ∷ replicate 222 0) refl)
    (and_both _ _ (zeros_blank old_words (policy_at 2) 14 (replicate 208 0) refl)
    (and_both _ _ (zeros_blank old_words (effect_at 2 0) 168 (replicate 16 0) refl) refl))

good_new : good_memory new_words ≡ true
unfolding new_words good_memory terms_of every all_below any_below count_below operand_fits only_free reach_fits node number below spelled free those effects_from
good_new =
    and_both _ _ (zeros_blank new_words (entry_at 3) 1012 (0 ∷ 2 ∷ replicate 222 0) refl)
    (and_both _ _ (zeros_blank new_words (policy_at 2) 14 (replicate 208 0) refl)
    (and_both _ _ (zeros_blank new_words (effect_at 2 0) 168 (replicate 16 0) refl) refl))

long_old : terms_words ≤ length old_words
unfolding old_words
long_old = lit≤ tt

-- ---- memory that opens: nobody is related to anybody

abbrev nobody : Relations
nobody k a b = false

abbrev first_relations : List ℕ
first_relations = words_of (terms_of old_words) (opening (terms_of old_words) nobody) ++ []

abbrev zeros : ℕ → List ℕ
zeros n = replicate n 0

abbrev lent : Lent
lent = record { relations = first_relations; own = λ d. zeros own_words }

abbrev second : Lent
second = record { relations = zeros relation_words; own = λ d. zeros own_words }

first_open : (opens old_words first_relations ≡ passed) × ((state_of first_relations).now.edge ≡ nobody)
first_open = all_first_relations old_words long_old good_old nobody (λ k a b e. absurd (false≢true e)) []

both_open : banks_open old_words lent.relations (lent.own left) (lent.own right) ≡ passed
unfolding banks_open
both_open =
    let o = opened_says old_words first_relations first_open.0 in
    rw (
      le-ltb (length old_words) terms_words long_old,
      not_short first_relations (zeros own_words) (zeros own_words)
          (record { relations_long = omega (arith, o.state_long); own_long = lit≤ tt; other_long = lit≤ tt }),
      good_old,
      o.relations_good,
    )

-- ---- the run

abbrev asks : (j u v : ℕ) → Record
asks j u v = record { event = j; from = u; to = v; answer = 0 }

abbrev lists : Bank → List Record → LentBankStep
lists b rs = set_list b (zeros scratch_words) (zeros scratch_words) rs

abbrev sees : Bank → (j u v : ℕ) → LentBankStep
sees b j u v = once (record {
  bank = b;
  call = record { look = true; event = j; from = u; to = v; scratch = zeros scratch_words };
  other_scratch = zeros scratch_words;
})

-- Both banks make event 0, and the left one event 1, granted by prev of top. With the new terms "event 0 once went from
-- here" starts now in both, so neither bank's own event 0 counts any more; the right bank's next one counts there
-- alone.
unfoldable pub run : List LentBankStep
run =
    lists right (asks 0 1 0 ∷ []) ∷ lists left (asks 0 0 1 ∷ asks 1 0 0 ∷ []) ∷ sees right 1 0 0
    ∷ revise new_words second ∷ sees right 1 1 0 ∷ sees left 1 0 0
    ∷ lists right (asks 0 1 0 ∷ asks 1 1 0 ∷ asks 9 0 0 ∷ []) ∷ sees left 1 1 0 ∷ []

unfoldable pub answers : List Answer
answers = yes ∷ yes ∷ yes ∷ yes ∷ done ∷ no ∷ no ∷ yes ∷ yes ∷ refused 9 0 ∷ no ∷ []

-- The steps that the keeper is fed, where such new terms are accepted or are not.
abbrev fed_asks : Bank → (j u v : ℕ) → BankStep
fed_asks b j u v = call (record { bank = b; call = requests j u v; other_scratch = scratch_words })

abbrev fed_sees : Bank → (j u v : ℕ) → BankStep
fed_sees b j u v = call (record { bank = b; call = looks j u v; other_scratch = scratch_words })

abbrev fed_run : Bool → List BankStep
fed_run sound =
    fed_asks right 0 1 0 ∷ fed_asks left 0 0 1 ∷ fed_asks left 1 0 0 ∷ fed_sees right 1 0 0
    ∷ reviseStep (record { words = least_terms; relations = least_relations; own = λ d. least_own; sound = sound; terms = terms_of new_words })
    ∷ fed_sees right 1 1 0 ∷ fed_sees left 1 0 0
    ∷ fed_asks right 0 1 0 ∷ fed_asks right 1 1 0 ∷ fed_asks right 9 0 0 ∷ fed_sees left 1 1 0 ∷ []

fed-run : fed_bank_steps run ≡ fed_run (good_memory new_words)
unfolding fed_bank_steps run new_words
fed-run = refl

kept_run : (keep_bank_steps (first_books (terms_of old_words) nobody) (fed_run true)).0 ≡ answers
unfolding keep_bank_steps keep_bank_step keep_bank judge holds answers old_words new_words terms_of effects_from spelled below node number any_below all_below affect_all free highest first_same same renumbered lowest ℕ_discrete
kept_run = refl

pub both_revised : (serve_bank_steps (opened_in_use old_words lent) run).0 ≡ answers
both_revised =
    (demand_3_banks old_words lent both_open run).0
    ∙ ap (λ (R : Relations). (keep_bank_steps (first_books (terms_of old_words) R) (fed_bank_steps run)).0) first_open.1
    ∙ ap (λ (xs : List BankStep). (keep_bank_steps (first_books (terms_of old_words) nobody) xs).0) fed-run
    ∙ ap (λ (sound : Bool). (keep_bank_steps (first_books (terms_of old_words) nobody) (fed_run sound)).0) good_new
    ∙ kept_run
