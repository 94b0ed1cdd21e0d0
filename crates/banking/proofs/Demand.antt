-- Demand 3 for each bank and its own record, and two runs side by side, over lent memory.
use Prim.Native.Nat.{ℕ}
use mathlib.Core.Path.{◌≡◌, refl, sym, ap, ap₂, ◌∙◌}
use mathlib.Core.List.{List, [], ◌∷◌, ◌++◌, map}
use lib.ListN.{length, get_or}
use Rattle.theory.specs.Moment.{Relations}
use Rattle.theory.specs.Keeper.{Answer}
use Rattle.theory.specs.Terms.{Alike}
use Rattle.memory.specs.Layout.{terms_of, state_of}
use Rattle.memory.specs.Outcome.{banks_open}
use Rattle.memory.specs.Outcome.Outcome.{passed}
use Rattle.calls.specs.declared.Record.{Record}
use Rattle.banking.specs.Banks.{Bank, BankStep, Books, first_books, keep_bank_step, keep_bank_steps, Placed, OfBank}
use Rattle.banking.specs.Banks.Bank.{left, right}
use Rattle.banking.specs.Banks.BankStep.{call, revise as reviseStep}
use Rattle.banking.specs.BankRuns.{Lent, LentBankStep, fed_bank, fed_bank_record, offered_banks, fed_bank_steps, leaves_in, listed_in, left_by, BanksInUse, with_lent, in_use, serve_bank_steps, opened_in_use, BanksAgree, opened_books}
use Rattle.banking.specs.BankRuns.LentBankStep.{once, set_list, revise}
use Rattle.banking.proofs.Playing.{BanksPlaying, opened_playing, play_once, banks_agree}
use Rattle.banking.proofs.PlayingRevised.{play_revise}
use Rattle.banking.proofs.PlayingList.{play_list}
use Rattle.banking.proofs.Isolated.{isolated}

-- The keeper of two lists of steps, one after the other.
steps_on : (B : Books) (xs ys : List BankStep) →
    keep_bank_steps B (xs ++ ys) ≡ ((keep_bank_steps B xs).0 ++ (keep_bank_steps (keep_bank_steps B xs).1 ys).0, (keep_bank_steps (keep_bank_steps B xs).1 ys).1)
unfolding keep_bank_steps
steps_on B [] ys = refl
steps_on B (x ∷ xs) ys = ap (λ (k : List Answer × Books). ((keep_bank_step B x).0 ∷ k.0, k.1)) (steps_on (keep_bank_step B x).1 xs ys)

-- A list of steps: one induction.
pub run_banks : (ss : List LentBankStep) (B : Books) (P : BanksInUse) → BanksPlaying B P →
    ((serve_bank_steps P ss).0 ≡ (keep_bank_steps B (fed_bank_steps ss)).0) × BanksPlaying (keep_bank_steps B (fed_bank_steps ss)).1 (serve_bank_steps P ss).1
unfolding serve_bank_steps keep_bank_steps fed_bank_steps
run_banks [] B P p = (refl, p)
run_banks (once c ∷ ss) B P p =
    let now = play_once B P p c in
    let later = run_banks ss (keep_bank_step B (call (fed_bank c))).1 (with_lent P (leaves_in P.terms P.lent c)) now.1 in
    (ap₂ ◌∷◌ now.0 later.0, later.1)
run_banks (set_list b scratch spare rs ∷ ss) B P p =
    let xs : List BankStep = map (λ (r : Record). call (fed_bank_record b (length scratch) (length spare) r)) rs in
    let now = play_list B P p b scratch spare rs in
    let later = run_banks ss (keep_bank_steps B xs).1 (with_lent P (left_by b (listed_in P.terms P.lent b scratch spare rs))) now.1 in
    rw (steps_on B xs (fed_bank_steps ss)) (ap₂ ◌++◌ now.0 later.0, later.1)
run_banks (revise new X ∷ ss) B P p =
    let now = play_revise B P p new X in
    let later = run_banks ss (keep_bank_step B (reviseStep (offered_banks new X))).1 (in_use P new X) now.1 in
    (ap₂ ◌∷◌ now.0 later.0, later.1)

-- Demand 3 for each bank. For all memory that opens for two banks, and all lists of steps, requests, looks and set
-- lists of either bank with any numbers and any scratch, and new terms for both together: the answers are those of the
-- keeper of two records, the terms in use are alike the keeper's, and each bank's state agrees with its own record, in
-- which the other bank's moments have no event edge, each past-time entry judged from its own start.
pub demand_3_banks : (terms : List ℕ) (W : Lent) → banks_open terms W.relations (W.own left) (W.own right) ≡ passed → (ss : List LentBankStep) →
    let after = serve_bank_steps (opened_in_use terms W) ss in
    let byKeeper = keep_bank_steps (opened_books terms W) (fed_bank_steps ss) in
    (after.0 ≡ byKeeper.0) × Alike byKeeper.1.terms (terms_of after.1.terms)
    × BanksAgree (terms_of after.1.terms) byKeeper.1.start after.1.before after.1.lent byKeeper.1.moments
demand_3_banks terms W e ss =
    let r = run_banks ss (opened_books terms W) (opened_in_use terms W) (opened_playing terms W e) in
    (r.0, r.1.like, banks_agree _ _ r.1)

-- Two runs over the same terms, from the same first relations, in memory of any kind: the same calls of bank b, looks
-- too, at the same places, with enough scratch, the same new terms at the same places, and at each other place a call
-- of the other bank in each run, which makes a moment in both or in neither, with equal relations after it. Places are
-- those of the steps that the keeper is fed, so that a set list is its requests. Then bank b gets the same answers.
pub banks_isolated : (terms : List ℕ) (W X : Lent) →
    banks_open terms W.relations (W.own left) (W.own right) ≡ passed → banks_open terms X.relations (X.own left) (X.own right) ≡ passed →
    (R : Relations) → (state_of W.relations).now.edge ≡ R → (state_of X.relations).now.edge ≡ R →
    (b : Bank) (ss ts : List LentBankStep) → Placed b (first_books (terms_of terms) R) (first_books (terms_of terms) R) (fed_bank_steps ss) (fed_bank_steps ts) →
    (x₀ : BankStep) (a₀ : Answer) (n : ℕ) → OfBank b (get_or (fed_bank_steps ss) n x₀) →
    get_or (serve_bank_steps (opened_in_use terms W) ss).0 n a₀ ≡ get_or (serve_bank_steps (opened_in_use terms X) ts).0 n a₀
banks_isolated terms W X ew ex R rw' rx b ss ts pl x₀ a₀ n own =
    ap (λ (xs : List Answer). get_or xs n a₀) (kept W ew ss rw')
    ∙ isolated b x₀ a₀ (fed_bank_steps ss) (fed_bank_steps ts) (first_books (terms_of terms) R) (first_books (terms_of terms) R) refl pl n own
    ∙ sym (ap (λ (xs : List Answer). get_or xs n a₀) (kept X ex ts rx))
  where
    kept : (Z : Lent) → banks_open terms Z.relations (Z.own left) (Z.own right) ≡ passed → (ss : List LentBankStep) → (state_of Z.relations).now.edge ≡ R →
        (serve_bank_steps (opened_in_use terms Z) ss).0 ≡ (keep_bank_steps (first_books (terms_of terms) R) (fed_bank_steps ss)).0
    kept Z e ss r = (demand_3_banks terms Z e ss).0 ∙ ap (λ (Q : Relations). (keep_bank_steps (first_books (terms_of terms) Q) (fed_bank_steps ss)).0) r
