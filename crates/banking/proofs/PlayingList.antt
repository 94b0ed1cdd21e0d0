-- A set list of a bank over the memory in use: its answers are the keeper's to its requests, and the memory holds what
-- the books then say.
use Prim.Native.Nat.{ℕ, ◌≤◌}
use native.Mathlib.Omega.{arith}
use mathlib.Core.Path.{◌≡◌, refl, sym, ap, ap₂, subst, fun_ext, ◌∙◌}
use mathlib.Core.Bool.{Bool, true, false, cond, ◌||◌, false≢true}
use mathlib.Core.List.{List, [], ◌∷◌, ◌++◌, map, append-nil}
use lib.Dec.{ltb}
use lib.ListN.{length}
use borrow.Author.Tests.{ltb-false}
use Rattle.theory.specs.Limits.{scratch_words}
use Rattle.theory.specs.Moment.{Moment}
use Rattle.theory.specs.Keeper.{Answer, judge}
use Rattle.theory.specs.Keeper.Answer.{refused}
use Rattle.memory.specs.Outcome.{Outcome}
use Rattle.memory.specs.Outcome.Outcome.{passed, refused as refusedOutcome}
use Rattle.calls.specs.Agreement.{answer_in, answers_in}
use Rattle.calls.specs.declared.Record.{Record}
use Rattle.memory.proofs.Accepted.{good}
use Rattle.banking.specs.Banks.{Bank, other, Books, BankStep, Records, as_seen, judge_bank, keep_bank, keep_bank_step, keep_bank_steps, with_records}
use Rattle.banking.specs.Banks.BankStep.{call}
use Rattle.banking.specs.Banking.{bank_answer, relations_after, own_after, other_after, cleared_after}
use Rattle.banking.specs.BankList.{bank_singly, bank_list_checks, bank_listed, bank_left}
use Rattle.banking.specs.BankRuns.{Lent, lent_to, LentBankCall, fed_bank_record, lists_in, listed_in, left_by, BanksInUse, with_lent}
use Rattle.banking.proofs.BankAnswers.{BanksChecked, check_passed}
use Rattle.banking.proofs.Moved.{cleared_long}
use Rattle.banking.proofs.ListSingly.{list_short, list_checked, answer_back}
use Rattle.banking.proofs.BothBanks.{of_own, of_other, of_both, seen_none}
use Rattle.banking.proofs.OneBankCall.{long_now}
use Rattle.banking.proofs.Playing.{BanksPlaying, play_once}

-- With too little of either scratch the keeper refuses each request.
module _ (b : Bank) (n k : ℕ) where
  abbrev fed_records : List Record → List BankStep
  fed_records rs = map (λ r. call (fed_bank_record b n k r)) rs

  judge_short : (ltb n scratch_words || ltb k scratch_words) ≡ true → (B : Books) (r : Record) →
      judge_bank B.terms B.start B.moments (fed_bank_record b n k r) ≡ (refused 6 0, [])
  unfolding judge
  judge_short e B r = go (ltb n scratch_words) (ltb k scratch_words) _ e
    where
      go : (x y : Bool) (z : Answer × List Moment) → (x || y) ≡ true → cond y (refused 6 0, []) (cond x (refused 6 0, []) z) ≡ (refused 6 0, [])
      go true true z e = refl
      go true false z e = refl
      go false true z e = refl
      go false false z e = absurd (false≢true e)

  keep_short : (ltb n scratch_words || ltb k scratch_words) ≡ true → (B : Books) (rs : List Record) →
      keep_bank_steps B (fed_records rs) ≡ (map (λ (r : Record). refused 6 0) rs, B)
  unfolding keep_bank_steps keep_bank_step keep_bank
  keep_short e B [] = refl
  keep_short e B (r ∷ rs) =
      ap (λ (x : Answer × List Moment).
      let later = keep_bank_steps (with_records B (λ d. B.moments d ++ as_seen d b x.1)) (fed_records rs) in (x.0 ∷ later.0, later.1)) (judge_short e B r)
      ∙ ap (λ (L : Records). let later = keep_bank_steps (with_records B L) (fed_records rs) in (refused 6 0 ∷ later.0, later.1))
      (fun_ext (λ d. ap (λ (Ms : List Moment). B.moments d ++ Ms) (seen_none d b) ∙ append-nil (B.moments d)))
      ∙ ap (λ (x : List Answer × Books). (refused 6 0 ∷ x.0, x.1)) (keep_short e B rs)

  -- The records one after another, over n and k words of scratch.
  module _ (ln : scratch_words ≤ n) (lk : scratch_words ≤ k) (P : BanksInUse) where
    module _ (B : Books) (relations own beside scratch spare : List ℕ) (en : length scratch ≡ n) (ek : length spare ≡ k)
        (p : BanksPlaying B (with_lent P (lent_to b relations own beside))) (r : Record)
      where
        abbrev once : LentBankCall
        once = record {
          bank = b;
          call = record { look = false; event = r.event; from = r.from; to = r.to; scratch = scratch };
          other_scratch = spare;
        }

        play_record : (bank_answer P.terms relations own beside scratch spare r.event r.from r.to ≡ (keep_bank_step B (call (fed_bank_record b n k r))).0)
            × BanksPlaying (keep_bank_step B (call (fed_bank_record b n k r))).1 (with_lent P (lent_to b
            (relations_after P.terms relations own beside scratch spare r.event r.from r.to)
            (own_after P.terms relations own beside scratch spare r.event r.from r.to)
            (other_after P.terms relations own beside scratch spare r.event r.from r.to)))
        play_record =
            rw (of_own b own beside, of_other b own beside) at
            (rw (en, ek) at (play_once B (with_lent P (lent_to b relations own beside)) p once))

    play_records : (rs : List Record) (B : Books) (relations own beside scratch spare : List ℕ) → length scratch ≡ n → length spare ≡ k →
        BanksPlaying B (with_lent P (lent_to b relations own beside)) →
        let run = bank_singly P.terms relations own beside scratch spare rs in
        let byKeeper = keep_bank_steps B (fed_records rs) in
        (map (λ (r : Record). answer_in r.answer) run.records ≡ byKeeper.0) × BanksPlaying byKeeper.1 (with_lent P (left_by b run))
    unfolding bank_singly keep_bank_steps
    play_records [] B relations own beside scratch spare en ek p = (refl, p)
    play_records (r ∷ rs) B relations own beside scratch spare en ek p =
        let now = play_record B relations own beside scratch spare en ek p r in
        let later = play_records rs (keep_bank_step B (call (fed_bank_record b n k r))).1
        (relations_after P.terms relations own beside scratch spare r.event r.from r.to)
        (own_after P.terms relations own beside scratch spare r.event r.from r.to)
        (other_after P.terms relations own beside scratch spare r.event r.from r.to)
        (cleared_after P.terms relations own beside scratch spare r.event r.from r.to scratch)
        (cleared_after P.terms relations own beside scratch spare r.event r.from r.to spare)
        (cleared_long P.terms relations own beside scratch spare r.event r.from r.to scratch (omega (arith, ln, en)) ∙ en)
        (cleared_long P.terms relations own beside scratch spare r.event r.from r.to spare (omega (arith, lk, ek)) ∙ ek) now.1 in
        (ap₂ ◌∷◌ (answer_back P.terms relations own beside scratch spare r.event r.from r.to ∙ now.0) later.0, later.1)

-- A set list: refused as a whole where a scratch is too short, else its records one after another.
module _ (B : Books) (P : BanksInUse) (p : BanksPlaying B P) (b : Bank) (scratch spare : List ℕ) (rs : List Record) where
  abbrev W : Lent
  W = P.lent

  abbrev checks : Outcome
  checks = bank_list_checks P.terms W.relations (W.own b) (W.own (other b)) scratch spare

  -- The same memory, by the bank that is called.
  same_lent : lent_to b W.relations (W.own b) (W.own (other b)) ≡ W
  same_lent = ap (λ (f : Bank → List ℕ). record { relations = W.relations; own = f }) (fun_ext (of_both b W.own))

  abbrev Played : Type 0
  Played =
      let after = listed_in P.terms W b scratch spare rs in
      let byKeeper = keep_bank_steps B (fed_records b (length scratch) (length spare) rs) in
      (answers_in (lists_in P.terms W b scratch spare rs) after.records ≡ byKeeper.0) × BanksPlaying byKeeper.1 (with_lent P (left_by b after))

  refused_list : (ltb (length scratch) scratch_words || ltb (length spare) scratch_words) ≡ true → Played
  unfolding bank_listed bank_left
  refused_list s =
      let e : checks ≡ refusedOutcome 6 0 = list_short P.terms W.relations (W.own b) (W.own (other b)) scratch spare s in
      rw (e, keep_short b (length scratch) (length spare) s B rs, same_lent) (refl, p)

  played_list : scratch_words ≤ length scratch → scratch_words ≤ length spare → Played
  unfolding bank_listed bank_left
  played_list l k =
      let c : BanksChecked P.terms W.relations (W.own b) (W.own (other b)) = record {
        long_terms = p.long;
        long_banks = long_now P.terms p.long (good P.terms p.good-memory) p.good-memory B.start P.before W B.moments p.stands b;
        good_terms = p.good-memory;
        good-own = (p.stands.bank b).good;
        good_other = (p.stands.bank (other b)).good;
      } in
      let e : checks ≡ passed = list_checked P.terms W.relations (W.own b) (W.own (other b)) scratch spare l k
      ∙ sym (check_passed P.terms W.relations (W.own b) (W.own (other b)) c) in
      rw e (play_records b (length scratch) (length spare) l k P rs B W.relations (W.own b) (W.own (other b)) scratch spare refl refl
      (subst (λ (X : Lent). BanksPlaying B (with_lent P X)) (sym same_lent) p))

  pub play_list : Played
  play_list = go (ltb (length scratch) scratch_words) refl (ltb (length spare) scratch_words) refl
    where
      go : (x : Bool) → ltb (length scratch) scratch_words ≡ x → (y : Bool) → ltb (length spare) scratch_words ≡ y → Played
      go true e y f = refused_list (ap (λ (z : Bool). z || ltb (length spare) scratch_words) e)
      go false e true f = refused_list (ap₂ ◌||◌ e f)
      go false e false f = played_list (ltb-false (length scratch) scratch_words e) (ltb-false (length spare) scratch_words f)
