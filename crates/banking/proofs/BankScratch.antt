-- Only whether scratch is long enough counts, of two banks too: with any scratches that are enough a call of a bank, a
-- set list of a bank and a whole run give and leave the same.
use Prim.Native.Nat.{ℕ, ◌+◌}
use native.Mathlib.Omega.{arith}
use mathlib.Core.Path.{◌≡◌, refl, ap, ap₂, ◌∙◌}
use mathlib.Core.Bool.{Bool, true, false, cond}
use mathlib.Core.List.{List, [], ◌∷◌, ◌++◌}
use lib.ListN.{length, take, drop}
use borrow.Author.Tests.{le-ltb}
use Rattle.theory.specs.Keeper.{Answer}
use Rattle.theory.specs.Limits.{scratch_words}
use Rattle.theory.specs.Tables.{made, advance}
use Rattle.memory.specs.Layout.{relation_words, own_words, joined, terms_of, state_of, words_of}
use Rattle.memory.specs.Outcome.{has_passed}
use Rattle.calls.specs.Monitor.{granted, moves}
use Rattle.calls.specs.SetList.{filled, listing}
use Rattle.calls.specs.Agreement.{answers_in, outcome_in}
use Rattle.calls.specs.declared.Record.{Record}
use Rattle.banking.specs.Banks.{quiet, other}
use Rattle.banking.specs.Banking.{bank_answer, relations_after, own_after, other_after, cleared_after}
use Rattle.banking.specs.BankList.{BankRun, bank_singly, bank_list_checks, bank_listed, bank_left}
use Rattle.banking.specs.BankRuns.{lent_to, LentBankStep, BanksInUse, with_lent, gives_in, leaves_in, lists_in, listed_in, left_by, revises_in, in_use, serve_bank_steps}
use Rattle.banking.specs.BankScratch.{Enough, bank_call, SameBankSteps}
use Rattle.banking.specs.BankScratch.SameBankSteps.{none, calls, set_lists, new_terms}
use Rattle.banking.proofs.Moved.{cleared_long}

-- What a request of a bank gives, and leaves of the banks' memory.
record SameCall (terms r o x sc sp sc' sp' : List ℕ) (j u v : ℕ) : Type 0 where
  answer : bank_answer terms r o x sc sp j u v ≡ bank_answer terms r o x sc' sp' j u v
  relations : relations_after terms r o x sc sp j u v ≡ relations_after terms r o x sc' sp' j u v
  own : own_after terms r o x sc sp j u v ≡ own_after terms r o x sc' sp' j u v
  beside : other_after terms r o x sc sp j u v ≡ other_after terms r o x sc' sp' j u v

-- The records, the count and the banks' memory.
record SameRun (x y : BankRun) : Type 0 where
  records : x.records ≡ y.records
  grants : x.grants ≡ y.grants
  relations : x.relations ≡ y.relations
  own : x.own ≡ y.own
  beside : x.other ≡ y.other

module _ (terms : List ℕ) where
  same_answer : (relations own beside sc sp sc' sp' : List ℕ) → Enough sc sp → Enough sc' sp' → (j u v : ℕ) →
      bank_answer terms relations own beside sc sp j u v ≡ bank_answer terms relations own beside sc' sp' j u v
  unfolding bank_answer
  same_answer relations own beside sc sp sc' sp' e e' j u v =
      rw (le-ltb (length sc) scratch_words e.own, le-ltb (length sp) scratch_words e.other, le-ltb (length sc') scratch_words e'.own, le-ltb (length sp') scratch_words e'.other)

  any_scratch_call : (relations own beside sc sp sc' sp' : List ℕ) → Enough sc sp → Enough sc' sp' → (j u v : ℕ) →
      SameCall terms relations own beside sc sp sc' sp' j u v
  unfolding relations_after own_after other_after
  any_scratch_call relations own beside sc sp sc' sp' e e' j u v =
      let T = terms_of terms in
      let same = same_answer relations own beside sc sp sc' sp' e e' j u v in
      let S = state_of (joined relations own) in
      let B = state_of (joined relations beside) in
      let next : Answer → List ℕ = λ (a : Answer). words_of T (advance T S (made T S.now (granted a) j u v)) in
      let next-beside : Answer → List ℕ = λ (a : Answer). words_of T (advance T B (quiet (made T B.now (granted a) j u v))) in
      record {
        answer = same;
        relations = ap (λ (a : Answer). cond (moves (T.kept j) a) (take relation_words (next a) ++ drop relation_words relations) relations) same;
        own = ap (λ (a : Answer). cond (moves (T.kept j) a) (drop relation_words (next a) ++ drop own_words own) own) same;
        beside = ap (λ (a : Answer). cond (moves (T.kept j) a) (drop relation_words (next-beside a) ++ drop own_words beside) beside) same;
      }

  cleared : (relations own beside sc sp : List ℕ) → Enough sc sp → (j u v : ℕ) →
      Enough (cleared_after terms relations own beside sc sp j u v sc) (cleared_after terms relations own beside sc sp j u v sp)
  cleared relations own beside sc sp e j u v = record {
    own = omega (arith, e.own, cleared_long terms relations own beside sc sp j u v sc e.own);
    other = omega (arith, e.other, cleared_long terms relations own beside sc sp j u v sp e.other);
  }

  singly_same : (rs : List Record) (relations own beside sc sp sc' sp' : List ℕ) → Enough sc sp → Enough sc' sp' →
      SameRun (bank_singly terms relations own beside sc sp rs) (bank_singly terms relations own beside sc' sp' rs)
  unfolding bank_singly
  singly_same [] relations own beside sc sp sc' sp' e e' = record { records = refl; grants = refl; relations = refl; own = refl; beside = refl }
  singly_same (r ∷ rs) relations own beside sc sp sc' sp' e e' =
      let now = any_scratch_call relations own beside sc sp sc' sp' e e' r.event r.from r.to in
      let sc₁ : List ℕ = cleared_after terms relations own beside sc sp r.event r.from r.to sc in
      let sp₁ : List ℕ = cleared_after terms relations own beside sc sp r.event r.from r.to sp in
      let later = singly_same rs
      (relations_after terms relations own beside sc' sp' r.event r.from r.to)
      (own_after terms relations own beside sc' sp' r.event r.from r.to)
      (other_after terms relations own beside sc' sp' r.event r.from r.to) sc₁ sp₁ _ _
      (cleared relations own beside sc sp e r.event r.from r.to) (cleared relations own beside sc' sp' e' r.event r.from r.to) in
      let front : bank_singly terms
      (relations_after terms relations own beside sc sp r.event r.from r.to)
      (own_after terms relations own beside sc sp r.event r.from r.to)
      (other_after terms relations own beside sc sp r.event r.from r.to) sc₁ sp₁ rs
      ≡ bank_singly terms
      (relations_after terms relations own beside sc' sp' r.event r.from r.to)
      (own_after terms relations own beside sc' sp' r.event r.from r.to)
      (other_after terms relations own beside sc' sp' r.event r.from r.to) sc₁ sp₁ rs
      = λ i. bank_singly terms (now.relations i) (now.own i) (now.beside i) sc₁ sp₁ rs in
      record {
        records = ap₂ (λ (a : Answer) (qs : List Record). filled r a ∷ qs) now.answer (ap (λ (x : BankRun). x.records) front ∙ later.records);
        grants = ap₂ (λ (a : Answer) n. cond (granted a) 1 0 + n) now.answer (ap (λ (x : BankRun). x.grants) front ∙ later.grants);
        relations = ap (λ (x : BankRun). x.relations) front ∙ later.relations;
        own = ap (λ (x : BankRun). x.own) front ∙ later.own;
        beside = ap (λ (x : BankRun). x.other) front ∙ later.beside;
      }

  same_checks : (relations own beside sc sp sc' sp' : List ℕ) → Enough sc sp → Enough sc' sp' →
      bank_list_checks terms relations own beside sc sp ≡ bank_list_checks terms relations own beside sc' sp'
  unfolding bank_list_checks
  same_checks relations own beside sc sp sc' sp' e e' =
      rw (le-ltb (length sc) scratch_words e.own, le-ltb (length sp) scratch_words e.other, le-ltb (length sc') scratch_words e'.own, le-ltb (length sp') scratch_words e'.other)

  any_scratch_list : (rs : List Record) (relations own beside sc sp sc' sp' : List ℕ) → Enough sc sp → Enough sc' sp' →
      (bank_listed terms relations own beside sc sp rs ≡ bank_listed terms relations own beside sc' sp' rs)
      × SameRun (bank_left terms relations own beside sc sp rs) (bank_left terms relations own beside sc' sp' rs)
  unfolding bank_listed bank_left
  any_scratch_list rs relations own beside sc sp sc' sp' e e' =
      let c = same_checks relations own beside sc sp sc' sp' e e' in
      let q = singly_same rs relations own beside sc sp sc' sp' e e' in
      rw c (ap (listing (bank_list_checks terms relations own beside sc' sp')) q.grants, go (has_passed (bank_list_checks terms relations own beside sc' sp')) q)
    where
      unmoved : (sc sp : List ℕ) → BankRun
      unmoved sc sp = record { records = rs; grants = 0; relations = relations; own = own; other = beside; scratch = sc; spare = sp }

      go : (b : Bool) → SameRun (bank_singly terms relations own beside sc sp rs) (bank_singly terms relations own beside sc' sp' rs) →
          SameRun (cond b (bank_singly terms relations own beside sc sp rs) (unmoved sc sp)) (cond b (bank_singly terms relations own beside sc' sp' rs) (unmoved sc' sp'))
      go true q = q
      go false q = record { records = refl; grants = refl; relations = refl; own = refl; beside = refl }

-- Whole runs: two lists of steps that differ only in scratches that are enough give the same answers, and leave the
-- same memory in use, word for word.
pub any_scratch_banks : (ss ts : List LentBankStep) → SameBankSteps ss ts → (P : BanksInUse) → serve_bank_steps P ss ≡ serve_bank_steps P ts
unfolding serve_bank_steps
any_scratch_banks [] [] none P = refl
any_scratch_banks _ _ (calls b look j u v sc sp sc' sp' e e' ss ts rest) P =
    let W = P.lent in
    let now = any_scratch_call P.terms W.relations (W.own b) (W.own (other b)) sc sp sc' sp' e e' j u v in
    let after : BanksInUse = with_lent P (leaves_in P.terms W (bank_call b look j u v sc' sp')) in
    (λ i.
    let later = serve_bank_steps (with_lent P (cond look W (lent_to b (now.relations i) (now.own i) (now.beside i)))) ss in
    (now.answer i ∷ later.0, later.1))
    ∙ ap (λ (later : List Answer × BanksInUse). (gives_in P.terms W (bank_call b look j u v sc' sp') ∷ later.0, later.1)) (any_scratch_banks ss ts rest after)
any_scratch_banks _ _ (set_lists b rs sc sp sc' sp' e e' ss ts rest) P =
    let W = P.lent in
    let now = any_scratch_list P.terms rs W.relations (W.own b) (W.own (other b)) sc sp sc' sp' e e' in
    let run = now.1 in
    let after : BanksInUse = with_lent P (left_by b (listed_in P.terms W b sc' sp' rs)) in
    let answers : List Answer = answers_in (lists_in P.terms W b sc' sp' rs) (listed_in P.terms W b sc' sp' rs).records in
    (λ i.
    let later = serve_bank_steps (with_lent P (lent_to b (run.relations i) (run.own i) (run.beside i))) ss in
    (answers_in (now.0 i) (run.records i) ++ later.0, later.1))
    ∙ ap (λ (later : List Answer × BanksInUse). (answers ++ later.0, later.1)) (any_scratch_banks ss ts rest after)
any_scratch_banks _ _ (new_terms new second ss ts rest) P =
    ap (λ (later : List Answer × BanksInUse). (outcome_in (revises_in P new second) ∷ later.0, later.1)) (any_scratch_banks ss ts rest (in_use P new second))
