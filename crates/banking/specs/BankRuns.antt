-- What the third demand asks of two banks (docs/SCOPE.md, Two banks): a list of calls and set lists of either bank and
-- of new terms for both, over lent memory, and the words afterwards.
use Rattle.std.specs.Prelude.{ℕ, ◌≡◌, cond, List, [], ◌∷◌, ◌++◌, map, length, drop}
use Rattle.theory.specs.Meaning.{Starts}
use Rattle.theory.specs.Terms.{Terms}
use Rattle.theory.specs.Keeper.{Answer}
use Rattle.memory.specs.Layout.{relation_words, own_words, joined, terms_of, state_of}
use Rattle.memory.specs.Checks.{good_memory}
use Rattle.memory.specs.Outcome.{Outcome, has_passed, banks_revise}
use Rattle.calls.specs.SetList.{Listing}
use Rattle.calls.specs.Agreement.{LentCall, fed, fed_record, answers_in, outcome_in, Agrees}
use Rattle.calls.specs.declared.Record.{Record}
use Rattle.banking.specs.Banks.{Bank, other, BankCall, BankOffer, BankStep, Records, Books, first_books}
use Rattle.banking.specs.Banks.Bank.{left, right}
use Rattle.banking.specs.Banks.BankStep.{call, revise as reviseStep}
use Rattle.banking.specs.Banking.{bank_answer, relations_after, own_after, other_after, own_opened, relations_revised, own_revised}
use Rattle.banking.specs.BankList.{BankRun, bank_listed, bank_left}

-- ---- the lent memory, and a step over it

-- The lent memory of two banks.
pub record Lent : Type 0 where
  pub relations : List ℕ
  pub own : Bank → List ℕ

-- One for the bank b, the other for the other.
abbrev pub of_banks : {A : Type 0} → Bank → A → A → Bank → A
of_banks left x y left = x
of_banks left x y right = y
of_banks right x y left = y
of_banks right x y right = x

-- The memory in which bank b has its own words, and the other bank the other ones.
abbrev pub lent_to : Bank → (relations own beside : List ℕ) → Lent
lent_to b relations own beside = record { relations = relations; own = of_banks b own beside }

-- A call of one bank, with the scratch of each.
pub record LentBankCall : Type 0 where
  pub bank : Bank
  pub call : LentCall
  pub other_scratch : List ℕ

-- A step: one call of a bank; a set list of a bank with its scratch and the other's; new terms with the second memory
-- that is lent with them.
pub data LentBankStep : Type 0 where
  once : LentBankCall → LentBankStep
  set_list : Bank → (scratch spare : List ℕ) → List Record → LentBankStep
  revise : (new : List ℕ) → (second : Lent) → LentBankStep

-- ---- the same steps, as the keeper is fed them

abbrev pub fed_bank : LentBankCall → BankCall
fed_bank c = record { bank = c.bank; call = fed c.call; other_scratch = length c.other_scratch }

-- The request of a record.
abbrev pub fed_bank_record : Bank → (scratch spare : ℕ) → Record → BankCall
fed_bank_record b scratch spare r = record { bank = b; call = fed_record scratch r; other_scratch = spare }

abbrev pub offered_banks : (new : List ℕ) → Lent → BankOffer
offered_banks new X = record {
  words = length new;
  relations = length X.relations;
  own = λ d. length (X.own d);
  sound = good_memory new;
  terms = terms_of new;
}

-- A set list is its requests, one after another.
unfoldable pub fed_bank_steps : List LentBankStep → List BankStep
fed_bank_steps [] = []
fed_bank_steps (once c ∷ ss) = call (fed_bank c) ∷ fed_bank_steps ss
fed_bank_steps (set_list b scratch spare rs ∷ ss) = map (λ r. call (fed_bank_record b (length scratch) (length spare) r)) rs ++ fed_bank_steps ss
fed_bank_steps (revise new X ∷ ss) = reviseStep (offered_banks new X) ∷ fed_bank_steps ss

-- ---- what a step gives and leaves

-- A call: a look leaves all memory.
abbrev pub gives_in : (terms : List ℕ) → Lent → LentBankCall → Answer
gives_in terms W c =
    bank_answer terms W.relations (W.own c.bank) (W.own (other c.bank)) c.call.scratch c.other_scratch
    c.call.event c.call.from c.call.to

abbrev pub leaves_in : (terms : List ℕ) → Lent → LentBankCall → Lent
leaves_in terms W c =
    cond c.call.look W
    (lent_to c.bank
    (relations_after terms W.relations (W.own c.bank) (W.own (other c.bank)) c.call.scratch c.other_scratch c.call.event c.call.from c.call.to)
    (own_after terms W.relations (W.own c.bank) (W.own (other c.bank)) c.call.scratch c.other_scratch c.call.event c.call.from c.call.to)
    (other_after terms W.relations (W.own c.bank) (W.own (other c.bank)) c.call.scratch c.other_scratch c.call.event c.call.from c.call.to))

-- A set list.
abbrev pub lists_in : (terms : List ℕ) → Lent → Bank → (scratch spare : List ℕ) → List Record → Listing
lists_in terms W b scratch spare rs = bank_listed terms W.relations (W.own b) (W.own (other b)) scratch spare rs

abbrev pub listed_in : (terms : List ℕ) → Lent → Bank → (scratch spare : List ℕ) → List Record → BankRun
listed_in terms W b scratch spare rs = bank_left terms W.relations (W.own b) (W.own (other b)) scratch spare rs

-- What a set list leaves of the lent memory.
abbrev pub left_by : Bank → BankRun → Lent
left_by b after = lent_to b after.relations after.own after.other

-- ---- a run

-- The memory in use: the terms, the two banks' memory, and what stood there when it was lent.
pub record BanksInUse : Type 0 where
  pub terms : List ℕ
  pub lent : Lent
  pub before : Lent

abbrev pub with_lent : BanksInUse → Lent → BanksInUse
with_lent P W = record { terms = P.terms; lent = W; before = P.before }

-- What new terms give, and the second memory afterwards.
abbrev pub revises_in : BanksInUse → (new : List ℕ) → Lent → Outcome
revises_in P new X =
    banks_revise P.terms P.lent.relations (P.lent.own left) (P.lent.own right) new X.relations (X.own left) (X.own right)

abbrev pub revised_in : BanksInUse → (new : List ℕ) → Lent → Lent
revised_in P new X = record {
  relations = relations_revised P.terms P.lent.relations (P.lent.own left) (P.lent.own right) new X.relations (X.own left) (X.own right);
  own = λ d. own_revised P.terms P.lent.relations (P.lent.own left) (P.lent.own right) new X.relations (X.own left) (X.own right) (P.lent.own d) (X.own d);
}

-- From then on the new terms and the second memory are in use; refused, all is as before.
abbrev pub in_use : BanksInUse → (new : List ℕ) → Lent → BanksInUse
in_use P new X =
    cond (has_passed (revises_in P new X)) (record { terms = new; lent = revised_in P new X; before = X }) P

-- The steps of a list, each handed the memory in use as the last left it: the answers in order, and the memory in use
-- at the end.
unfoldable pub serve_bank_steps : BanksInUse → List LentBankStep → List Answer × BanksInUse
serve_bank_steps P [] = ([], P)
serve_bank_steps P (once c ∷ ss) =
    let later = serve_bank_steps (with_lent P (leaves_in P.terms P.lent c)) ss in
    (gives_in P.terms P.lent c ∷ later.0, later.1)
serve_bank_steps P (set_list b scratch spare rs ∷ ss) =
    let after = listed_in P.terms P.lent b scratch spare rs in
    let later = serve_bank_steps (with_lent P (left_by b after)) ss in
    (answers_in (lists_in P.terms P.lent b scratch spare rs) after.records ++ later.0, later.1)
serve_bank_steps P (revise new X ∷ ss) =
    let later = serve_bank_steps (in_use P new X) ss in
    (outcome_in (revises_in P new X) ∷ later.0, later.1)

-- The memory of moment 0, in use.
abbrev pub opened_banks : (terms : List ℕ) → Lent → Lent
opened_banks terms W = record {
  relations = W.relations;
  own = λ d. own_opened terms W.relations (W.own left) (W.own right) (W.own d);
}

abbrev pub opened_in_use : (terms : List ℕ) → Lent → BanksInUse
opened_in_use terms W = record { terms = terms; lent = opened_banks terms W; before = W }

-- ---- the words afterwards

-- Each bank's state agrees with its own record; the memory is as long as it was lent, and has the same further words.
pub record BanksAgree (T : Terms) (s : Bank → Starts) (W₀ W : Lent) (L : Records) : Type 0 where
  pub bank : (d : Bank) → Agrees T (s d) (joined W₀.relations (W₀.own d)) (joined W.relations (W.own d)) (L d)
  pub long : length W.relations ≡ length W₀.relations
  pub own_long : (d : Bank) → length (W.own d) ≡ length (W₀.own d)
  pub further : drop relation_words W.relations ≡ drop relation_words W₀.relations
  pub own_further : (d : Bank) → drop own_words (W.own d) ≡ drop own_words (W₀.own d)

-- What the keeper of two banks begins with.
abbrev pub opened_books : (terms : List ℕ) → Lent → Books
opened_books terms W = first_books (terms_of terms) (state_of W.relations).now.edge
