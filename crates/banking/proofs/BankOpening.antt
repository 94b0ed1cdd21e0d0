-- Opening both banks: what a pass says of the memory, and that the memory of moment 0 holds what the keeper of two
-- records begins with.
use Prim.Native.Nat.{ℕ, ◌≤◌}
use native.Mathlib.Omega.{arith}
use mathlib.Core.Path.{◌≡◌, refl, sym, ap, ◌∙◌}
use mathlib.Core.Bool.{Bool, true, false, cond, not, ◌||◌, true≢false}
use mathlib.Core.List.{List, [], ◌∷◌, ◌++◌}
use lib.Dec.{ltb}
use lib.ListN.{length, drop}
use borrow.Author.Tests.{ltb-false}
use Rattle.theory.specs.Meaning.{from_first}
use Rattle.theory.specs.Terms.{Terms}
use Rattle.theory.specs.Moment.{Relations, first}
use Rattle.theory.specs.Tables.{opening}
use Rattle.memory.specs.Layout.{terms_words, state_words, relation_words, own_words, joined, terms_of, state_of, words_of}
use Rattle.memory.specs.Checks.{good_memory, good_relations}
use Rattle.memory.specs.Outcome.{has_passed, opens, short_banks, banks_open}
use Rattle.memory.specs.Outcome.Outcome.{passed, refused}
use Rattle.calls.specs.Monitor.{opened_state}
use Rattle.memory.proofs.Accepted.{good}
use Rattle.memory.proofs.Words.{length_words}
use Rattle.memory.proofs.Outcomes.{open_passed}
use Rattle.calls.proofs.Answers.{open_done}
use Rattle.calls.proofs.MemoryInvariant.{Held}
use Rattle.calls.proofs.Refused.{opened_says}
use Rattle.calls.proofs.Demand.{opened_held}
use Rattle.banking.specs.Banks.{Bank}
use Rattle.banking.specs.Banks.Bank.{left, right}
use Rattle.banking.specs.Banking.{own_opened}
use Rattle.banking.specs.BankRefused.{LongBanks}
use Rattle.banking.specs.BankRuns.{Lent, opened_banks}
use Rattle.banking.proofs.Lengths.{long_banks}
use Rattle.banking.proofs.JoinedState.{joined_long, joined_kept, edges_joined, good_joined, relations_words, words_alone, part_long, part_further, back_long}
use Rattle.banking.proofs.OneBankCall.{Stands}

module _ (terms relations own other : List ℕ) where
  -- What a pass says.
  pub record BanksOpened : Type 0 where
    pub terms_long : terms_words ≤ length terms
    pub banks_long : LongBanks relations own other
    pub terms_good : good_memory terms ≡ true
    pub relations_good : good_relations (terms_of terms) relations ≡ true

  pub banks_opened : banks_open terms relations own other ≡ passed → BanksOpened
  unfolding banks_open
  banks_opened e =
      go (ltb (length terms) terms_words) refl (short_banks relations own other) refl (good_memory terms) refl (good_relations (terms_of terms) relations) refl (ap has_passed (sym e))
    where
      go : (a : Bool) → ltb (length terms) terms_words ≡ a → (b : Bool) → short_banks relations own other ≡ b → (g : Bool) → good_memory terms ≡ g →
          (s : Bool) → good_relations (terms_of terms) relations ≡ s →
          true ≡ has_passed (cond (a || b) (refused 6 0) (cond (not g) (refused 7 0) (cond (not s) (refused 8 0) passed))) → BanksOpened
      go true _ _ _ _ _ _ _ z = absurd (true≢false z)
      go false _ true _ _ _ _ _ z = absurd (true≢false z)
      go false _ false _ false _ _ _ z = absurd (true≢false z)
      go false _ false _ true _ false _ z = absurd (true≢false z)
      go false a false b true g true s z = record {
        terms_long = ltb-false (length terms) terms_words a;
        banks_long = long_banks relations own other b;
        terms_good = g;
        relations_good = s;
      }

  -- What is left of a bank's own words.
  pub own_unopened : (n l : ℕ) → refused n l ≡ banks_open terms relations own other → (x : List ℕ) → x ≡ own_opened terms relations own other x
  unfolding own_opened
  own_unopened n l e x = rw (sym e)

  module _ (e : banks_open terms relations own other ≡ passed) where
    abbrev T : Terms
    T = terms_of terms

    abbrev o : BanksOpened
    o = banks_opened e

    abbrev R : Relations
    R = (state_of relations).now.edge

    -- The words of moment 0 of the relations.
    abbrev A : List ℕ
    A = words_of T (opening T R)

    module _ (x : List ℕ) (l : own_words ≤ length x) where
      abbrev m : List ℕ
      m = joined relations x

      size : length m ≡ state_words
      size = joined_long relations x o.banks_long.relations_long l

      state_opens : opens terms m ≡ passed
      state_opens = sym (open_passed terms m o.terms_long (omega (arith, size)) o.terms_good (good_joined T relations x o.banks_long.relations_long ∙ o.relations_good))

      edges : (state_of m).now.edge ≡ R
      edges = edges_joined relations x o.banks_long.relations_long

      state_opened : opened_state terms m ≡ A
      state_opened =
          sym (open_done terms m (sym state_opens)) ∙ words_alone (words_of T (opening T (state_of m).now.edge)) m size
          ∙ ap (λ (Q : Relations). words_of T (opening T Q)) edges

      pub own-opened : own_opened terms relations own other x ≡ drop relation_words A ++ drop own_words x
      unfolding own_opened
      own-opened = rw e (ap (λ (w : List ℕ). drop relation_words w ++ drop own_words x) state_opened)

      joined_opened : joined relations (own_opened terms relations own other x) ≡ A
      unfolding opening
      joined_opened =
          ap (joined relations) own-opened
          ∙ joined_kept A relations (drop own_words x) (length_words T (opening T R))
          (relations_words T relations o.banks_long.relations_long o.relations_good (opening T R) refl)

      held_first : Held T from_first (good terms o.terms_good) m (joined relations (own_opened terms relations own other x)) (first R ∷ [])
      held_first =
          rw (joined_opened, sym state_opened, sym edges) (opened_held terms m (good terms o.terms_good) (opened_says terms m state_opens) state_opens)

      own_size : length (drop relation_words A) ≡ own_words
      own_size = back_long A (length_words T (opening T R))

      own_kept_long : length (own_opened terms relations own other x) ≡ length x
      own_kept_long = ap length own-opened ∙ part_long (drop relation_words A) x own_words own_size l

      own_kept_further : drop own_words (own_opened terms relations own other x) ≡ drop own_words x
      own_kept_further = ap (drop own_words) own-opened ∙ part_further (drop relation_words A) x own_words own_size

-- The memory of moment 0 stands by the keeper's first records.
pub first_stands : (terms : List ℕ) (W : Lent) (e : banks_open terms W.relations (W.own left) (W.own right) ≡ passed) →
    let o = banks_opened terms W.relations (W.own left) (W.own right) e in
    Stands terms o.terms_long (good terms o.terms_good) o.terms_good (λ d. from_first) W (opened_banks terms W) (λ d. first (state_of W.relations).now.edge ∷ [])
first_stands terms W e = record {
  bank = λ d. held_first terms W.relations (W.own left) (W.own right) e (W.own d) (own_lent d);
  lent = lb.relations_long;
  own_lent = own_lent;
  long = refl;
  own_long = λ d. own_kept_long terms W.relations (W.own left) (W.own right) e (W.own d) (own_lent d);
  further = refl;
  own_further = λ d. own_kept_further terms W.relations (W.own left) (W.own right) e (W.own d) (own_lent d);
}
  where
    lb : LongBanks W.relations (W.own left) (W.own right)
    lb = (banks_opened terms W.relations (W.own left) (W.own right) e).banks_long

    own_lent : (d : Bank) → own_words ≤ length (W.own d)
    own_lent left = lb.own_long
    own_lent right = lb.other_long
