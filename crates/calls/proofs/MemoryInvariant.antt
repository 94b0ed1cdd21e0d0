-- The invariant of a run on the lent memory: it keeps the layout, and the state that it holds is kept. From it follows
-- what demand 3 asks of the words.
use Prim.Native.Nat.{ℕ, ◌≤◌, ◌<◌}
use native.Mathlib.Omega.{arith}
use mathlib.Core.Path.{◌≡◌, sym, ap, subst, ◌∙◌}
use mathlib.Core.List.{List, ◌++◌}
use mathlib.Core.Bool.{true}
use lib.Dec.{ltb}
use lib.ListN.{length, get_or, drop, length-append, length-drop, get_or-append}
use lib.Seq.{drop_at}
use borrow.Author.Tests.{lt-ltb, ltb-true}
use Rattle.sets.specs.Sets.{bit}
use Rattle.sets.proofs.Finite.{and_under}
use Rattle.theory.specs.Formula.{number, columns}
use Rattle.theory.specs.Meaning.{Starts}
use Rattle.theory.specs.Columns.{inside, standing, member}
use Rattle.theory.specs.Terms.{Terms, formula}
use Rattle.theory.specs.Moment.{Moment}
use Rattle.theory.specs.Keeper.{record_of, last, keeper_holds}
use Rattle.memory.specs.Layout.{state_words, relation_at, table_at, event_at, event_word, table_columns, state_of, words_of}
use Rattle.theory.specs.Terms.{tables, past_entry}
use Rattle.memory.specs.Checks.{good_state, Inside}
use Rattle.theory.specs.Tables.{State}
use Rattle.theory.specs.Fit.{Good}
use Rattle.calls.specs.Agreement.{Agrees}
use Rattle.theory.proofs.Unfolding.{number_lt}
use Rattle.theory.proofs.Record.{coincidence}
use Rattle.theory.proofs.RunInvariant.{Kept}
use Rattle.memory.proofs.Inside.{word_of_event}
use Rattle.memory.proofs.Front.{state_front, good_front}
use Rattle.memory.proofs.Words.{length_words, word_table, now_back, table_back, no_table, canonical}
use Rattle.theory.proofs.Past.{PastEntry, past-entry, past_is}
use Rattle.calls.proofs.LayoutKept.{LevelTables, one_inside, words_level}

module _ (T : Terms) (s : Starts) (fine : Good T) where
  -- ---- the words of a state that is kept

  kept_back : (S : State) (Ms : List Moment) → Kept T s S Ms → Inside T S.now → Kept T s (state_of (words_of T S)) Ms
  kept_back S Ms kept i = record {
    some = kept.some;
    now = now_back T fine S i ∙ kept.now;
    begun = kept.begun;
    together = kept.together;
    tables = λ n l p a b i'.
        table_back T fine S (number T.entry n) a b (number_lt T.entry n T.entries l p)
        (subst (λ k. inside T.members (columns (formula T k)) a b ≡ true) (sym (past_is T n l p)) i') ∙ kept.tables n l p a b i';
    unused = λ t a b h. no_table T fine S t a b h;
  }

  -- A table without a free variable has equal bits in a word.
  level_kept : (S : State) (Ms : List Moment) → Kept T s S Ms → LevelTables T S.table
  level_kept S Ms kept n l p none a b c al bl cl =
      kept.tables n l p a b (one_inside T n none a b al bl)
      ∙ coincidence T.members s (record_of T Ms) (formula T n) (last Ms) (standing (formula T n) a b) (standing (formula T n) a c) (member (formula T n) a)
      (λ x q. absurd (none x q))
      ∙ sym (kept.tables n l p a c (one_inside T n none a c al cl))

  words_good : (S : State) (Ms : List Moment) → Kept T s S Ms → Inside T S.now → good_state T (words_of T S) ≡ true
  words_good S Ms kept i = words_level T fine S (level_kept S Ms kept) i

  -- ---- the invariant

  -- The memory m, where it was m₀ before the run.
  pub record Held (m₀ m : List ℕ) (Ms : List Moment) : Type 0 where
    pub long : length m ≡ length m₀
    pub further : drop state_words m ≡ drop state_words m₀
    pub good : good_state T m ≡ true
    pub kept : Kept T s (state_of m) Ms

  -- The words of a state that is kept, before any memory's further words.
  pub held_words : (m₀ m : List ℕ) → state_words ≤ length m₀ → length m ≡ length m₀ → drop state_words m ≡ drop state_words m₀ →
      (S : State) (Ms : List Moment) → Kept T s S Ms → Inside T S.now → Held m₀ (words_of T S ++ drop state_words m) Ms
  held_words m₀ m long same further S Ms kept i =
      let front : state_words ≤ length (words_of T S) = omega (arith, length_words T S) in
      record {
        long = length-append (words_of T S) (drop state_words m) ∙ omega (arith, length_words T S, length-drop state_words m);
        further = drop_at (words_of T S) (drop state_words m) state_words (length_words T S) ∙ further;
        good = good_front (words_of T S) (drop state_words m) front T fine ∙ words_good S Ms kept i;
        kept = rw (state_front (words_of T S) (drop state_words m) front) (kept_back S Ms kept i);
      }

  pub agrees : (m₀ m : List ℕ) (Ms : List Moment) → state_words ≤ length m₀ → Held m₀ m Ms → Agrees T s m₀ m Ms
  unfolding state_of
  agrees m₀ m Ms long h = record {
    edges = λ k a b kl al bl. edge_bit k a b kl al ∙ ap (λ (M : Moment). M.edge k a b) h.kept.now;
    tables = λ t a b tl al bl.
        ap (λ w. bit w b) (named (table_at t a) (omega arith)) ∙ word_table T S fine.few_members t a b tl al
        ∙ and_under (ltb t (tables T)) _ _ (λ tn. and_under (inside T.members (table_columns T t) a b) _ _ (λ i.
        table-bit t a b (ltb-true t (tables T) tn) i));
    event = sym (word_of_event (get_or m event_at 0)) ∙ ap (λ (M : Moment). event_word M.event) h.kept.now;
    long = h.long;
    further = h.further;
  }
    where
      S : State
      S = state_of m

      named : (i : ℕ) → i < state_words → get_or m i 0 ≡ get_or (words_of T S) i 0
      named i l =
          ap (λ w. get_or w i 0) (canonical T fine.few_members m (omega (arith, h.long)) h.good)
          ∙ get_or-append (words_of T S) (drop state_words m) 0 i (omega (arith, length_words T S))

      edge_bit : (k a b : ℕ) → k < 16 → a < 64 → bit (get_or m (relation_at k a) 0) b ≡ S.now.edge k a b
      edge_bit k a b kl al = rw (lt-ltb k 16 kl, lt-ltb a 64 al)

      table-bit : (t a b : ℕ) → t < tables T → inside T.members (table_columns T t) a b ≡ true →
          S.table t a b ≡ keeper_holds T s Ms (past_entry T t) (standing (formula T (past_entry T t)) a b) (member (formula T (past_entry T t)) a)
      table-bit t a b tl i =
          let e : PastEntry T t = past-entry T t tl in
          ap (λ n. S.table n a b) (sym e.numbered) ∙ h.kept.tables (past_entry T t) e.exists e.past a b i
