-- Terms that are alike have the same words of a state and at moment 0, keep the same moments inside, and the
-- words agree with the same records.
use Prim.Native.Nat.{ℕ, ◌-◌, ◌/◌, ◌%◌}
use native.Mathlib.Omega.{arith}
use mathlib.Core.Path.{◌≡◌, refl, ap, subst, ◌∙◌}
use mathlib.Core.Bool.{Bool, true, false, cond, ◌&&◌}
use mathlib.Core.List.{List}
use lib.Dec.{ltb}
use borrow.Author.Tests.{ltb-true}
use Rattle.sets.proofs.Finite.{and_under}
use Rattle.theory.specs.Formula.{columns}
use Rattle.theory.specs.Meaning.{Starts, holds}
use Rattle.theory.specs.Columns.{inside, word_under, bit_under, standing, member}
use Rattle.theory.specs.Terms.{Terms, formula, tables, past_entry, Alike}
use Rattle.theory.specs.Moment.{Relations, Event, Moment, graph, first}
use Rattle.theory.specs.Moment.Event.{none, happened, tried}
use Rattle.theory.specs.Keeper.{record_of, last, keeper_holds}
use Rattle.theory.specs.Tables.{State, opening}
use Rattle.theory.specs.NewNumbers.{old_number}
use Rattle.theory.specs.MembersRenumbered.{state_by}
use Rattle.theory.proofs.Past.{past-entry}
use Rattle.theory.proofs.AlikeTerms.{met, met-is, same_number, same_formula, same_past, since_met}
use Rattle.memory.specs.Layout.{state_words, relation_words, event_at, event_word, row, table_row, table_columns, word_at, tabulate, words_of}
use Rattle.memory.specs.Checks.{EventInside, Inside}
use Rattle.calls.specs.Agreement.{Agrees}

module _ (T U : Terms) (a : Alike T U) where
  abbrev W : Terms
  W = met T U

  -- The entry of a table is the same formula.
  pub same-entry : (t : ℕ) → ltb t (tables T) ≡ true → formula T (past_entry T t) ≡ formula W (past_entry W t)
  same-entry t l = same_formula T U a (past_entry T t) (past-entry T t (ltb-true t (tables T) l)).exists ∙ ap (formula W) (same_past T U a t)

  agrees_met : (s : Starts) {m₀ m : List ℕ} {Ms : List Moment} → Agrees T s m₀ m Ms → Agrees W s m₀ m Ms
  agrees_met s {m₀} {m} {Ms} h = record {
    edges = h.edges;
    tables = λ t i b tl al bl. h.tables t i b tl al bl ∙ table t i b;
    event = h.event;
    long = h.long;
    further = h.further;
  }
    where
      table : (t i b : ℕ) →
          (ltb t (tables T) && (inside T.members (table_columns T t) i b
          && keeper_holds T s Ms (past_entry T t) (standing (formula T (past_entry T t)) i b) (member (formula T (past_entry T t)) i)))
          ≡ (ltb t (tables W) && (inside T.members (table_columns W t) i b
          && keeper_holds W s Ms (past_entry W t) (standing (formula W (past_entry W t)) i b) (member (formula W (past_entry W t)) i)))
      table t i b =
          and_under (ltb t (tables T)) _ _ (λ tl.
          let φ : formula T (past_entry T t) ≡ formula W (past_entry W t) = same-entry t tl in
          λ d. inside T.members (columns (φ d)) i b && holds T.members s (record_of T Ms) (φ d) (last Ms) (standing (φ d) i b) (member (φ d) i))
          ∙ (λ d. ltb t (same_number T U a T.entries (omega arith) d) && (inside T.members (table_columns W t) i b
          && keeper_holds W s Ms (past_entry W t) (standing (formula W (past_entry W t)) i b) (member (formula W (past_entry W t)) i)))

  -- A word of a table.
  row_met : (t : ℕ) (p : ℕ → ℕ → Bool) (i : ℕ) →
      cond (ltb t (tables T)) (table_row T.members (table_columns T t) p i) 0 ≡ cond (ltb t (tables W)) (table_row T.members (table_columns W t) p i) 0
  row_met t p i = go (ltb t (tables T)) refl ∙ (λ d. cond (ltb t (same_number T U a T.entries (omega arith) d)) (table_row T.members (table_columns W t) p i) 0)
    where
      go : (c : Bool) → ltb t (tables T) ≡ c → cond c (table_row T.members (table_columns T t) p i) 0 ≡ cond c (table_row T.members (table_columns W t) p i) 0
      go true e = λ d. table_row T.members (columns (same-entry t e d)) p i
      go false e = refl

  state_met : (S : State) → words_of T S ≡ words_of W S
  unfolding words_of word_at
  state_met S = λ d. tabulate state_words (λ i.
      cond (ltb i relation_words) (cond (ltb (i / 64) T.relations) (row T.members (S.now.edge (i / 64)) (i % 64)) 0)
      (cond (ltb i event_at) (row_met ((i - relation_words) / 64) (S.table ((i - relation_words) / 64)) (i % 64) d)
      (event_word S.now.event)))

  -- The same of a state renumbered, whose tables go by their columns.
  numbered_row : (ns : List ℕ) (S : State) (t i : ℕ) →
      cond (ltb t (tables T)) (table_row T.members (table_columns T t) ((state_by T ns S).table t) i) 0
      ≡ cond (ltb t (tables W)) (table_row T.members (table_columns W t) ((state_by W ns S).table t) i) 0
  numbered_row ns S t i =
      go (ltb t (tables T)) refl ∙ (λ d. cond (ltb t (same_number T U a T.entries (omega arith) d)) (table_row T.members (table_columns W t) ((state_by W ns S).table t) i) 0)
    where
      q : ℕ → ℕ
      q = old_number T.members ns

      row_by : List ℕ → ℕ
      row_by cs = table_row T.members cs (λ j k. S.table t (word_under cs q j k) (bit_under cs q j k)) i

      go : (c : Bool) → ltb t (tables T) ≡ c → cond c (row_by (table_columns T t)) 0 ≡ cond c (row_by (table_columns W t)) 0
      go true e = λ d. row_by (columns (same-entry t e d))
      go false e = refl

  numbered_met : (ns : List ℕ) (S : State) → words_of T (state_by T ns S) ≡ words_of W (state_by W ns S)
  unfolding words_of word_at
  numbered_met ns S = λ d. tabulate state_words (λ i.
      cond (ltb i relation_words) (cond (ltb (i / 64) T.relations) (row T.members ((state_by T ns S).now.edge (i / 64)) (i % 64)) 0)
      (cond (ltb i event_at) (numbered_row ns S ((i - relation_words) / 64) (i % 64) d)
      (event_word (state_by T ns S).now.event)))

  opening_met : (R : Relations) → opening T R ≡ opening W R
  unfolding opening
  opening_met R = λ d. record { now = first R; table = since_met T U a (graph T (first R)) (λ t a b. false) T.entries (omega arith) d }

  words_met : (R : Relations) → words_of T (opening T R) ≡ words_of W (opening W R)
  words_met R = state_met (opening T R) ∙ ap (words_of W) (opening_met R)

  pub numbered_alike : (ns : List ℕ) (S : State) → words_of T (state_by T ns S) ≡ words_of U (state_by U ns S)
  numbered_alike ns S = numbered_met ns S ∙ ap (λ X. words_of X (state_by X ns S)) (met-is T U a)

  pub agrees_alike : (s : Starts) {m₀ m : List ℕ} {Ms : List Moment} → Agrees T s m₀ m Ms → Agrees U s m₀ m Ms
  agrees_alike s {m₀} {m} {Ms} h = subst (λ X. Agrees X s m₀ m Ms) (met-is T U a) (agrees_met s h)

  pub words_alike : (R : Relations) → words_of T (opening T R) ≡ words_of U (opening U R)
  words_alike R = words_met R ∙ ap (λ X. words_of X (opening X R)) (met-is T U a)

  pub state_alike : (S : State) → words_of T S ≡ words_of U S
  state_alike S = state_met S ∙ ap (λ X. words_of X S) (met-is T U a)

  event_met : (x : Event) → EventInside T x → EventInside W x
  event_met none i = i
  event_met (happened j u v) i = i
  event_met (tried j u v) i = i

  pub inside_alike : (M : Moment) → Inside T M → Inside U M
  inside_alike M i = subst (λ X. Inside X M) (met-is T U a) (record { edges = i.edges; event = event_met M.event i.event })
