-- Members renumbered, on the words of a state: the second state keeps the layout, matches the first, and
-- undoing the renumbering gives the words of the first.
use Prim.Native.Nat.{ℕ, ◌-◌, ◌/◌, ◌%◌, ◌≤◌, ◌<◌}
use mathlib.Core.Path.{◌≡◌, refl, sym, ap, ap₂, subst, fun_ext, ◌∙◌}
use mathlib.Core.Bool.{Bool, true, false, cond}
use mathlib.Core.List.{List, ◌++◌}
use lib.Dec.{ltb}
use lib.ListN.{length, drop}
use borrow.Author.Tests.{ltb-true}
use Rattle.sets.proofs.Finite.{is_false}
use Rattle.theory.specs.Formula.{number, free, columns}
use Rattle.theory.specs.Columns.{inside, word_under, bit_under}
use Rattle.theory.specs.Terms.{Terms, formula, tables}
use Rattle.theory.specs.Moment.{Event, Moment}
use Rattle.theory.specs.Moment.Event.{none, happened, tried}
use Rattle.theory.specs.Tables.{Tables, State}
use Rattle.memory.specs.Layout.{state_words, relation_words, block_words, event_at, event_word, state_of, table_columns, tabulate, word_at, words_of}
use Rattle.memory.specs.Checks.{good_state, Inside, EventInside}
use Rattle.theory.proofs.Unfolding.{number_lt}
use Rattle.theory.proofs.Places.{closed_columns}
use Rattle.theory.proofs.MembersPlaces.{under_inside, under_back}
use Rattle.theory.proofs.Past.{past_is}
use Rattle.theory.proofs.MeaningNow.{Same, SameAt}
use Rattle.memory.proofs.Row.{row_cong, table_row_cong}
use Rattle.memory.proofs.Inside.{state_inside}
use Rattle.memory.proofs.Words.{now_back, columns_fitting, table_back, canonical}
use Rattle.calls.proofs.LayoutKept.{LevelTables, level_good, words_level}
use Rattle.theory.specs.NewNumbers.{new_number, old_number, renumbers, renumber_event, renumber_moment}
use Rattle.theory.specs.MembersRenumbered.{renumber_tables, renumber_state, Renumbering}
use Rattle.theory.specs.Fit.{Good}
use Rattle.calls.specs.Renumbering.{undo, renumbered_words}
use Rattle.theory.proofs.MembersRenumbered.{undone_moment}
use Rattle.calls.proofs.MembersNumbers.{renumbering, undo_new, undo_old}
use Rattle.calls.proofs.MembersCarried.{Matched}

-- ---- states that agree at members have the same words

under : (c : Bool) (x y z : ℕ) → (c ≡ true → x ≡ y) → cond c x z ≡ cond c y z
under true x y z h = h refl
under false x y z h = refl

words_cong : (T : Terms) → T.members < 65 → (S S' : State) → ((k : ℕ) → Same T.members (S.now.edge k) (S'.now.edge k)) →
    ((t : ℕ) → t < tables T → SameAt T.members (table_columns T t) (S.table t) (S'.table t)) → S.now.event ≡ S'.now.event → words_of T S ≡ words_of T S'
unfolding words_of word_at
words_cong T few S S' edges bits event = ap (tabulate state_words) (fun_ext word)
  where
    word : (i : ℕ) → word_at T S i ≡ word_at T S' i
    word i =
        let t : ℕ = (i - relation_words) / block_words in
        ap₂ (λ x y. cond (ltb i relation_words) (cond (ltb (i / block_words) T.relations) x 0) y)
        (row_cong T.members (S.now.edge (i / block_words)) (S'.now.edge (i / block_words)) (edges (i / block_words)) (i % block_words))
        (ap₂ (λ x y. cond (ltb i event_at) x y)
        (under (ltb t (tables T)) _ _ 0 (λ e. table_row_cong T.members few (table_columns T t) (S.table t) (S'.table t) (bits t (ltb-true _ _ e)) (i % block_words)))
        (ap event_word event))

-- ---- the second state

module _ (T : Terms) (fine : Good T) (p q : ℕ → ℕ) (r : Renumbering T.members p q) where
  back_below : (a : ℕ) → q a < T.members → a < T.members
  back_below a l = subst (λ m. m < T.members) (r.forth a) (r.new (q a) l)

  pub inside_renumbered : (M : Moment) → Inside T M → Inside T (renumber_moment p q M)
  inside_renumbered M i = record {
    edges = λ k a b e. let h = i.edges k (q a) (q b) e in (h.0, back_below a h.1, back_below b h.2);
    event = event M.event i.event;
  }
    where
      event : (E : Event) → EventInside T E → EventInside T (renumber_event p q E)
      event none h = tt
      event (happened j u v) h = (h.0, r.new u h.1, r.new v h.2)
      event (tried j u v) h = (h.0, r.new u h.1, r.new v h.2)

  level_renumbered : (X : Tables) → LevelTables T X → LevelTables T (renumber_tables p q T X)
  level_renumbered X lev n l e no_free a b c al bl cl =
      rw (past_is T n l e, closed_columns (formula T n) (λ x _. is_false (free (formula T n) x) (no_free x)))
      (lev n l e no_free (q a) (q b) (q c) (r.old a al) (r.old b bl) (r.old c cl))

  module _ (w : List ℕ) (g : good_state T w ≡ true) where
    abbrev second : State
    second = renumber_state p q T (state_of w)

    inside_second : Inside T second.now
    inside_second = inside_renumbered (state_of w).now (state_inside T w g)

    second_good : good_state T (words_of T second) ≡ true
    second_good = words_level T fine second (level_renumbered (state_of w).table (level_good T fine w g)) inside_second

    second_now : (state_of (words_of T second)).now ≡ renumber_moment p q (state_of w).now
    second_now = now_back T fine second inside_second

    second_table : (t : ℕ) → t < tables T → (i k : ℕ) → inside T.members (table_columns T t) i k ≡ true →
        (state_of (words_of T second)).table t i k ≡ (state_of w).table t (word_under (table_columns T t) q i k) (bit_under (table_columns T t) q i k)
    second_table t tl i k o = table_back T fine second t i k tl o

    second_matched : Matched T fine p q r (state_of w) (state_of (words_of T second))
    second_matched = record {
      now = second_now;
      tables = λ n l e i k.
          subst (λ d. inside T.members (columns (formula T d)) i k ≡ true → (state_of (words_of T second)).table (number T.entry n) i k
          ≡ (state_of w).table (number T.entry n) (word_under (columns (formula T d)) q i k) (bit_under (columns (formula T d)) q i k))
          (past_is T n l e) (second_table (number T.entry n) (number_lt T.entry n T.entries l e) i k);
      level = level_good T fine w g;
    }

    second_undone : words_of T (renumber_state q p T (state_of (words_of T second))) ≡ words_of T (state_of w)
    second_undone =
        let now : renumber_moment q p (state_of (words_of T second)).now ≡ (state_of w).now =
        ap (renumber_moment q p) second_now ∙ undone_moment T.members p q r (state_of w).now in
        words_cong T fine.few_members (renumber_state q p T (state_of (words_of T second))) (state_of w)
        (λ k a b al bl. ap (λ (M : Moment). M.edge k a b) now)
        (λ t tl i k o.
        let cs : List ℕ = table_columns T t in
        let fit = columns_fitting T fine t tl in
        let back = under_back T.members p r.new q r.back cs i k fit o in
        second_table t tl (word_under cs p i k) (bit_under cs p i k) (under_inside T.members p r.new cs i k fit o)
        ∙ ap₂ ((state_of w).table t) back.0 back.1)
        (ap (λ (M : Moment). M.event) now)

-- ---- on words, from the list of new numbers

module _ (T : Terms) (fine : Good T) (p : List ℕ) (ok : renumbers T.members p ≡ true) (w : List ℕ) (long : state_words ≤ length w) (g : good_state T w ≡ true) where
  -- The second state keeps the layout.
  pub renumbered_good : good_state T (renumbered_words T p w) ≡ true
  renumbered_good = second_good T fine (new_number p) (old_number T.members p) (renumbering T.members p ok) w g

  -- It matches the first.
  pub renumbered_matched : Matched T fine (new_number p) (old_number T.members p) (renumbering T.members p ok) (state_of w) (state_of (renumbered_words T p w))
  renumbered_matched = second_matched T fine (new_number p) (old_number T.members p) (renumbering T.members p ok) w g

  -- Undoing it gives the first state back, word for word.
  pub renumbered_undone : w ≡ renumbered_words T (undo T.members p) (renumbered_words T p w) ++ drop state_words w
  renumbered_undone =
      canonical T fine.few_members w long g
      ∙ ap (λ (v : List ℕ). v ++ drop state_words w)
      (sym (ap₂ (λ (f h : ℕ → ℕ). words_of T (renumber_state f h T (state_of (renumbered_words T p w)))) (fun_ext (undo_new T.members p ok)) (fun_ext (undo_old T.members p ok))
      ∙ second_undone T fine (new_number p) (old_number T.members p) (renumbering T.members p ok) w g))
