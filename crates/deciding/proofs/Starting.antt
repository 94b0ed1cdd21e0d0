-- New terms begin: relations and event word carried over, and each turn of the sweep that fills in the tables.
use Prim.Native.Nat.{ℕ, ◌+◌, ◌*◌, ◌≤◌, ◌<◌}
use native.Mathlib.Omega.{arith}
use native.Mathlib.Numerals.{add-one}
use mathlib.Core.Path.{◌≡◌, refl, sym, ap, ap₂, subst, ◌∙◌}
use mathlib.Core.Bool.{Bool, true, false, cond, ◌&&◌, ◌||◌}
use mathlib.Core.List.{List, [], ◌++◌, append-nil}
use lib.Dec.{eqb, ltb}
use lib.ListN.{length, get_or, take, drop, length-drop, drop_of_length-le, get_or-eq_default}
use lib.Seq.{get_or-take, get_or-drop, length-take-le}
use borrow.Author.Tests.{eqb-true, lt-ltb, le-ltb, ltb-true, ltb-false}
use Rattle.sets.specs.Sets.{bit}
use Rattle.sets.proofs.Bits.{bit_zero}
use Rattle.sets.proofs.Finite.{is_false}
use Rattle.theory.specs.Formula.{number, is_past, columns}
use Rattle.theory.specs.Columns.{inside}
use Rattle.theory.specs.Terms.{Terms, formula, tables, same_size}
use Rattle.theory.specs.Moment.{Event, graph}
use Rattle.theory.specs.Moment.Event.{none as eventless, happened, tried}
use Rattle.theory.specs.Tables.{Tables, State, store, operand_now, since_bits, since_step, named, taken, start_bits, start_step, start_tables, revised}
use Rattle.theory.specs.Fit.{Good}
use Rattle.memory.specs.Layout.{state_words, relation_words, relation_at, table_at, event_at, row, table_row, table_columns, terms_of, state_of, words_of}
use Rattle.memory.specs.TableIndex.{index_table}
use Rattle.deciding.specs.private.Rows.{Table, table_words}
use Rattle.deciding.specs.private.Moving.{known, HasState, Movable, Becomes, put, tabled, since_at}
use Rattle.deciding.specs.private.Memo.{MemoOf, Fresh}
use Rattle.deciding.specs.private.Starting.{Revising, start_below, Begun}
use Rattle.theory.proofs.Unfolding.{number_lt}
use Rattle.theory.proofs.Renumbered.{columns_bare, past_same}
use Rattle.theory.proofs.Past.{past_is}
use Rattle.theory.proofs.Places.{inside_word}
use Rattle.theory.proofs.MeaningNow.{SameAt}
use Rattle.theory.proofs.Size.{same_members, same_relations, same_events}
use Rattle.theory.proofs.CarriedOver.{first_has}
use Rattle.theory.proofs.Revised.{start_untouched, start_since}
use Rattle.memory.proofs.Accepted.{good}
use Rattle.memory.proofs.Row.{bit_table, table_row_cong, table_row_none}
use Rattle.memory.proofs.Words.{columns_fitting, words_by}
use Rattle.deciding.proofs.SameDecision.{has_long, has_relation, has_table, has_event}
use Rattle.deciding.proofs.Stored.{table_stored, has_rest}
use Rattle.deciding.proofs.MomentSteps.{held}
use Rattle.deciding.proofs.MemoInSweep.{memo_step_all}

-- ---- sizes

module _ (T U : Terms) (z : same_size T U ≡ true) where
  same_named : (j u v : ℕ) → named T j u v ≡ named U j u v
  same_named j u v = λ d. ltb j (same_events T U z d) && (ltb u (same_members T U z d) && ltb v (same_members T U z d))

  same_known : (e : Event) → known T e ≡ known U e
  same_known eventless = refl
  same_known (happened j u v) = same_named j u v
  same_known (tried j u v) = same_named j u v

-- ---- memory that has a state has one with the same bits between members

has_same : (U : Terms) → Good U → (M : State) {X : Tables} {rest m : List ℕ} (Y : Tables) → HasState U (tabled M X) rest m →
    ((t : ℕ) → t < tables U → SameAt U.members (table_columns U t) (X t) (Y t)) → HasState U (tabled M Y) rest m
has_same U fine M {X} {rest} {m} Y has e = record {
  words = words_by U (tabled M Y) m (has_long has) (has_relation has)
      (λ t a tl al. has_table has t a tl al ∙ go t a (ltb t (tables U)) refl) (has_event has)
      ∙ ap (λ r. words_of U (tabled M Y) ++ r) (has_rest U fine has);
  event = has.event;
}
  where
    go : (t a : ℕ) (c : Bool) → ltb t (tables U) ≡ c → cond c (table_row U.members (table_columns U t) (X t) a) 0 ≡ cond c (table_row U.members (table_columns U t) (Y t) a) 0
    go t a true z = table_row_cong U.members fine.few_members (table_columns U t) (X t) (Y t) (e t (ltb-true t (tables U) z)) a
    go t a false z = refl

module _ {old before state new index : List ℕ} (r : Revising old before state new index) where
  abbrev T : Terms
  T = terms_of old

  abbrev U : Terms
  U = terms_of new

  abbrev S : State
  S = state_of state

  old_fine : Good T
  old_fine = good old r.good_old

  new_fine : Good U
  new_fine = good new r.good_new

  old_has : HasState T S (drop state_words state) state
  old_has = held T old_fine.few_members state r.long_state r.good-state

  -- Relations and event word carried over, and empty tables.
  pub begun_none : (m : List ℕ) → length m ≡ state_words → ((i : ℕ) → i < relation_words → get_or m i 0 ≡ get_or state i 0) →
      ((i : ℕ) → i < table_words → get_or m (relation_words + i) 0 ≡ 0) → get_or m event_at 0 ≡ get_or state event_at 0 → Begun old state new 0 [] m
  unfolding start_tables
  begun_none m long same none last = record {
    words = words_by U (start_below old state 0 U) m (omega (arith, long)) relation table (last ∙ has_event old_has)
        ∙ ap (λ z. words_of U (start_below old state 0 U) ++ z) (drop_of_length-le m {i = state_words} (omega (arith, long)));
    event = sym (same_known T U r.same S.now.event) ∙ old_has.event;
  }
    where
      relation : (k a : ℕ) → k < 16 → a < 64 → get_or m (relation_at k a) 0 ≡ cond (ltb k U.relations) (row U.members (S.now.edge k) a) 0
      relation k a kl al =
          same (relation_at k a) (omega arith)
          ∙ has_relation old_has k a kl al
          ∙ ap₂ (λ (n N : ℕ). cond (ltb k n) (row N (S.now.edge k) a) 0) (same_relations T U r.same) (same_members T U r.same)

      table : (t a : ℕ) → t < 32 → a < 64 → get_or m (table_at t a) 0 ≡ cond (ltb t (tables U)) (table_row U.members (table_columns U t) (λ a b. false) a) 0
      table t a tl al =
          let at : relation_words + (64 * t + a) ≡ table_at t a = omega arith in
          subst (λ (i : ℕ). get_or m i 0 ≡ 0) at (none (64 * t + a) (omega arith)) ∙ sym (empty (ltb t (tables U)))
        where
          empty : (x : Bool) → cond x (table_row U.members (table_columns U t) (λ a b. false) a) 0 ≡ 0
          empty true = table_row_none U.members (table_columns U t) a
          empty false = refl

  -- All tables are filled in.
  pub begun_all : (m : List ℕ) → Begun old state new U.entries [] m → m ≡ words_of U (revised T S U)
  unfolding revised
  begun_all m has = has.words ∙ append-nil (words_of U (start_below old state U.entries U))

  pub begun_movable : (n : ℕ) {rest m : List ℕ} → Begun old state new n rest m → Movable new index m
  begun_movable n {rest} has = record {
    long_terms = r.long_new;
    good = r.good_new;
    indexed = r.indexed_new;
    state = start_below old state n U;
    rest = rest;
    has = has;
  }

  -- ---- one turn

  module _ (n : ℕ) (nl : n < U.entries) where
    abbrev k : ℕ
    k = taken T S U n

    abbrev X : Tables
    X = start_tables T S U n (λ t a b. false)

    abbrev t : ℕ
    t = number U.entry n

    -- Its own table is still empty.
    own_empty : (a b : ℕ) → X t a b ≡ false
    own_empty a b = start_untouched T S U n (λ t a b. false) t (omega arith) a b

    step_is : start_tables T S U (n + 1) (λ t a b. false) ≡ start_step T S U n X
    unfolding start_tables
    step_is = rw (add-one n)

    begin_with : {rest m : List ℕ} → HasState U (tabled S (start_step T S U n X)) rest m → Begun old state new (n + 1) rest m
    begin_with {rest} {m} has = subst (λ (Z : Tables). HasState U (tabled S Z) rest m) (sym step_is) has

    -- An entry that is not past-time has no table.
    pub start_none : {rest m : List ℕ} → is_past (U.entry n).op ≡ false → Begun old state new n rest m → Begun old state new (n + 1) rest m
    start_none {rest} {m} e has = begin_with (subst (λ (c : Bool). HasState U (tabled S (cond c (store t (start_bits T S U n X) X) X)) rest m) (sym e) has)

    -- The table of the old entry.
    module _ (p : is_past (U.entry n).op ≡ true) (kl : k < T.entries) where
      old_past : is_past (T.entry k).op ≡ true
      old_past = past_same T.entry U.entry k n (first_has T (formula U n) kl) ∙ p

      old_table : number T.entry k < tables T
      old_table = number_lt T.entry k T.entries kl old_past

      new_table : t < tables U
      new_table = number_lt U.entry n U.entries nl p

      abbrev old_place : ℕ
      old_place = 1024 + 64 * index_table (get_or before k 0)

      abbrev new_place : ℕ
      new_place = 1024 + 64 * index_table (get_or index n 0)

      pub old_fits : old_place + 64 ≤ length state
      old_fits = rw (r.indexed_old.table k kl old_past).0 (omega (arith, old_table, old_fine.few_tables, r.long_state))

      abbrev words : List ℕ
      words = take 64 (drop old_place state)

      -- Both tables have the same columns.
      same_columns : table_columns T (number T.entry k) ≡ table_columns U t
      same_columns =
          ap (λ (j : ℕ). columns (formula T j)) (past_is T k kl old_past)
          ∙ columns_bare (formula T k) (formula U n) (first_has T (formula U n) kl)
          ∙ ap (λ (j : ℕ). columns (formula U j)) (sym (past_is U n nl p))

      taken_table : Table U.members (table_columns U t) (S.table (number T.entry k)) words
      taken_table = record {
        long = length-take-le 64 (drop old_place state) (rw (length-drop old_place state) (omega (arith, old_fits)));
        bits = λ a b. bits a b (ltb a 64) refl;
      }
        where
          bits : (a b : ℕ) (c : Bool) → ltb a 64 ≡ c → bit (get_or words a 0) b ≡ (inside U.members (table_columns U t) a b && S.table (number T.entry k) a b)
          bits a b true e =
              let al : a < 64 = ltb-true a 64 e in
              ap (λ (w : ℕ). bit w b) (get_or-take 64 (drop old_place state) a 0 al ∙ get_or-drop old_place state a 0
              ∙ ap (λ (x : ℕ). get_or state (1024 + 64 * x + a) 0) (r.indexed_old.table k kl old_past).0
              ∙ has_table old_has (number T.entry k) a (omega (arith, old_table, old_fine.few_tables)) al
              ∙ ap (λ (c : Bool). cond c (table_row T.members (table_columns T (number T.entry k)) (S.table (number T.entry k)) a) 0) (lt-ltb (number T.entry k) (tables T) old_table))
              ∙ bit_table T.members old_fine.few_members (table_columns T (number T.entry k)) (S.table (number T.entry k)) a b
              ∙ ap₂ (λ (N : ℕ) (cs : List ℕ). inside N cs a b && S.table (number T.entry k) a b) (same_members T U r.same) same_columns
          bits a b false e =
              let far : 64 ≤ a = ltb-false a 64 e in
              ap (λ (w : ℕ). bit w b) (get_or-eq_default words 0 {n = a} (omega (arith, length-take-le 64 (drop old_place state) (rw (length-drop old_place state) (omega (arith, old_fits))))))
              ∙ bit_zero b
              ∙ ap (λ (c : Bool). c && S.table (number T.entry k) a b) (sym (is_false (inside U.members (table_columns U t) a b)
              (λ i. omega (arith, inside_word U.members new_fine.few_members (table_columns U t) a b (columns_fitting U new_fine t new_table) i))))

      pub start_taken : {rest m m' : List ℕ} → Begun old state new n rest m → m' ≡ put new_place words m → Begun old state new (n + 1) rest m'
      start_taken {rest} {m} {m'} has e =
          begin_with (subst (λ (c : Bool). HasState U (tabled S (cond c (store t (start_bits T S U n X) X) X)) rest m') (sym p)
          (subst (HasState U (tabled S (store t (start_bits T S U n X) X)) rest) placed
          (table_stored U new_fine has t new_table (S.table (number T.entry k)) (start_bits T S U n X)
          (λ a b _. sym (ap (λ (c : Bool). cond c (S.table (number T.entry k) a b) (eqb (U.entry n).op 7 && operand_now U (graph U S.now) n (U.entry n).b X a b)) (lt-ltb k T.entries kl)))
          words taken_table)))
        where
          placed : put (1024 + 64 * t) words m ≡ m'
          placed = ap (λ (x : ℕ). put (1024 + 64 * x) words m) (sym (r.indexed_new.table n nl p).0) ∙ sym e

    -- A new table: what the since sweep makes of an empty one.
    pub start_anew : {rest m m' : List ℕ} → T.entries ≤ k → Begun old state new n rest m → Becomes new (since_at n) m m' → Begun old state new (n + 1) rest m'
    start_anew {rest} {m} {m'} le has b =
        begin_with (has_same U new_fine S (start_step T S U n X) (b.each (start_below old state n U) rest has) same)
      where
        other : (a b : ℕ) → start_bits T S U n X a b ≡ (eqb (U.entry n).op 7 && operand_now U (graph U S.now) n (U.entry n).b X a b)
        other a b = ap (λ (c : Bool). cond c (S.table (number T.entry k) a b) (eqb (U.entry n).op 7 && operand_now U (graph U S.now) n (U.entry n).b X a b)) (le-ltb k T.entries le)

        -- The bits stored, by the operator.
        bits : (s a b : ℕ) (c d : Bool) → eqb (U.entry n).op 6 ≡ c → eqb (U.entry n).op 7 ≡ d → (q : Bool) → eqb s t ≡ q →
            cond d (store t (since_bits U (graph U S.now) n X) X) X s a b ≡ cond (c || d) (store t (start_bits T S U n X) X) X s a b
        bits s a b false false ce de q qe = refl
        bits s a b true true ce de q qe = absurd (omega (arith, eqb-true (U.entry n).op 6 ce, eqb-true (U.entry n).op 7 de))
        bits s a b false true ce de true qe =
            rw qe (start_since U (graph U S.now) n X a b (own_empty a b)
            ∙ sym (other a b ∙ ap (λ (z : Bool). z && operand_now U (graph U S.now) n (U.entry n).b X a b) de))
        bits s a b false true ce de false qe = rw qe
        bits s a b true false ce de true qe =
            rw (qe, eqb-true s t qe) (own_empty a b ∙ sym (other a b ∙ ap (λ (z : Bool). z && operand_now U (graph U S.now) n (U.entry n).b X a b) de))
        bits s a b true false ce de false qe = rw qe

        same : (s : ℕ) → s < tables U → (a b : ℕ) → inside U.members (table_columns U s) a b ≡ true → since_step U (graph U S.now) n X s a b ≡ start_step T S U n X s a b
        same s _ a b _ = bits s a b (eqb (U.entry n).op 6) (eqb (U.entry n).op 7) refl refl (eqb s t) refl

    -- The memo after a turn.
    pub start_memo : {rest m m' w : List ℕ} → Begun old state new n rest m → Begun old state new (n + 1) rest m' → MemoOf U m U.entries w → Fresh U.entries n w →
        MemoOf U m' U.entries w
    start_memo {rest} {m} {m'} {w} has has' memo fresh =
        memo_step_all U new_fine n (omega arith) (start_bits T S U n X) (is_past (U.entry n).op) has
        (subst (λ (Z : Tables). HasState U (tabled S Z) rest m') step_is has') memo fresh
