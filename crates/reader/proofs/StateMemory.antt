-- The words of the state that a file says: where they keep the layout, and what the lent memory
-- holds that an accepted text fills.
use Prim.Native.Nat.{ℕ, zero, suc, ◌-◌, ◌^◌, ◌≤◌, ◌<◌}
use native.Mathlib.Omega.{arith}
use mathlib.Core.Path.{◌≡◌, refl, sym, ap, ap₂, subst, ◌∙◌}
use mathlib.Core.Logic.{⊎_elim}
use mathlib.Core.Bool.{Bool, true, false, not, ◌&&◌}
use mathlib.Core.List.{List, [], ◌∷◌, ◌++◌}
use lib.Dec.{eqb, ltb}
use lib.ListN.{length, get_or, drop, length-append, length-drop}
use lib.Seq.{drop_at}
use borrow.Author.Tests.{eqb-true, lt-ltb, ltb-true, not-true}
use Rattle.sets.specs.Sets.{bit, all_below, pack}
use Rattle.sets.proofs.Finite.{bool_iff, not_both, and_left, and_right, or_cases, all_true, all_out, all_cong}
use Rattle.sets.proofs.Bits.{bit_zero, bit_mask}
use Rattle.sets.proofs.Pack.{bit_pack}
use Rattle.theory.specs.Formula.{Formula, number, is_past, free, columns}
use Rattle.theory.specs.Terms.{Terms, formula, tables, past_entry, Alike}
use Rattle.theory.specs.Moment.{Event}
use Rattle.theory.specs.Tables.{State}
use Rattle.theory.specs.Fit.{◌⇒◌, every, closed, Good}
use Rattle.theory.proofs.Unfolding.{number_lt}
use Rattle.theory.proofs.Past.{past-entry, past_is}
use Rattle.theory.proofs.Good.{implied, implies, every_at, every_in}
use Rattle.theory.proofs.AlikeTerms.{met, met-is, same_number, same_formula, same_past}
use Rattle.memory.specs.Layout.{terms_words, state_words, table_at, event_at, terms_of, state_of, words_of, table_columns}
use Rattle.memory.specs.Checks.{table_fits, level, good_event, good_relations, state_tests, good_state, EventInside, Inside as InsideMoment}
use Rattle.memory.specs.Outcome.{checks, opens}
use Rattle.memory.specs.Outcome.Outcome.{passed}
use Rattle.memory.proofs.Row.{fits_row, table_fits_row, level_row}
use Rattle.memory.proofs.Inside.{good-event}
use Rattle.memory.proofs.Front.{state_front, good_front}
use Rattle.memory.proofs.Words.{length_words, word_relation, word_of_table, word_event, now_back}
use Rattle.memory.proofs.Outcomes.{check_passed, open_passed}
use Rattle.file.specs.File.{File, state_said}
use Rattle.file.specs.Reading.{reading}
use Rattle.file.specs.Reading.Reading.{accepted}
use Rattle.file.proofs.Fit.{InsideTables, EventFits}
use Rattle.theory.proofs.Places.{closed_columns}
use Rattle.theory.specs.Columns as places
use Rattle.file.proofs.LevelWords.{Level, level-entry}
use Rattle.file.proofs.Accepted.{Accepted, accepted_good, accepted_level}
use Rattle.reader.specs.Memory.{memory_of}
use Rattle.reader.proofs.TermsMemory.{length_memory, memory_alike, memory_good}

-- ---- the tests of a state are those of terms that are alike

module _ (T U : Terms) (a : Alike T U) (s : List ℕ) where
  tables_met : all_below 32 (λ t. all_below 64 (λ x. table_fits T.members (table_columns T t) (ltb t (tables T)) x (get_or s (table_at t x) 0)))
      ≡ all_below 32 (λ t. all_below 64 (λ x. table_fits T.members (table_columns (met T U) t) (ltb t (tables (met T U))) x (get_or s (table_at t x) 0)))
  tables_met = all_cong 32 (λ t tl. all_cong 64 (λ x xl. go t x (ltb t (tables T)) refl))
    where
      none : (cs : List ℕ) (x w : ℕ) → table_fits T.members cs false x w ≡ eqb w 0
      none [] x w = refl
      none (y ∷ []) x w = refl
      none (y ∷ z ∷ zs) x w = refl

      count : tables T ≡ tables (met T U)
      count = same_number T U a T.entries (omega arith)

      go : (t x : ℕ) (c : Bool) → ltb t (tables T) ≡ c →
          table_fits T.members (table_columns T t) (ltb t (tables T)) x (get_or s (table_at t x) 0)
          ≡ table_fits T.members (table_columns (met T U) t) (ltb t (tables (met T U))) x (get_or s (table_at t x) 0)
      go t x true e =
          ap₂ (λ (cs : List ℕ) (n : ℕ). table_fits T.members cs (ltb t n) x (get_or s (table_at t x) 0))
          (ap columns (same_formula T U a (past_entry T t) (past-entry T t (ltb-true t (tables T) e)).exists ∙ ap (formula (met T U)) (same_past T U a t))) count
      go t x false e =
          ap (λ (b : Bool). table_fits T.members (table_columns T t) b x (get_or s (table_at t x) 0)) e ∙ none (table_columns T t) x (get_or s (table_at t x) 0)
          ∙ sym (ap (λ (b : Bool). table_fits T.members (table_columns (met T U) t) b x (get_or s (table_at t x) 0)) (sym (ap (ltb t) count) ∙ e)
          ∙ none (table_columns (met T U) t) x (get_or s (table_at t x) 0))

  level_met : (n : ℕ) → n < T.entries →
      is_past (T.entry n).op ⇒ (closed (formula T n) ⇒ all_below 64 (λ x. level T.members (get_or s (table_at (number T.entry n) x) 0)))
      ≡ is_past (U.entry n).op ⇒ (closed (formula (met T U) n) ⇒ all_below 64 (λ x. level T.members (get_or s (table_at (number U.entry n) x) 0)))
  level_met n l = λ d. is_past (a.entry n l d).op ⇒ (closed (same_formula T U a n l d) ⇒
      all_below 64 (λ x. level T.members (get_or s (table_at (same_number T U a n (omega arith) d) x) 0)))

  event_met : (w : ℕ) → good_event T w ≡ good_event (met T U) w
  event_met zero = refl
  event_met (suc w) = refl

  state_met : good_state T s ≡ good_state (met T U) s
  unfolding good_state good_relations
  state_met = λ d. every (good_relations T s ∷ tables_met d ∷ all_cong T.entries level_met d ∷ event_met (get_or s event_at 0) d ∷ [])

  pub state_alike : good_state T s ≡ good_state U s
  state_alike = state_met ∙ ap (λ (X : Terms). good_state X s) (met-is T U a)

-- ---- the words keep the layout exactly where the tables without a free variable are level

-- A formula without a free variable has one column.
pub bare_columns : (φ : Formula) → closed φ ≡ true → columns φ ≡ 0 ∷ []
unfolding closed
bare_columns φ q = closed_columns φ (λ v l. not-true (free φ v) (all_out 16 (λ v. not (free φ v)) q v l))

pub event_inside : (T : Terms) {x : Event} → EventFits T.events T.members x → EventInside T x
event_inside T EventFits.none = tt
event_inside T (EventFits.happened j u v) = (j, u, v)
event_inside T (EventFits.tried j u v) = (j, u, v)

module _ (T : Terms) (fine : Good T) (S : State) where
  level_good : EventInside T S.now.event → Level T S.table → good_state T (words_of T S) ≡ true
  unfolding good_state good_relations
  level_good i v = every_in (state_tests T (words_of T S)) test
    where
      even : (n : ℕ) → n < T.entries → is_past (T.entry n).op ≡ true → closed (formula T n) ≡ true → (a : ℕ) → a < 64 →
          level T.members (get_or (words_of T S) (table_at (number T.entry n) a) 0) ≡ true
      even n l p c a al =
          let t : ℕ = number T.entry n in
          let tl : t < tables T = number_lt T.entry n T.entries l p in
          let one : table_columns T t ≡ 0 ∷ [] = ap (λ (k : ℕ). columns (formula T k)) (past_is T n l p) ∙ bare_columns (formula T n) c in
          rw (word_of_table T S t a (omega (arith, fine.few_tables)) al, one, lt-ltb t (tables T) tl)
          (level_row T.members (S.table t) a (S.table t a 0) (λ an b bn.
          bool_iff _ _ (λ e. level-entry T n l p v c a b 0 e fine.some_member) (λ e. level-entry T n l p v c a 0 b e bn)))

      test : (k : ℕ) → get_or (state_tests T (words_of T S)) k true ≡ true
      test zero = all_true 16 (λ k kl. all_true 64 (λ a al.
          rw (word_relation T S k a kl al) (fits_row T.members (ltb k T.relations) (S.now.edge k) a)))
      test (suc zero) = all_true 32 (λ t tl. all_true 64 (λ a al.
          rw (word_of_table T S t a tl al) (table_fits_row T.members fine.few_members (table_columns T t) (ltb t (tables T)) (S.table t) a)))
      test (suc (suc zero)) = all_true T.entries (λ n l.
          implies (is_past (T.entry n).op) (λ p. implies (closed (formula T n)) (λ c. all_true 64 (even n l p c))))
      test (suc (suc (suc zero))) = rw (word_event T S) (good-event T fine S.now.event i)
      test (suc (suc (suc (suc k)))) = refl

  pub good_level : InsideTables T S.table → good_state T (words_of T S) ≡ true → Level T S.table
  unfolding good_state
  good_level inside g = record { level = λ t a b c q e l. each t a b c q e l (placed t a b q (inside.within t a b e)) }
    where
      even : (n : ℕ) → n < T.entries → is_past (T.entry n).op ≡ true → closed (formula T n) ≡ true → (a : ℕ) → a < 64 →
          level T.members (get_or (words_of T S) (table_at (number T.entry n) a) 0) ≡ true
      even n l p c =
          all_out 64 (λ a. level T.members (get_or (words_of T S) (table_at (number T.entry n) a) 0))
          (implied (closed (formula T n)) _ (implied (is_past (T.entry n).op) _
          (all_out T.entries (λ n. is_past (T.entry n).op ⇒ (closed (formula T n) ⇒
          all_below 64 (λ a. level T.members (get_or (words_of T S) (table_at (number T.entry n) a) 0))))
          (every_at (state_tests T (words_of T S)) g 2) n l) p) c)

      placed : (t a b : ℕ) → closed (formula T (past_entry T t)) ≡ true → (t < tables T) × (places.inside T.members (table_columns T t) a b ≡ true) →
          (t < tables T) × (a < T.members) × (b < T.members)
      placed t a b q w =
          let e : ltb a T.members && ltb b T.members ≡ true = rw (bare_columns (formula T (past_entry T t)) q) at w.1 in
          (w.0, ltb-true a T.members (and_left (ltb a T.members) _ e), ltb-true b T.members (and_right (ltb a T.members) _ e))

      each : (t a b c : ℕ) → closed (formula T (past_entry T t)) ≡ true → S.table t a b ≡ true → c < T.members →
          (t < tables T) × (a < T.members) × (b < T.members) → S.table t a c ≡ true
      each t a b c q e l i =
          let o = past-entry T t i.0 in
          let tl : t < 32 = omega (arith, i.0, fine.few_tables) in
          let al : a < 64 = omega (arith, i.1, fine.few_members) in
          let w : ℕ = pack T.members (S.table t a) in
          let word : get_or (words_of T S) (table_at t a) 0 ≡ w = word_of_table T S t a tl al ∙ rw (bare_columns (formula T (past_entry T t)) q, lt-ltb t (tables T) i.0, lt-ltb a T.members i.1) refl in
          let even : level T.members w ≡ true =
          subst (λ (x : ℕ). level T.members x ≡ true) (ap (λ (s : ℕ). get_or (words_of T S) (table_at s a) 0) o.numbered ∙ word)
          (even (past_entry T t) o.exists o.past q a al) in
          ⊎_elim
          (λ z. absurd (not_both _ (bit_pack T.members (S.table t a) b ∙ rw (lt-ltb b T.members i.2) e)
          (ap (λ (x : ℕ). bit x b) (eqb-true w 0 z) ∙ bit_zero b)))
          (λ z. and_right (ltb c T.members) _ (sym (bit_pack T.members (S.table t a) c)
          ∙ ap (λ (x : ℕ). bit x c) (eqb-true w (2 ^ T.members - 1) z) ∙ bit_mask T.members c ∙ lt-ltb c T.members l))
          (or_cases (eqb w 0) _ even)

-- ---- what an accepted text says, put into lent memory

abbrev pub filled : File → List ℕ → List ℕ
filled f terms = memory_of f.terms ++ drop terms_words terms

abbrev pub placed : File → List ℕ → List ℕ
placed f state = words_of f.terms (state_said f) ++ drop state_words state

module _ (text : List ℕ) (f : File) (e : reading text ≡ accepted f) (terms state : List ℕ) (long : state_words ≤ length state) where
  a : Accepted f
  a = accepted_good text f e

  inside : InsideMoment f.terms (state_said f).now
  inside = record { edges = a.edges.within; event = event_inside f.terms a.last }

  pub filled_alike : Alike f.terms (terms_of (filled f terms))
  filled_alike = memory_alike f.terms a.good a.tidy (drop terms_words terms)

  front : state_words ≤ length (words_of f.terms (state_said f))
  front = omega (arith, length_words f.terms (state_said f))

  placed_now : (state_of (placed f state)).now ≡ (state_said f).now
  placed_now =
      ap (λ (s : State). s.now) (state_front (words_of f.terms (state_said f)) (drop state_words state) front)
      ∙ now_back f.terms a.good (state_said f) inside

  pub placed_edges : (state_of (placed f state)).now.edge ≡ f.edges
  placed_edges = λ d. (placed_now d).edge

  placed_long : length (placed f state) ≡ length state
  placed_long =
      length-append (words_of f.terms (state_said f)) (drop state_words state)
      ∙ omega (arith, length_words f.terms (state_said f), length-drop state_words state)

  pub placed_further : drop state_words (placed f state) ≡ drop state_words state
  placed_further = drop_at (words_of f.terms (state_said f)) (drop state_words state) state_words (length_words f.terms (state_said f))

  filled_long : terms_words ≤ length (filled f terms)
  filled_long = omega (arith, length-append (memory_of f.terms) (drop terms_words terms), length_memory f.terms)

  placed_good : good_state (terms_of (filled f terms)) (placed f state) ≡ true
  placed_good =
      sym (state_alike f.terms (terms_of (filled f terms)) filled_alike (placed f state))
      ∙ good_front (words_of f.terms (state_said f)) (drop state_words state) front f.terms a.good
      ∙ level_good f.terms a.good (state_said f) (event_inside f.terms a.last) (accepted_level text f e)

  -- They pass a check, and they open.
  pub checked : checks (filled f terms) (placed f state) ≡ passed
  checked = sym (check_passed (filled f terms) (placed f state) (record {
    long_terms = filled_long;
    long_state = omega (arith, placed_long);
    good_terms = memory_good f.terms a.good a.tidy (drop terms_words terms);
    good-state = placed_good;
  }))

  pub passes : opens (filled f terms) (placed f state) ≡ passed
  unfolding good_state
  passes =
      sym (open_passed (filled f terms) (placed f state) filled_long (omega (arith, placed_long))
      (memory_good f.terms a.good a.tidy (drop terms_words terms)) (every_at (state_tests (terms_of (filled f terms)) (placed f state)) placed_good 0))
