-- Rows put at their new numbers, blocks one after another, and the event word; the words that are then there are
-- those of the renumbered state.
use Prim.Native.Nat.{ℕ, zero, suc, ◌+◌, ◌-◌, ◌*◌, ◌/◌, ◌%◌, ◌≤◌, ◌<◌}
use native.Mathlib.Omega.{arith}
use mathlib.Core.Path.{◌≡◌, refl, sym, ap, ap₂, ◌∙◌}
use mathlib.Core.Logic.{◌⊎◌, inl, inr}
use mathlib.Core.Bool.{Bool, true, false, cond, ◌&&◌, false≢true, and_assoc}
use mathlib.Core.List.{List, [], ◌∷◌, ◌++◌}
use lib.Dec.{eqb, ltb}
use lib.ListN.{length, get_or, set, drop, length-set, get_or-append, get_or-eq_default}
use lib.Seq.{get_or-set_same, get_or-set_other, drop-set-lt, drop-drop}
use borrow.Author.Tests.{eqb-true, eq-eqb, lt-ltb, ltb-true, ltb-false}
use borrow.Rule.Slice.PartMut.{put_mid}
use Rattle.sets.specs.Sets.{any_below, bit}
use Rattle.sets.proofs.Finite.{bool_iff, is_false, not_both, and_left, and_right, and_both, and_under, any_intro, any_elim, any_cong, last_or_below}
use Rattle.sets.proofs.Bits.{same_bits}
use Rattle.theory.specs.Formula.{Formula, free, those, or_target, columns}
use Rattle.theory.specs.Columns.{inside, word_under, bit_under}
use Rattle.theory.specs.Terms.{Terms, formula, tables, past_entry}
use Rattle.theory.specs.Moment.{Event}
use Rattle.theory.specs.Moment.Event.{none, happened, tried}
use Rattle.theory.specs.Tables.{State}
use Rattle.memory.specs.Layout.{state_words, table_at, event_at, event_of, event_word, state_of, table_columns, words_of}
use Rattle.memory.specs.Checks.{good_event, state_tests, good_state}
use Rattle.theory.specs.Fit.{Good}
use Rattle.theory.proofs.Good.{every_at}
use Rattle.memory.proofs.Words.{columns_fitting, words_by, canonical, word_relation, word_of_table, word_edge, word_table, length_words}
use Rattle.theory.specs.NewNumbers.{new_number, old_number, renumbers, renumber_event}
use Rattle.theory.specs.MembersRenumbered.{Renumbering, state_by}
use Rattle.calls.specs.Renumbering.{renumbered_words}
use Rattle.calls.proofs.MembersNumbers.{renumbering}
use Rattle.calls.proofs.MembersLater.{same_below}
use Rattle.deciding.specs.private.Moving.{put}
use Rattle.deciding.proofs.Stored.{put_in, put_other, put_after, put_length, put_back}
use Rattle.renumber.specs.private.Spread.{spread, Apart, Placed, new_event, Moved, Rewritten}
use Rattle.renumber.specs.private.PairRows.{Few, goes_to, Gone, is_two, is_pairs}
use Rattle.renumber.proofs.PairRows.{pairs_relation, pairs_in, pairs_out, two_said}
use Rattle.renumber.proofs.ByBytes.{none_spread}

-- ---- one row after another

pub placed_none : (p : ℕ → ℕ) (from into : List ℕ) → length into ≡ 64 → ((i : ℕ) → get_or into i 0 ≡ 0) → Placed p from into 0
placed_none p from into l z = record { long = l; words = λ a m al. absurd (omega arith); rest = λ a _ _. z (p a) }

module _ (p : ℕ → ℕ) (far : Apart p) (from into : List ℕ) (a : ℕ) (al : a < 64) (q : Placed p from into a) where
  pub placed_more : (k w : ℕ) → k ≡ p a → ((m : ℕ) → bit w m ≡ spread 64 p (get_or from a 0) m) → Placed p from (set into k w) (a + 1)
  placed_more k w e h = record {
    long = length-set into k w ∙ q.long;
    words = λ b m bl. by b m (last_or_below b a (omega arith));
    rest = λ b lo bl. get_or-set_other into k (p b) w 0 (λ z. let same : b ≡ a = far.apart b a bl al (z ∙ e) in omega arith) ∙ q.rest b (omega arith) bl;
  }
    where
      there : k < length into
      there = omega (arith, e, far.below a al, q.long)

      by : (b m : ℕ) → (b < a) ⊎ (b ≡ a) → bit (get_or (set into k w) (p b) 0) m ≡ spread 64 p (get_or from b 0) m
      by b m (inl l) =
          ap (λ (x : ℕ). bit x m) (get_or-set_other into k (p b) w 0 (λ z. let same : b ≡ a = far.apart b a (omega arith) al (z ∙ e) in omega arith)) ∙ q.words b m l
      by b m (inr z) =
          ap (λ (x : ℕ). bit (get_or (set into k w) x 0) m) (ap p z ∙ sym e)
          ∙ ap (λ (x : ℕ). bit x m) (get_or-set_same into k w 0 there) ∙ h m ∙ ap (λ (x : ℕ). spread 64 p (get_or from x 0) m) (sym z)

  -- A row that is 0.
  pub placed_skip : get_or from a 0 ≡ 0 → Placed p from into (a + 1)
  placed_skip e = record {
    long = q.long;
    words = λ b m bl. by b m (last_or_below b a (omega arith));
    rest = λ b lo bl. q.rest b (omega arith) bl;
  }
    where
      by : (b m : ℕ) → (b < a) ⊎ (b ≡ a) → bit (get_or into (p b) 0) m ≡ spread 64 p (get_or from b 0) m
      by b m (inl l) = q.words b m l
      by b m (inr z) =
          ap (λ (x : ℕ). bit (get_or into (p x) 0) m) z ∙ ap (λ (x : ℕ). bit x m) (q.rest a (omega arith) al)
          ∙ none_spread p (get_or from a 0) m e ∙ ap (λ (x : ℕ). spread 64 p (get_or from x 0) m) (sym z)

-- ---- one block after another

pub moved_none : (two : ℕ) (p : ℕ → ℕ) (state before : List ℕ) → Moved two p state before before 0
moved_none two p state before = record {
  long = refl;
  further = refl;
  rows = λ b a m l. absurd (omega arith);
  pairs = λ b i k l. absurd (omega arith);
}

module _ (p : ℕ → ℕ) (far : Apart p) (two : ℕ) (state before : List ℕ) where
  -- block b comes back in ys.
  pub moved_more : (after from ys : List ℕ) (b at : ℕ) → b < 48 → at ≡ 64 * b → 3073 ≤ length before → ((a : ℕ) → a < 64 → get_or from a 0 ≡ get_or state (at + a) 0) →
      length ys ≡ 64 → (bit two b ≡ false → Placed p from ys 64) → (bit two b ≡ true → Gone p (λ a. get_or from a 0) ys 256) → Moved two p state before after b →
      Moved two p state before (put_mid at (at + 64 - at) after ys) (b + 1)
  moved_more after from ys b at bl e lb same long placed gone h =
      rw (put_back at (at + 64) after ys ys refl (omega (arith, long))) (record {
        long = put_length at ys after fits ∙ h.long;
        further = put_after at ys after fits event_at (omega (arith, long)) ∙ h.further;
        rows = λ c a m cl one al. rows c a m one al (last_or_below c b (omega arith));
        pairs = λ c i k cl tw il. pairs c i k tw il (last_or_below c b (omega arith));
      })
    where
      fits : at + length ys ≤ length after
      fits = omega (arith, long, h.long, lb)

      rows : (c a m : ℕ) → bit two c ≡ false → a < 64 → (c < b) ⊎ (c ≡ b) →
          bit (get_or (put at ys after) (64 * c + p a) 0) m ≡ spread 64 p (get_or state (64 * c + a) 0) m
      rows c a m one al (inl l) =
          let there : p a < 64 = far.below a al in
          ap (λ (x : ℕ). bit x m) (put_other at ys after fits (64 * c + p a) (λ lo hi. omega arith)) ∙ h.rows c a m l one al
      rows c a m one al (inr z) =
          let there : p a < 64 = far.below a al in
          let place : 64 * c + p a ≡ at + p a = omega arith in
          let home : at + a ≡ 64 * c + a = omega arith in
          ap (λ (x : ℕ). bit (get_or (put at ys after) x 0) m) place
          ∙ ap (λ (x : ℕ). bit x m) (put_in at ys after fits (p a) (omega (arith, long)))
          ∙ (placed (ap (bit two) (sym z) ∙ one)).words a m al
          ∙ ap (λ (x : ℕ). spread 64 p x m) (same a al ∙ ap (λ (x : ℕ). get_or state x 0) home)

      pairs : (c i k : ℕ) → bit two c ≡ true → i < 64 → (c < b) ⊎ (c ≡ b) →
          bit (get_or (put at ys after) (64 * c + i) 0) k ≡ any_below 256 (λ d. goes_to p (λ a. get_or state (64 * c + a) 0) d i k)
      pairs c i k tw il (inl l) =
          ap (λ (x : ℕ). bit x k) (put_other at ys after fits (64 * c + i) (λ lo hi. omega arith)) ∙ h.pairs c i k l tw il
      pairs c i k tw il (inr z) =
          let place : 64 * c + i ≡ at + i = omega arith in
          ap (λ (x : ℕ). bit (get_or (put at ys after) x 0) k) place
          ∙ ap (λ (x : ℕ). bit x k) (put_in at ys after fits i (omega (arith, long)))
          ∙ (gone (ap (bit two) (sym z) ∙ tw)).bits i k
          ∙ any_cong 256 (λ d dl. ap (λ w. eqb i (4 * p (d / 16) + p (d % 16) / 4) && any_below 16 (λ c. bit w (16 * (d % 4) + c) && eqb k (16 * (p (d % 16) % 4) + p c)))
          (same (d / 4) (omega arith) ∙ ap (λ (x : ℕ). get_or state x 0) (let home : at + d / 4 ≡ 64 * c + d / 4 = omega arith in home)))

  -- Then the event word.
  pub rewritten : (T : Terms) → ((b : ℕ) → bit two b ≡ is_pairs T (tables T) b) → (after : List ℕ) (w : ℕ) → state_words ≤ length before → w ≡ new_event p (get_or state event_at 0) →
      Moved two p state before after 48 → Rewritten T p state before (set after event_at w)
  rewritten T is after w long e h = record {
    long = length-set after event_at w ∙ h.long;
    further = drop-set-lt state_words after event_at w (omega arith) ∙ sym (drop_more after) ∙ ap (drop 1) h.further ∙ drop_more before;
    rows = λ b a m bl one al.
        let there : p a < 64 = far.below a al in
        ap (λ (x : ℕ). bit x m) (untouched (64 * b + p a) (omega arith)) ∙ h.rows b a m bl (is b ∙ one) al;
    pairs = λ b i k bl tw il. ap (λ (x : ℕ). bit x k) (untouched (64 * b + i) (omega arith)) ∙ h.pairs b i k bl (is b ∙ tw) il;
    event = get_or-set_same after event_at w 0 (omega (arith, h.long)) ∙ e;
  }
    where
      untouched : (i : ℕ) → i < event_at → get_or (set after event_at w) i 0 ≡ get_or after i 0
      untouched i l = get_or-set_other after event_at i w 0 (λ z. omega arith)

      drop_more : (l : List ℕ) → drop 1 (drop event_at l) ≡ drop state_words l
      drop_more l = drop-drop 1 event_at l

-- ---- the event word

-- The event word of a state that keeps the layout is small.
event_small : (T : Terms) → Good T → (w : ℕ) → good_event T w ≡ true → w < 131073
event_small T fine zero g = omega arith
event_small T fine (suc n) g = go (ltb (n / 4096) 16) refl (ltb-true _ T.events (and_left _ _ g))
  where
    go : (c : Bool) → ltb (n / 4096) 16 ≡ c → cond c (n / 4096) (n / 4096 - 16) < T.events → suc n < 131073
    go true z l = omega (arith, ltb-true (n / 4096) 16 z)
    go false z l = omega (arith, l, fine.few_events)

-- ---- the renumbered state

-- What check 15 says of rows.
pub apart_of : (N : ℕ) (p : List ℕ) → N < 65 → renumbers N p ≡ true → Apart (new_number p)
unfolding renumbers
apart_of N p small ok = record {
  below = λ a al. by a al (ltb a N) refl;
  apart = λ a b al bl e. sym (r.back a) ∙ ap (old_number N p) e ∙ r.back b;
}
  where
    r : Renumbering N (new_number p) (old_number N p)
    r = renumbering N p ok

    long : length p ≡ N
    long = eqb-true (length p) N (and_left (eqb (length p) N) _ ok)

    by : (a : ℕ) → a < 64 → (c : Bool) → ltb a N ≡ c → new_number p a < 64
    by a al true e = let z : new_number p a < N = r.new a (ltb-true a N e) in omega arith
    by a al false e =
        let z : new_number p a ≡ a = get_or-eq_default p a (let h : N ≤ a = ltb-false a N e in omega (arith, long)) in
        omega arith

pub long_of : (N : ℕ) (p : List ℕ) → N < 65 → renumbers N p ≡ true → length p ≤ 64
unfolding renumbers
long_of N p small ok = omega (arith, eqb-true (length p) N (and_left (eqb (length p) N) _ ok))

-- And of so few members.
pub few_of : (N : ℕ) (p : List ℕ) → renumbers N p ≡ true → N < 17 → Few (new_number p)
unfolding renumbers
few_of N p ok few a al = by (ltb a N) refl
  where
    long : length p ≡ N
    long = eqb-true (length p) N (and_left (eqb (length p) N) _ ok)

    by : (c : Bool) → ltb a N ≡ c → new_number p a < 16
    by true e = let z : new_number p a < N = (renumbering N p ok).new a (ltb-true a N e) in omega arith
    by false e =
        let z : new_number p a ≡ a = get_or-eq_default p a (let h : N ≤ a = ltb-false a N e in omega (arith, long)) in
        omega arith

spread_permuted : (N : ℕ) (p q : ℕ → ℕ) → Renumbering N p q → Apart p → (w : ℕ) → ((b : ℕ) → bit w b ≡ true → b < 64) → (m : ℕ) → spread 64 p w m ≡ bit w (q m)
unfolding spread
spread_permuted N p q r far w small m =
    bool_iff _ _
    (λ e. let a = any_elim 64 (λ k. bit w k && (ltb m 64 && eqb m (p k))) e in
    ap (bit w) (ap q (eqb-true m (p a.0) (and_right (ltb m 64) (eqb m (p a.0)) (and_right (bit w a.0) (ltb m 64 && eqb m (p a.0)) a.2))) ∙ r.back a.0)
    ∙ and_left (bit w a.0) (ltb m 64 && eqb m (p a.0)) a.2)
    (λ e. let l : q m < 64 = small (q m) e in
    let z : p (q m) < 64 = far.below (q m) l in
    let f : p (q m) ≡ m = r.forth m in
    any_intro 64 (λ k. bit w k && (ltb m 64 && eqb m (p k))) (q m) l
    (and_both (bit w (q m)) (ltb m 64 && eqb m (p (q m))) e (and_both (ltb m 64) (eqb m (p (q m))) (lt-ltb m 64 (omega arith)) (eq-eqb m (p (q m)) (sym f)))))

-- The event of a state's words, and that old numbers do not count in an event.
now_event : (w : List ℕ) → event_of (get_or w event_at 0) ≡ (state_of w).now.event
unfolding state_of
now_event w = refl

same_event : (p q : ℕ → ℕ) (E : Event) → event_word (renumber_event p p E) ≡ event_word (renumber_event p q E)
same_event p q none = refl
same_event p q (happened j u v) = refl
same_event p q (tried j u v) = refl

pub event_of_good : (T : Terms) → Good T → (w : List ℕ) → good_state T w ≡ true → get_or w event_at 0 < 131073
unfolding good_state
event_of_good T fine w g = event_small T fine (get_or w event_at 0) (every_at (state_tests T w) g 3)

-- One column.
one_inside : (N : ℕ) (cs : List ℕ) → is_two cs ≡ false → (a b : ℕ) (v : Bool) → (inside N cs a b && v) ≡ (ltb a N && (ltb b N && v))
one_inside N [] one a b v = and_assoc (ltb a N) (ltb b N) v
one_inside N (x ∷ []) one a b v = and_assoc (ltb a N) (ltb b N) v
one_inside N (x ∷ y ∷ zs) one a b v = absurd (false≢true (sym one))

one_under : (q : ℕ → ℕ) (cs : List ℕ) → is_two cs ≡ false → (cs ≡ [] → ⊥) → (X : ℕ → ℕ → Bool) (a b : ℕ) → X (word_under cs q a b) (bit_under cs q a b) ≡ X (q a) (q b)
one_under q [] one some X a b = absurd (some refl)
one_under q (x ∷ []) one some X a b = refl
one_under q (x ∷ y ∷ zs) one some X a b = absurd (false≢true (sym one))

some_column : (f : Formula) → columns f ≡ [] → ⊥
some_column f = go (those 16 0 (free f))
  where
    begun : List ℕ → Bool
    begun [] = false
    begun (x ∷ xs) = true

    go : (xs : List ℕ) → or_target xs ≡ [] → ⊥
    go [] e = not_both true refl (ap begun e)
    go (x ∷ xs) e = not_both true refl (ap begun e)

module _ (T : Terms) (fine : Good T) (numbers state : List ℕ) (ok : renumbers T.members numbers ≡ true)
    (long : state_words ≤ length state) (g : good_state T state ≡ true)
  where
    abbrev p : ℕ → ℕ
    p = new_number numbers

    abbrev q : ℕ → ℕ
    q = old_number T.members numbers

    abbrev r : Renumbering T.members p q
    r = renumbering T.members numbers ok

    abbrev S : State
    S = state_of state

    abbrev S' : State
    S' = state_by T numbers (state_of state)

    far : Apart p
    far = apart_of T.members numbers fine.few_members ok

    undo_below : (a : ℕ) → a < 64 → q a < 64
    undo_below a al = by (ltb a T.members) refl
      where
        by : (c : Bool) → ltb a T.members ≡ c → q a < 64
        by true e = let z : q a < T.members = r.old a (ltb-true a T.members e) in omega (arith, fine.few_members)
        by false e = let z : q a ≡ a = rw e in omega arith

    same_old : (a : ℕ) → ltb (q a) T.members ≡ ltb a T.members
    same_old a = sym (same_below T.members p q r (q a)) ∙ ap (λ (x : ℕ). ltb x T.members) (r.forth a)

    word_of : (i : ℕ) → i < state_words → get_or state i 0 ≡ get_or (words_of T S) i 0
    word_of i l =
        ap (λ (w : List ℕ). get_or w i 0) (canonical T fine.few_members state long g)
        ∙ get_or-append (words_of T S) (drop state_words state) 0 i (omega (arith, length_words T S))

    -- The last of three tests.
    third : (x y z w : Bool) → (x && (y && (z && w))) ≡ true → z ≡ true
    third x y z w e = and_left z w (and_right y (z && w) (and_right x (y && (z && w)) e))

    -- One block: k is its place, there whether it is there, f what it says.
    module _ (before after : List ℕ) (R : Rewritten T p state before after) where
      moved : (k : ℕ) (there : Bool) (f : ℕ → ℕ → Bool) → 64 * k + 64 ≤ event_at →
          ((a m : ℕ) → a < 64 → bit (get_or after (64 * k + p a) 0) m ≡ spread 64 p (get_or state (64 * k + a) 0) m) →
          ((a b : ℕ) → a < 64 → bit (get_or (words_of T S) (64 * k + a) 0) b ≡ there && (ltb a T.members && (ltb b T.members && f a b))) →
          (a m : ℕ) → a < 64 → bit (get_or after (64 * k + a) 0) m ≡ there && (ltb a T.members && (ltb m T.members && f (q a) (q m)))
      moved k there f room gone says a m al =
          let ql : q a < 64 = undo_below a al in
          let w : ℕ = get_or state (64 * k + q a) 0 in
          let here : (b : ℕ) → bit w b ≡ there && (ltb (q a) T.members && (ltb b T.members && f (q a) b)) =
          λ b. ap (λ (x : ℕ). bit x b) (word_of (64 * k + q a) (omega arith)) ∙ says (q a) b ql in
          ap (λ (x : ℕ). bit (get_or after (64 * k + x) 0) m) (sym (r.forth a))
          ∙ gone (q a) m ql
          ∙ spread_permuted T.members p q r far w
          (λ b e. let l : b < T.members = ltb-true b T.members (third there (ltb (q a) T.members) (ltb b T.members) (f (q a) b) (sym (here b) ∙ e)) in omega (arith, fine.few_members)) m
          ∙ here (q m)
          ∙ ap₂ (λ (x y : Bool). there && (x && (y && f (q a) (q m)))) (same_old a) (same_old m)

      as_block : (t a : ℕ) → table_at t a ≡ 64 * (16 + t) + a
      as_block t a = omega arith

      -- A table with one column, or none that is in use.
      row_table : (t : ℕ) → t < 32 → (t < tables T → is_two (table_columns T t) ≡ true → ⊥) → (a m : ℕ) → a < 64 →
          bit (get_or after (table_at t a) 0) m ≡ (ltb t (tables T) && (inside T.members (table_columns T t) a m && S'.table t a m))
      row_table t tl one a m al =
          ap (λ (x : ℕ). bit (get_or after x 0) m) (as_block t a)
          ∙ moved (16 + t) (ltb t (tables T)) (S.table t) (omega arith)
          (λ a m al. R.rows (16 + t) a m (omega arith) (pairs_out T (tables T) t one) al)
          (λ a b bl. ap (λ (x : ℕ). bit (get_or (words_of T S) x 0) b) (sym (as_block t a)) ∙ word_table T S fine.few_members t a b tl bl
          ∙ and_under (ltb t (tables T)) _ _ (λ e. one_inside T.members (table_columns T t) (is_false _ (one (ltb-true t (tables T) e))) a b (S.table t a b)))
          a m al
          ∙ and_under (ltb t (tables T)) _ _ (λ e. let col = is_false _ (one (ltb-true t (tables T) e)) in
          sym (one_inside T.members (table_columns T t) col a m (S'.table t a m)
          ∙ ap (λ (x : Bool). ltb a T.members && (ltb m T.members && x)) (one_under q (table_columns T t) col (some_column (formula T (past_entry T t))) (S.table t) a m)))

      -- A table with two.
      pair-table : (t : ℕ) → t < tables T → is_two (table_columns T t) ≡ true → (a m : ℕ) → a < 64 →
          bit (get_or after (table_at t a) 0) m ≡ (ltb t (tables T) && (inside T.members (table_columns T t) a m && S'.table t a m))
      pair-table t tl two a m al =
          let t32 : t < 32 = omega (arith, fine.few_tables) in
          ap (λ (x : ℕ). bit (get_or after x 0) m) (as_block t a)
          ∙ R.pairs (16 + t) a m (omega arith) (pairs_in T (tables T) t tl two) al
          ∙ two_said T.members p q r (table_columns T t) (columns_fitting T fine t tl) two (S.table t) (λ a. get_or state (64 * (16 + t) + a) 0)
          (λ i k il. ap (λ (x : ℕ). bit x k) (ap (λ (x : ℕ). get_or state x 0) (sym (as_block t i)) ∙ word_of (table_at t i) (omega arith)) ∙ word_table T S fine.few_members t i k t32 il
          ∙ ap (λ (c : Bool). c && (inside T.members (table_columns T t) i k && S.table t i k)) (lt-ltb t (tables T) tl)) a m al
          ∙ sym (ap (λ (c : Bool). c && (inside T.members (table_columns T t) a m && S'.table t a m)) (lt-ltb t (tables T) tl))

      any_table : (t : ℕ) → t < 32 → (a m : ℕ) → a < 64 →
          bit (get_or after (table_at t a) 0) m ≡ (ltb t (tables T) && (inside T.members (table_columns T t) a m && S'.table t a m))
      any_table t tl a m al = by (ltb t (tables T)) refl (is_two (table_columns T t)) refl
        where
          by : (c : Bool) → ltb t (tables T) ≡ c → (d : Bool) → is_two (table_columns T t) ≡ d →
              bit (get_or after (table_at t a) 0) m ≡ (ltb t (tables T) && (inside T.members (table_columns T t) a m && S'.table t a m))
          by true e true f = pair-table t (ltb-true t (tables T) e) f a m al
          by true e false f = row_table t tl (λ _ two. not_both _ two f) a m al
          by false e d f = row_table t tl (λ l _. not_both _ (lt-ltb t (tables T) l) e) a m al

      pub second_words : state_words ≤ length before → after ≡ renumbered_words T numbers state ++ drop state_words before
      second_words lb =
          words_by T S' after (omega (arith, R.long))
          (λ k a kl al. same_bits _ _ (λ m. moved k (ltb k T.relations) (S.now.edge k) (omega arith) (λ a m al. R.rows k a m (omega arith) (pairs_relation T (tables T) k kl) al)
          (λ a b bl. word_edge T S k a b kl bl) a m al ∙ sym (word_edge T S' k a m kl al)) ∙ word_relation T S' k a kl al)
          (λ t a tl al. same_bits _ _ (λ m. any_table t tl a m al ∙ sym (word_table T S' fine.few_members t a m tl al)) ∙ word_of_table T S' t a tl al)
          (R.event ∙ event)
          ∙ ap (λ (l : List ℕ). renumbered_words T numbers state ++ l) R.further
        where
          event : new_event p (get_or state event_at 0) ≡ event_word S'.now.event
          event = same_event p q (event_of (get_or state event_at 0)) ∙ ap (λ (E : Event). event_word (renumber_event p q E)) (now_event state)
