-- A state that keeps the layout can be stored: all that it has is inside the terms, and its tables
-- without a free variable are level.
use Prim.Native.Nat.{ℕ, ◌-◌, ◌^◌, ◌<◌}
use native.Mathlib.Omega.{arith}
use mathlib.Core.Path.{◌≡◌, refl, sym, ap, subst, ◌∙◌}
use mathlib.Core.Logic.{◌⊎◌, inl, inr}
use mathlib.Core.Bool.{Bool, true, false, false≢true}
use mathlib.Core.List.{List, [], ◌∷◌}
use lib.Dec.{eqb, ltb}
use lib.ListN.{get_or}
use borrow.Author.Tests.{eqb-true, lt-ltb, ltb-true}
use Rattle.sets.specs.Sets.{all_below, bit}
use Rattle.sets.proofs.Finite.{not_both, and_left, and_right, and_both, or_cases, all_out}
use Rattle.sets.proofs.Bits.{bit_zero, bit_below, bit_mask}
use Rattle.theory.specs.Formula.{number, is_past, columns}
use Rattle.theory.specs.Columns.{inside_pair}
use Rattle.theory.specs.Columns as places
use Rattle.theory.specs.Terms.{Terms, formula, tables, past_entry, Alike}
use Rattle.theory.specs.Moment.{Event}
use Rattle.theory.specs.Moment.Event.{none as noEvent, happened as granted, tried as denied}
use Rattle.theory.specs.Fit.{◌⇒◌, closed}
use Rattle.theory.specs.Tables.{State}
use Rattle.theory.proofs.Good.{every_at}
use Rattle.theory.proofs.Past.{PastEntry, past-entry}
use Rattle.theory.proofs.AlikeTerms.{met, met-is, same_number}
use Rattle.memory.specs.Layout.{table_at, table_columns, state_of}
use Rattle.memory.specs.Checks.{table_fits, level, state_tests, good_state, EventInside}
use Rattle.memory.proofs.Row.{fits_inside}
use Rattle.memory.proofs.Inside.{state_inside}
use Rattle.file.proofs.Fit.{EventFits}
use Rattle.file.proofs.Fit.EventFits.{none, happened, tried}
use Rattle.file.proofs.Reread.{Storable}
use Rattle.text.proofs.AlikeWords.{same-entry}

implied : (x : Bool) {y : Bool} → (x ⇒ y) ≡ true → x ≡ true → y ≡ true
implied true h e = h
implied false h e = absurd (false≢true e)

-- A level word with one of its bits has them all.
level_word : (N w b c : ℕ) → level N w ≡ true → bit w b ≡ true → c < N → bit w c ≡ true
level_word N w b c h e l = go (or_cases (eqb w 0) _ h)
  where
    go : (eqb w 0 ≡ true) ⊎ (eqb w (2 ^ N - 1) ≡ true) → bit w c ≡ true
    go (inl p) = absurd (false≢true (sym (bit_zero b) ∙ ap (λ v. bit v b) (sym (eqb-true w 0 p)) ∙ e))
    go (inr p) = ap (λ v. bit v c) (eqb-true w (2 ^ N - 1) p) ∙ bit_mask N c ∙ lt-ltb c N l

-- A bit that is set is one of a table that is there, and at members.
table_inside : (N : ℕ) (cs : List ℕ) (c : Bool) (i w k : ℕ) → table_fits N cs c i w ≡ true → bit w k ≡ true → (c ≡ true) × (places.inside N cs i k ≡ true)
table_inside N [] c i w k e s = let h = fits_inside N c i w k e s in (h.0, and_both _ _ (lt-ltb i N h.1) (lt-ltb k N h.2))
table_inside N (x ∷ []) c i w k e s = let h = fits_inside N c i w k e s in (h.0, and_both _ _ (lt-ltb i N h.1) (lt-ltb k N h.2))
table_inside N (x ∷ y ∷ zs) true i w k e s =
    let l : k < 64 = bit_below w 64 k (ltb-true w (2 ^ 64) (and_left (ltb w (2 ^ 64)) _ e)) s in
    (refl, implied (bit w k) (all_out 64 (λ k. bit w k ⇒ inside_pair N i k) (and_right (ltb w (2 ^ 64)) _ e) k l) s)
table_inside N (x ∷ y ∷ zs) false i w k e s = absurd (not_both (bit w k) s (ap (λ x. bit x k) (eqb-true w 0 e) ∙ bit_zero k))

event_fits : (T : Terms) (e : Event) → EventInside T e → EventFits T.events T.members e
event_fits T noEvent i = none
event_fits T (granted j u v) i = happened i.0 i.1 i.2
event_fits T (denied j u v) i = tried i.0 i.1 i.2

module _ (T : Terms) (w : List ℕ) (good : good_state T w ≡ true) where
  abbrev word : ℕ → ℕ → ℕ
  word t a = get_or w (table_at t a) 0

  test : (k : ℕ) → get_or (state_tests T w) k true ≡ true
  unfolding good_state
  test = every_at (state_tests T w) good

  -- A bit of a table, in its word.
  record Bit (t a b : ℕ) : Type 0 where
    pub table : t < 32
    pub member : a < 64
    pub set : bit (word t a) b ≡ true

  bit-of : (t a b : ℕ) → (state_of w).table t a b ≡ true → Bit t a b
  unfolding state_of
  bit-of t a b e = record {
    table = ltb-true t 32 (and_left (ltb t 32) _ e);
    member = ltb-true a 64 (and_left (ltb a 64) _ (and_right (ltb t 32) _ e));
    set = and_right (ltb a 64) _ (and_right (ltb t 32) _ e);
  }

  of_bit : (t a b : ℕ) → Bit t a b → (state_of w).table t a b ≡ true
  unfolding state_of
  of_bit t a b s = and_both (ltb t 32) _ (lt-ltb t 32 s.table) (and_both (ltb a 64) _ (lt-ltb a 64 s.member) s.set)

  inside : (t a b : ℕ) → (state_of w).table t a b ≡ true → (t < tables T) × (places.inside T.members (table_columns T t) a b ≡ true)
  inside t a b e =
      let s = bit-of t a b e in
      let i = table_inside T.members (table_columns T t) (ltb t (tables T)) a (word t a) b
      (all_out 64 (λ a. table_fits T.members (table_columns T t) (ltb t (tables T)) a (word t a))
      (all_out 32 (λ t. all_below 64 (λ a. table_fits T.members (table_columns T t) (ltb t (tables T)) a (word t a))) (test 1) t s.table) a s.member) s.set in
      (ltb-true t (tables T) i.0, i.1)

  even : (t a b c : ℕ) → closed (formula T (past_entry T t)) ≡ true → (state_of w).table t a b ≡ true → c < T.members → (state_of w).table t a c ≡ true
  even t a b c p e l =
      let s = bit-of t a b e in
      let q : PastEntry T t = past-entry T t (inside t a b e).0 in
      let n : ℕ = past_entry T t in
      let words : all_below 64 (λ a. level T.members (word (number T.entry n) a)) ≡ true =
      implied (closed (formula T n)) (implied (is_past (T.entry n).op)
      (all_out T.entries (λ n. is_past (T.entry n).op ⇒ (closed (formula T n) ⇒ all_below 64 (λ a. level T.members (word (number T.entry n) a)))) (test 2) n q.exists)
      q.past) p in
      let h : level T.members (word t a) ≡ true =
      subst (λ u. level T.members (word u a) ≡ true) q.numbered (all_out 64 (λ a. level T.members (word (number T.entry n) a)) words a s.member) in
      of_bit t a c (record { table = s.table; member = s.member; set = level_word T.members (word t a) b c h s.set l })

  pub storable : Storable T (state_of w)
  storable = record {
    edges = record { within = (state_inside T w good).edges };
    bits = record { within = inside };
    last = event_fits T (state_of w).now.event (state_inside T w good).event;
    level = record { level = even };
  }

-- Alike terms store the same states.
module _ (T U : Terms) (a : Alike T U) (S : State) where
  storable_met : Storable T S → Storable (met T U) S
  storable_met s = record {
    edges = s.edges;
    bits = record {
      within = λ t b c e. let i = s.bits.within t b c e in (
        subst (λ n. t < n) (same_number T U a T.entries (omega arith)) i.0,
        subst (λ ψ. places.inside T.members (columns ψ) b c ≡ true) (same-entry T U a t (lt-ltb t (tables T) i.0)) i.1,
      );
    };
    last = s.last;
    level = record {
      level = λ t b c d p e l.
          let φ : formula T (past_entry T t) ≡ formula (met T U) (past_entry (met T U) t) = same-entry T U a t (lt-ltb t (tables T) (s.bits.within t b c e).0) in
          s.level.level t b c d (subst (λ ψ. closed ψ ≡ true) (sym φ) p) e l;
    };
  }

  pub storable_alike : Storable T S → Storable U S
  storable_alike s = subst (λ X. Storable X S) (met-is T U a) (storable_met s)
