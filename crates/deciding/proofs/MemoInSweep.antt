-- A memo over the steps of a sweep: storing the table of entry n changes nothing that an entry below n sees.
use Prim.Native.Nat.{ℕ, ◌+◌, ◌*◌, ◌<◌, ◌≤◌}
use native.Mathlib.Omega.{arith}
use mathlib.Core.Path.{◌≡◌, refl, sym, ap, ◌∙◌, subst}
use mathlib.Core.Bool.{Bool, true, false, cond, ◌&&◌}
use mathlib.Core.List.{List}
use lib.Dec.{eqb, ltb}
use lib.ListN.{length}
use borrow.Author.Tests.{ltb-true, ltb-false, ne_eqb}
use Rattle.sets.specs.Sets.{bit}
use Rattle.sets.proofs.Finite.{and_under, and_left}
use Rattle.theory.specs.Formula.{number}
use Rattle.theory.specs.Meaning.{Assignment}
use Rattle.theory.specs.Terms.{Terms, formula}
use Rattle.theory.specs.Moment.{graph}
use Rattle.theory.specs.Tables.{Tables, State, store}
use Rattle.theory.specs.Fit.{Good}
use Rattle.deciding.specs.private.Rows.{opened, cell, Vars}
use Rattle.deciding.specs.private.Moving.{HasState, tabled}
use Rattle.deciding.specs.private.Memo.{slot_of, have_of, Slot, MemoOf, Above, Fresh, column_of}
use Rattle.theory.proofs.Unfolding.{number_lt, table_spelled, visible_spelled}
use Rattle.theory.proofs.Places.{Among}
use Rattle.theory.proofs.MeaningNow.{SameTable, now_cong}
use Rattle.deciding.proofs.SameDecision.{relations_of, past_of, seen}
use Rattle.deciding.proofs.Remembering.{empty_slot}

-- Every variable stands for a member, the open one too.
opened_among : (N : ℕ) (g : Assignment) (x b : ℕ) → 0 < N → b < N → Vars N g → Among N (opened g x b)
opened_among N g x b some l v y = go (eqb y x && ltb y 16) (ltb y 16) refl
  where
    mine : (d : Bool) → ltb y 16 ≡ d → g y < N
    mine true e = v.low y (ltb-true y 16 e)
    mine false e = subst (λ (z : ℕ). z < N) (sym (v.high y (ltb-false y 16 e))) some

    go : (c d : Bool) → ltb y 16 ≡ d → cond c b (g y) < N
    go true d e = l
    go false d e = mine d e

-- Tables with that of number t stored, or not.
other_table : (t : ℕ) (B : ℕ → ℕ → Bool) (X : Tables) (c : Bool) (s : ℕ) → s < t → (a b : ℕ) → cond c (store t B X) X s a b ≡ X s a b
other_table t B X true s l a b = ap (λ (c : Bool). cond c (B a b) (X s a b)) (ne_eqb s t (λ e. let z : ⊥ = omega arith in z))
other_table t B X false s l a b = refl

module _ (T : Terms) (fine : Good T) {S : State} {rest m m' : List ℕ} (n : ℕ) (nl : n ≤ T.entries) (B : ℕ → ℕ → Bool) (c : Bool)
    (has : HasState T S rest m) (has' : HasState T (tabled S (cond c (store (number T.entry n) B S.table) S.table)) rest m') where
  abbrev X' : Tables
  X' = cond c (store (number T.entry n) B S.table) S.table

  cell_step : (g : Assignment) (x k : ℕ) → k < n → Vars T.members g → (a b : ℕ) → a < T.members →
      cell T (relations_of m) (past_of m) g x k a b ≡ cell T (relations_of m') (past_of m') g x k a b
  unfolding cell
  cell_step g x k kl v a b al = and_under (ltb b T.members) _ _ (λ e.
      let w : Among T.members (opened g x b) = opened_among T.members g x b fine.some_member (ltb-true b T.members e) v in
      seen T fine has (opened g x b) k a (omega arith) w al
      ∙ now_cong T.members (graph T S.now) (graph T S.now) S.table X' (λ l i j _ _. refl) (formula T k) (opened g x b) a w al
      (visible_spelled T.entry (SameTable T.members S.table X') k
      (λ j jl p. record {
        fit = (fine.entry j (omega arith)).columns-fit p;
        bits = rw (table_spelled T.entry j p) (λ i i' _. sym (other_table (number T.entry n) B S.table c (number T.entry j) (number_lt T.entry j n (omega arith) p) i i'));
      }))
      ∙ sym (seen T fine has' (opened g x b) k a (omega arith) w al))

  slot_step : (k : ℕ) → k < n → {s : List ℕ} → Slot T (relations_of m) (past_of m) k s → Slot T (relations_of m') (past_of m') k s
  slot_step k kl {s} h = record {
    covers = h.covers;
    members = h.members;
    right = λ g v u a b e. h.right g v u a b e ∙ cell_step g (column_of s) k kl v a b (h.members a (and_left (bit (have_of s) a) _ e));
  }

  pub memo_step : {w : List ℕ} → MemoOf T m n w → MemoOf T m' n w
  memo_step h = record { slot = λ k kl f. slot_step k kl (h.slot k kl f) }

  -- Where the slots from n on have no rows.
  pub memo_step_all : {w : List ℕ} → MemoOf T m T.entries w → Fresh T.entries n w → MemoOf T m' T.entries w
  memo_step_all {w} h q = record { slot = λ k kl f. go k kl f (ltb k n) refl }
    where
      go : (k : ℕ) → k < T.entries → 133 * k + 133 ≤ length w → (d : Bool) → ltb k n ≡ d → Slot T (relations_of m') (past_of m') k (slot_of k w)
      go k kl f true e = slot_step k (ltb-true k n e) (h.slot k kl f)
      go k kl f false e = empty_slot k (q.none k (ltb-false k n e) kl f) (h.slot k kl f).covers

pub fresh_more : {N n : ℕ} {m : List ℕ} → Fresh N n m → Fresh N (n + 1) m
fresh_more q = record { none = λ k l kn f. q.none k (omega arith) kn f }

pub fresh_above : {N n : ℕ} {m m' : List ℕ} → Fresh N n m → Above n m m' → Fresh N n m'
fresh_above q a = record {
  none = λ k l kn f. ap have_of (a.same k l) ∙ q.none k l kn (subst (λ (z : ℕ). 133 * k + 133 ≤ z) a.long f);
}
