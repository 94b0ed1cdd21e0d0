-- Where `decide` has read its entry: what is known there of the entry's words, and what a call on an operand asks.
use Prim.Native.Nat.{ℕ, ◌<◌, ◌≤◌}
use mathlib.Core.Path.{◌≡◌, refl, sym, ap, ◌∙◌, subst}
use mathlib.Core.Bool.{Bool, true, false, ◌&&◌}
use mathlib.Core.List.{List}
use mathlib.Core.Logic.{◌⊎◌, ⊎_elim}
use native.Mathlib.Omega.{arith}
use lib.Dec.{eqb, ltb}
use lib.ListN.{replicate}
use borrow.Author.Tests.{lt-ltb, ltb-true, eqb-true, eq-eqb}
use Rattle.sets.specs.Sets.{bit}
use Rattle.sets.proofs.Finite.{and_left, and_right, and_implied, not_both, or_left, or_right, any_elim}
use Rattle.theory.specs.Formula.{first_operand, second_operand, third_operand, is_past}
use Rattle.theory.specs.Formula.Operand.{variable, label, entry}
use Rattle.theory.specs.Meaning.{Assignment, assign}
use Rattle.theory.specs.Terms.{Terms, labels}
use Rattle.theory.specs.Fit.{Good, GoodEntry}
use Rattle.memory.specs.Layout.{terms_of}
use Rattle.deciding.specs.private.Rows.{edge, past_event, assigned, Ready, RowsAsked, Has, in_row, ahead, behind, Senders}
use Rattle.theory.proofs.Good.{first_variable, first_binder, first_label, first_lower, second_lower, third_lower, third_count}
use Rattle.memory.proofs.Accepted.{good}
use Rattle.deciding.proofs.Assignments.{vars_zeros, vars_assign}

four_up : (o : ℕ) → (o ≡ 0 → ⊥) → (o ≡ 1 → ⊥) → (o ≡ 2 → ⊥) → (o ≡ 3 → ⊥) → 4 ≤ o
four_up o p q r s = omega arith

eight_up : (o : ℕ) → 4 ≤ o → (o ≡ 4 → ⊥) → (o ≡ 5 → ⊥) → (o ≡ 6 → ⊥) → (o ≡ 7 → ⊥) → 8 ≤ o
eight_up o l p q r s = omega arith

none_left : (o : ℕ) → 8 ≤ o → o < 12 → (o ≡ 8 → ⊥) → (o ≡ 9 → ⊥) → (o ≡ 10 → ⊥) → (o ≡ 11 → ⊥) → ⊥
none_left o l h p q r s = omega arith

-- The words of entry i as the locals o, a and b hold them, the number r of relations and the set all of the members.
pub record Site (terms index rel past : List ℕ) (g : Assignment) (x i want o a b r all : ℕ) : Type 0 where
  pub ready : Ready terms index rel past
  pub asked : RowsAsked (terms_of terms) g i want
  pub o_is : o ≡ ((terms_of terms).entry i).op
  pub a-is : a ≡ ((terms_of terms).entry i).a
  pub b-is : b ≡ ((terms_of terms).entry i).b
  pub r-is : r ≡ (terms_of terms).relations
  pub all-is : Has all (λ k. ltb k (terms_of terms).members)

module _ {terms index rel past : List ℕ} (ready : Ready terms index rel past) where
  pub entry_short : (i : ℕ) → i < (terms_of terms).entries → i < 65536
  entry_short i l = let q = (good terms ready.good).few_entries in omega arith

  pub member_short : (m : ℕ) → m < (terms_of terms).members → m < 64
  member_short m l = let q = (good terms ready.good).few_members in omega arith

  pub members_few : (n : ℕ) → n ≡ (terms_of terms).members → n < 65
  members_few n e = let q = (good terms ready.good).few_members in omega arith

  -- The set of all members.
  pub mask_is : (s n : ℕ) → Has s (λ m. ltb m 64 && ltb m n) → n ≡ (terms_of terms).members → Has s (λ m. ltb m (terms_of terms).members)
  mask_is s n h e m =
      h m ∙ ap (λ (k : ℕ). ltb m 64 && ltb m k) e
      ∙ and_implied (ltb m 64) (ltb m (terms_of terms).members) (λ q. lt-ltb m 64 (member_short m (ltb-true m (terms_of terms).members q)))

module _ {terms index rel past : List ℕ} {g : Assignment} {x i want o a b r all : ℕ} (s : Site terms index rel past g x i want o a b r all) where
  abbrev T : Terms
  T = terms_of terms

  abbrev N : ℕ
  N = T.members

  abbrev E : ℕ → ℕ → Bool
  E j k = edge r rel (past_event T past) a j k

  pub terms_good : Good T
  terms_good = good terms s.ready.good

  pub entry_good : GoodEntry T i
  entry_good = terms_good.entry i s.asked.exists

  pub op-is : (k : ℕ) → o ≡ k → (T.entry i).op ≡ k
  op-is k e = sym s.o_is ∙ e

  -- ---- the operands, by kind
  pub a_lower : (k : ℕ) → o ≡ k → first_operand k ≡ entry → a < i
  a_lower k e q = subst (λ (y : ℕ). y < i) (sym s.a-is) (first_lower entry_good (ap first_operand (op-is k e) ∙ q))

  pub b_lower : (k : ℕ) → o ≡ k → second_operand k ≡ entry → b < i
  b_lower k e q = subst (λ (y : ℕ). y < i) (sym s.b-is) (second_lower entry_good (ap second_operand (op-is k e) ∙ q))

  pub c_lower : (c k : ℕ) → c ≡ (T.entry i).c → o ≡ k → third_operand k ≡ entry → c < i
  c_lower c k z e q = subst (λ (y : ℕ). y < i) (sym z) (third_lower entry_good (ap third_operand (op-is k e) ∙ q))

  pub c_some : (c : ℕ) → c ≡ (T.entry i).c → o ≡ 11 → 0 < c
  c_some c z e = subst (λ (y : ℕ). 0 < y) (sym z) (third_count entry_good (ap third_operand (op-is 11 e))).0

  pub a_variable : (k : ℕ) → o ≡ k → first_operand k ≡ variable → a < 16
  a_variable k e q = subst (λ (y : ℕ). y < 16) (sym s.a-is) (first_variable entry_good (ap first_operand (op-is k e) ∙ q))

  pub a_binder : o ≡ 8 → a < 16
  a_binder e = subst (λ (y : ℕ). y < 16) (sym s.a-is) (first_binder entry_good (ap first_operand (op-is 8 e))).1

  a_label : (k : ℕ) → o ≡ k → first_operand k ≡ label → a < labels T
  a_label k e q = subst (λ (y : ℕ). y < labels T) (sym s.a-is) (first_label entry_good (ap first_operand (op-is k e) ∙ q))

  pub few_relations : r < 17
  few_relations = subst (λ (y : ℕ). y < 17) (sym s.r-is) terms_good.few_relations

  pub want_below : (m : ℕ) → bit want m ≡ true → m < 64
  want_below m e = member_short s.ready m (s.asked.wanted m e)

  pub var_below : (y : ℕ) → y < 16 → g y < 64
  var_below y l = member_short s.ready (g y) (s.asked.vars.low y l)

  -- An operator is one of the twelve.
  pub no_other : (o ≡ 0 → ⊥) → (o ≡ 1 → ⊥) → is_past o ≡ false → (o ≡ 2 → ⊥) → (o ≡ 3 → ⊥) → (o ≡ 4 → ⊥) → (o ≡ 5 → ⊥) → (o ≡ 8 → ⊥) → (o ≡ 9 → ⊥)
      → (o ≡ 10 → ⊥) → (o ≡ 11 → ⊥) → ⊥
  no_other n0 n1 np n2 n3 n4 n5 n8 n9 n10 n11 =
      none_left o
      (eight_up o (four_up o n0 n1 n2 n3) n4 n5
      (λ e. not_both _ (or_left (eqb o 6) (eqb o 7) (eq-eqb o 6 e)) np)
      (λ e. not_both _ (or_right (eqb o 6) (eqb o 7) (eq-eqb o 7 e)) np))
      (subst (λ (y : ℕ). y < 12) (sym s.o_is) entry_good.known) n8 n9 n10 n11

  -- ---- a call on an operand
  operand : (f w : ℕ) → f < i → ((m : ℕ) → bit w m ≡ true → m < N) → RowsAsked T g f w
  operand f w l h = record {
    exists = (let p : i < T.entries = s.asked.exists in omega arith);
    wanted = h;
    vars = s.asked.vars;
  }

  pub operand_same : (f : ℕ) → f < i → RowsAsked T g f want
  operand_same f l = operand f want l s.asked.wanted

  pub operand_all : (f : ℕ) → f < i → RowsAsked T g f all
  operand_all f l = operand f all l (λ m e. ltb-true m N (sym (s.all-is m) ∙ e))

  pub operand_one : (f w y : ℕ) → f < i → y < 16 → Has w (λ m. eqb m (g y)) → RowsAsked T g f w
  operand_one f w y l p h =
      operand f w l (λ m e. subst (λ (k : ℕ). k < N) (sym (eqb-true m (g y) (sym (h m) ∙ e))) (s.asked.vars.low y p))

  pub inside : (k : ℕ) → o ≡ k → first_operand k ≡ label → (j l : ℕ) → j < 64 → E j l ≡ true → (j < N) × (l < N)
  inside k e q j l h t =
      s.ready.inside a j l (a_label k e q) h (subst (λ (y : ℕ). edge y rel (past_event T past) a j l ≡ true) s.r-is t)

  -- out and many.
  pub ahead_lower : (o ≡ 4) ⊎ (o ≡ 11) → b < i
  ahead_lower = ⊎_elim (λ e. b_lower 4 e refl) (λ e. b_lower 11 e refl)

  pub ahead_inside : (o ≡ 4) ⊎ (o ≡ 11) → (j l : ℕ) → j < 64 → E j l ≡ true → (j < N) × (l < N)
  ahead_inside = ⊎_elim (λ e. inside 4 e refl) (λ e. inside 11 e refl)

  pub operand_ahead : (w from : ℕ) → (o ≡ 4) ⊎ (o ≡ 11) → Has w (ahead E from) → RowsAsked T g b w
  operand_ahead w from e h = operand b w (ahead_lower e) (λ k t.
      let y : (j : ℕ) × (j < 64) × ((bit from j && E j k) ≡ true) = any_elim 64 (λ j. bit from j && E j k) (sym (h k) ∙ t) in
      (ahead_inside e y.0 k y.1 (and_right (bit from y.0) (E y.0 k) y.2)).1)

  pub operand_behind : (w from : ℕ) → o ≡ 5 → Senders r (past_event T past) a all from → Has w (behind E from want) → RowsAsked T g b w
  operand_behind w from e send h = operand b w (b_lower 5 e refl) (λ j t.
      ltb-true j N (sym (s.all-is j) ∙ send.within j (and_left (bit from j) _ (sym (h j) ∙ t))))

  -- Under the binding of a, at m alone.
  pub operand_bound : (m w : ℕ) (g' : Assignment) → o ≡ 8 → bit want m ≡ true → ((y : ℕ) → g' y ≡ assign g a m y) → Has w (λ k. eqb k m)
      → RowsAsked T g' b w
  operand_bound m w g' e t hg hw = record {
    exists = (let p : i < T.entries = s.asked.exists in let l : b < i = b_lower 8 e refl in omega arith);
    wanted = λ k q. subst (λ (v : ℕ). v < N) (sym (eqb-true k m (sym (hw k) ∙ q))) (s.asked.wanted m t);
    vars = vars_assign a m (a_binder e) (s.asked.wanted m t) hg s.asked.vars;
  }

  -- The first formula of a reach, where every variable stands for member 0.
  pub operand_zeros : o ≡ 10 → RowsAsked T (assigned (replicate 16 0)) b want
  operand_zeros e = record {
    exists = (let p : i < T.entries = s.asked.exists in let l : b < i = b_lower 10 e refl in omega arith);
    wanted = s.asked.wanted;
    vars = vars_zeros terms_good.some_member;
  }

  -- The second, at the members that the rows f of the first reach.
  pub operand_reached : (c need : ℕ) (f : List ℕ) → c ≡ (T.entry i).c → o ≡ 10 → Has need (ahead (in_row f) want)
      → ((m k : ℕ) → bit want m ≡ true → in_row f m k ≡ true → k < N) → RowsAsked T g c need
  operand_reached c need f z e h inside-row = operand c need (c_lower c 10 z e refl) (λ k t.
      let y : (m : ℕ) × (m < 64) × ((bit want m && in_row f m k) ≡ true) = any_elim 64 (λ m. bit want m && in_row f m k) (sym (h k) ∙ t) in
      inside-row y.0 k (and_left (bit want y.0) _ y.2) (and_right (bit want y.0) _ y.2))

-- Fewer members of an entry.
pub asked_fewer : {T : Terms} {g : Assignment} {i want : ℕ} (need : ℕ) → RowsAsked T g i want → ((a : ℕ) → bit need a ≡ true → bit want a ≡ true) → RowsAsked T g i need
asked_fewer need h q = record { exists = h.exists; wanted = λ m e. h.wanted m (q m e); vars = h.vars }
