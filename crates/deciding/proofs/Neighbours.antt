-- What the arms of `decide` along edges show, in plain values: out, in and many.
use Prim.Native.Nat.{ℕ, ◌<◌}
use mathlib.Core.Path.{◌≡◌, refl, sym, ap, ap₂, ◌∙◌, subst}
use mathlib.Core.Bool.{Bool, true, false, cond, ◌&&◌, ◌||◌, and-false}
use mathlib.Core.List.{List}
use mathlib.Core.Logic.{◌⊎◌, ⊎_elim}
use native.Mathlib.Omega.{arith}
use lib.Dec.{eqb, ltb, leb}
use lib.ListN.{length, replicate}
use borrow.Author.Tests.{lt-ltb, ltb-true, lt-leb, eqb-true, eq-eqb, ne_eqb}
use Rattle.sets.specs.Sets.{any_below, count_below, bit}
use Rattle.sets.proofs.Finite.{bool_iff, true_or_false, and_left, and_right, and_both, and_under, or_cases, is_false, not_both, any_intro, any_elim}
use Rattle.sets.proofs.Finite.{count_cong, count_some, count_none, count_wider}
use Rattle.theory.specs.Meaning.{Assignment}
use Rattle.theory.specs.Terms.{Terms}
use Rattle.memory.specs.Layout.{terms_of}
use Rattle.deciding.specs.private.Rows.{edge, past_event, opened, now_at, cell, Rows, Has}
use Rattle.deciding.specs.private.Rows.{in_row, Only, ahead, behind, gathered, scattered, Senders}
use Rattle.deciding.proofs.Loops.{zero_rows, zero_long}
use Rattle.deciding.proofs.Unfolded.{now_out, now_into, now_many}
use Rattle.deciding.proofs.AtEntry.{Site, member_short, terms_good, entry_good, op-is, inside, ahead_inside, want_below, c_some}
use Rattle.deciding.proofs.Operators.{sure, operand_row}

module _ {terms index rel past : List ℕ} {g : Assignment} {x i want o a b r all : ℕ} (s : Site terms index rel past g x i want o a b r all) where
  abbrev T : Terms
  T = terms_of terms

  abbrev N : ℕ
  N = T.members

  abbrev Sure : List ℕ → Type 0
  Sure t = Rows want (cell T rel past g x i) t

  -- f holds now at m, with x standing for v.
  abbrev H : ℕ → ℕ → ℕ → Bool
  H f m v = now_at T rel past (opened g x v) f m

  abbrev E : ℕ → ℕ → Bool
  E j k = edge r rel (past_event T past) a j k

  out-is : o ≡ 4 → (m v : ℕ) → H i m v ≡ any_below N (λ k. E m k && H b k v)
  out-is e m v =
      now_out T rel past (opened g x v) i m (entry_good s) (op-is s 4 e)
      ∙ ap₂ (λ (y z : ℕ). any_below N (λ k. edge T.relations rel (past_event T past) y m k && H z k v)) (sym s.a-is) (sym s.b-is)
      ∙ ap (λ (y : ℕ). any_below N (λ k. edge y rel (past_event T past) a m k && H b k v)) (sym s.r-is)

  into-is : o ≡ 5 → (m v : ℕ) → H i m v ≡ any_below N (λ k. E k m && H b k v)
  into-is e m v =
      now_into T rel past (opened g x v) i m (entry_good s) (op-is s 5 e)
      ∙ ap₂ (λ (y z : ℕ). any_below N (λ k. edge T.relations rel (past_event T past) y k m && H z k v)) (sym s.a-is) (sym s.b-is)
      ∙ ap (λ (y : ℕ). any_below N (λ k. edge y rel (past_event T past) a k m && H b k v)) (sym s.r-is)

  many_is : (c : ℕ) → c ≡ (T.entry i).c → o ≡ 11 → (m v : ℕ) → H i m v ≡ leb c (count_below N (λ k. E m k && H b k v))
  many_is c z e m v =
      now_many T rel past (opened g x v) i m (entry_good s) (op-is s 11 e)
      ∙ ap₂ (λ (y w : ℕ). leb (T.entry i).c (count_below N (λ k. edge T.relations rel (past_event T past) y m k && H w k v))) (sym s.a-is) (sym s.b-is)
      ∙ ap₂ (λ (y w : ℕ). leb w (count_below N (λ k. edge y rel (past_event T past) a m k && H b k v))) (sym s.r-is) (sym z)

  -- out asks for one, many for c.
  asks : (k c : ℕ) → c ≡ (T.entry i).c → k ≡ cond (eqb o 4) 1 c → (o ≡ 4) ⊎ (o ≡ 11) →
      (0 < k) × ((m v : ℕ) → H i m v ≡ leb k (count_below N (λ j. E m j && H b j v)))
  asks k c z q =
      ⊎_elim
      (λ e. let one : k ≡ 1 = q ∙ ap (λ (t : Bool). cond t 1 c) (eq-eqb o 4 e) in (
        subst (λ (y : ℕ). 0 < y) (sym one) (omega arith),
        λ m v. out-is e m v ∙ sym (count_some N (λ j. E m j && H b j v)) ∙ ap (λ (y : ℕ). leb y (count_below N (λ j. E m j && H b j v))) (sym one),
      ))
      (λ e. let same : k ≡ c = q ∙ ap (λ (t : Bool). cond t 1 c) (ne_eqb o 4 (λ u. let none : ⊥ = omega arith in none)) in
      (subst (λ (y : ℕ). 0 < y) (sym same) (c_some s c z e), many_is k (same ∙ z) e))

  -- Nobody counted is fewer than asked for.
  none_counted : (k n : ℕ) {F : ℕ → Bool} → 0 < k → ((j : ℕ) → j < n → F j ≡ false) → leb k (count_below n F) ≡ false
  none_counted k n some none = ap (leb k) (count_none n none) ∙ lt-leb k 0 some

  -- Along a label without an edge.
  no_row : (m v : ℕ) (F : ℕ → Bool) → H i m v ≡ any_below N (λ k. F k && H b k v) → ((k : ℕ) → F k ≡ false) → false ≡ (ltb v N && H i m v)
  no_row m v F e none = sym (is_false _ (λ u.
      let y : (k : ℕ) × (k < N) × ((F k && H b k v) ≡ true) = any_elim N (λ k. F k && H b k v) (sym e ∙ and_right (ltb v N) (H i m v) u) in
      not_both (F y.0) (and_left (F y.0) _ y.2) (none y.0)))

  no_ahead : (k m v : ℕ) → 0 < k → H i m v ≡ leb k (count_below N (λ j. E m j && H b j v)) → ((j : ℕ) → E m j ≡ false) → false ≡ (ltb v N && H i m v)
  no_ahead k m v some is none = sym (ap (◌&&◌ (ltb v N))
      (is ∙ none_counted k N some (λ j l. ap (λ (y : Bool). y && H b j v) (none j))) ∙ and-false (ltb v N))

  pub decide_absent : (c : Bool) {t : List ℕ} → (((eqb o 4 || eqb o 5) || eqb o 11) && c) ≡ true
      → (c ≡ true → (l : List ℕ) (j k : ℕ) → edge r l (past_event T past) a j k ≡ false) → t ≡ replicate 64 0 → Sure t
  decide_absent c q absent z = sure s (record { long = zero_long z; bits = λ m v w. zero_rows z m v }) (λ m v w.
      let none = absent (and_right ((eqb o 4 || eqb o 5) || eqb o 11) c q) rel in
      ⊎_elim
      (λ u. ⊎_elim
      (λ e. no_row m v (λ k. E m k) (out-is (eqb-true o 4 e) m v) (λ k. none m k))
      (λ e. no_row m v (λ k. E k m) (into-is (eqb-true o 5 e) m v) (λ k. none k m))
      (or_cases (eqb o 4) (eqb o 5) u))
      (λ e. no_ahead (T.entry i).c m v (c_some s _ refl (eqb-true o 11 e)) (many_is _ refl (eqb-true o 11 e) m v) (λ k. none m k))
      (or_cases (eqb o 4 || eqb o 5) (eqb o 11) (and_left ((eqb o 4 || eqb o 5) || eqb o 11) c q)))

  pub decide_ahead : (k c from need : ℕ) {f t : List ℕ} → c ≡ (T.entry i).c → k ≡ cond (eqb o 4) 1 c → (o ≡ 4) ⊎ (o ≡ 11)
      → Senders r (past_event T past) a want from → Has need (ahead E from)
      → Rows need (cell T rel past g x b) f → length t ≡ 64 → Only from (gathered E f k) t → Sure t
  decide_ahead k c from need {f} {t} z q e send hn d n h = sure s (record { long = n; bits = λ m v w. h m v }) (λ m v w.
      ⊎_elim (sends m v w) (stays m v w) (true_or_false (bit from m)))
    where
      some : 0 < k
      some = (asks k c z q e).0

      is : (m v : ℕ) → H i m v ≡ leb k (count_below N (λ j. E m j && H b j v))
      is = (asks k c z q e).1

      -- No label leads from m.
      stays : (m v : ℕ) → bit want m ≡ true → bit from m ≡ false → (bit from m && gathered E f k m v) ≡ (ltb v N && H i m v)
      stays m v w none =
          ap (λ (y : Bool). y && gathered E f k m v) none
          ∙ no_ahead k m v some (is m v) (λ j. is_false (E m j) (λ edge_in. not_both (bit from m) (send.enough rel m j w edge_in) none))

      row_is : (m v : ℕ) → bit want m ≡ true → bit from m ≡ true → (j : ℕ) → (E m j && in_row f j v) ≡ (E m j && (ltb v N && H b j v))
      row_is m v w sender j = and_under (E m j) (in_row f j v) (ltb v N && H b j v) (λ edge_in.
          operand_row s b d j v (hn j ∙ any_intro 64 (λ l. bit from l && E l j) m (want_below s m w) (and_both (bit from m) (E m j) sender edge_in)))

      sends : (m v : ℕ) → bit want m ≡ true → bit from m ≡ true → (bit from m && gathered E f k m v) ≡ (ltb v N && H i m v)
      sends m v w sender =
          ap (λ (y : Bool). y && gathered E f k m v) sender
          ∙ ⊎_elim
          (λ u.
          let low : ltb v 64 ≡ true = lt-ltb v 64 (member_short s.ready v (ltb-true v N u)) in
          let few : count_below 64 (λ j. E m j && in_row f j v) ≡ count_below N (λ j. E m j && H b j v) =
          count_cong 64 (λ j l. row_is m v w sender j ∙ ap (λ (y : Bool). E m j && (y && H b j v)) u)
          ∙ count_wider N 64 (λ j. E m j && H b j v) (let q = (terms_good s).few_members in omega arith)
          (λ j l. is_false (E m j && H b j v) (λ q.
          let below : j < N = (ahead_inside s e m j (want_below s m w) (and_left (E m j) (H b j v) q)).1 in
          let none : ⊥ = omega arith in none)) in
          ap₂ ◌&&◌ (low ∙ sym u) (ap (leb k) few ∙ sym (is m v)))
          (λ u.
          ap (◌&&◌ (ltb v 64)) (none_counted k 64 some (λ j l.
          row_is m v w sender j ∙ ap (λ (y : Bool). E m j && (y && H b j v)) u ∙ and-false (E m j)))
          ∙ and-false (ltb v 64) ∙ sym (ap (λ (y : Bool). y && H i m v) u))
          (true_or_false (ltb v N))

  pub decide_into : (from need : ℕ) {f t : List ℕ} → o ≡ 5 → Senders r (past_event T past) a all from → Has need (behind E from want)
      → Rows need (cell T rel past g x b) f → Rows want (scattered E need f) t → Sure t
  decide_into from need {f} {t} e send hn d h = sure s h (λ m v w.
      bool_iff _ _
      (λ u.
      let y : (j : ℕ) × (j < 64) × ((bit need j && (E j m && in_row f j v)) ≡ true) = any_elim 64 (λ j. bit need j && (E j m && in_row f j v)) u in
      let j = y.0 in
      let both : (E j m && in_row f j v) ≡ true = and_right (bit need j) _ y.2 in
      let edge_in : E j m ≡ true = and_left (E j m) (in_row f j v) both in
      let at_j : (ltb v N && H b j v) ≡ true =
      sym (operand_row s b d j v (and_left (bit need j) _ y.2)) ∙ and_right (E j m) (in_row f j v) both in
      and_both (ltb v N) (H i m v) (and_left (ltb v N) (H b j v) at_j)
      (into-is e m v ∙ any_intro N (λ k. E k m && H b k v) j (inside s 5 e refl j m y.1 edge_in).0
      (and_both (E j m) (H b j v) edge_in (and_right (ltb v N) (H b j v) at_j))))
      (λ u.
      let y : (j : ℕ) × (j < N) × ((E j m && H b j v) ≡ true) = any_elim N (λ k. E k m && H b k v)
      (sym (into-is e m v) ∙ and_right (ltb v N) (H i m v) u) in
      let j = y.0 in
      let edge_in : E j m ≡ true = and_left (E j m) (H b j v) y.2 in
      let needed : bit need j ≡ true =
      hn j ∙ and_both (bit from j) _ (send.enough rel j m (s.all-is j ∙ lt-ltb j N y.1) edge_in)
      (any_intro 64 (λ k. E j k && bit want k) m (want_below s m w) (and_both (E j m) (bit want m) edge_in w)) in
      any_intro 64 (λ k. bit need k && (E k m && in_row f k v)) j (member_short s.ready j y.1)
      (and_both (bit need j) _ needed
      (and_both (E j m) (in_row f j v) edge_in
      (operand_row s b d j v needed
      ∙ and_both (ltb v N) (H b j v) (and_left (ltb v N) (H i m v) u) (and_right (E j m) (H b j v) y.2))))))
