-- What each operator's arm of `decide` shows, in plain values: from what its callees give, that the
-- arm's rows are those asked for.
use Prim.Native.Nat.{ℕ, ◌<◌, ◌≤◌}
use mathlib.Core.Path.{◌≡◌, refl, sym, ap, ap₂, ◌∙◌, subst, fun_ext}
use mathlib.Core.Bool.{Bool, true, false, not, ◌&&◌, ◌||◌, and-true, and_comm, and_self_left, and-or_distrib_left}
use mathlib.Core.List.{List}
use native.Mathlib.Omega.{arith}
use lib.Dec.{eqb, ltb}
use lib.ListN.{length, get_or, replicate}
use borrow.Author.Tests.{lt-ltb, ltb-true, eqb-true, eq-eqb}
use Rattle.sets.specs.Sets.{any_below, bit}
use Rattle.sets.proofs.Finite.{bool_iff, and_left, and_right, and_both, and_under, any_intro, any_elim}
use Rattle.theory.specs.Formula.{number, is_past, columns}
use Rattle.theory.specs.Meaning.{Assignment, assign, alone}
use Rattle.theory.specs.Columns.{columns_fit}
use Rattle.theory.specs.Tables.{recalled}
use Rattle.theory.specs.Terms.{Terms, formula}
use Rattle.memory.specs.Layout.{terms_of}
use Rattle.memory.specs.TableIndex.{index_table, index_columns}
use Rattle.deciding.specs.private.Rows.{table_bit, assigned, opened, open_under, now_at, cell, Rows, Has, RowsAsked}
use Rattle.deciding.specs.private.Rows.{in_row, Added, ahead, Recalled, remembered}
use Rattle.theory.proofs.Unfolding.{number_lt}
use Rattle.deciding.proofs.Loops.{rows_map}
use Rattle.deciding.proofs.Assignments.{opened_same, opened_other, opened_bind, opened_zeros}
use Rattle.deciding.proofs.Unfolded.{now_top, now_var, now_neg, now_or, now_past, now_bind, now-at, now_reach}
use Rattle.deciding.proofs.AtEntry.{Site, member_short, terms_good, entry_good, op-is, want_below, a_variable, a_binder, operand_reached}

not_under : (w h : Bool) → (w && not (w && h)) ≡ (w && not h)
not_under true h = refl
not_under false h = refl

module _ {terms index rel past : List ℕ} {g : Assignment} {x i want o a b r all : ℕ} (s : Site terms index rel past g x i want o a b r all) where
  abbrev T : Terms
  T = terms_of terms

  abbrev N : ℕ
  N = T.members

  abbrev Sure : List ℕ → Type 0
  Sure t = Rows want (cell T rel past g x i) t

  -- f holds now at m, with x standing for v.
  abbrev H : ℕ → ℕ → ℕ → Bool
  H f m v = now_at T rel past (opened g x v) f m

  -- ---- the rows of an arm, and those of an operand
  pub sure : {p : ℕ → ℕ → Bool} {t : List ℕ} → Rows want p t → ((m v : ℕ) → bit want m ≡ true → p m v ≡ (ltb v N && H i m v)) → Sure t
  unfolding cell
  sure h q = rows_map h q

  pub operand_row : (f : ℕ) {w : ℕ} {t : List ℕ} → Rows w (cell T rel past g x f) t → (m v : ℕ) → bit w m ≡ true → in_row t m v ≡ (ltb v N && H f m v)
  unfolding cell
  operand_row f d m v = d.bits m v

  -- ---- the arms
  pub decide_top : {t : List ℕ} → o ≡ 0 → Rows want (λ m v. bit all v) t → Sure t
  decide_top e h = sure h (λ m v w.
      s.all-is v ∙ sym (ap (λ (y : Bool). ltb v N && y) (now_top T rel past (opened g x v) i m (entry_good s) (op-is s 0 e)) ∙ and-true (ltb v N)))

  var-is : o ≡ 1 → (m v : ℕ) → H i m v ≡ eqb m (opened g x v a)
  var-is e m v = now_var T rel past (opened g x v) i m (entry_good s) (op-is s 1 e) ∙ ap (λ (y : ℕ). eqb m (opened g x v y)) (sym s.a-is)

  pub decide_var_open : {t : List ℕ} → o ≡ 1 → a ≡ x → Rows want (λ m v. eqb v m) t → Sure t
  decide_var_open e q h = sure h (λ m v w.
      let here : H i m v ≡ eqb m v = var-is e m v ∙ ap (eqb m) (opened_same g x v a q (a_variable s 1 e refl)) in
      bool_iff _ _
      (λ u.
      let z : v ≡ m = eqb-true v m u in
      and_both (ltb v N) (H i m v) (lt-ltb v N (subst (λ (y : ℕ). y < N) (sym z) (s.asked.wanted m w))) (here ∙ eq-eqb m v (sym z)))
      (λ u. eq-eqb v m (sym (eqb-true m v (sym here ∙ and_right (ltb v N) (H i m v) u)))))

  pub decide_var : (k : ℕ) {t : List ℕ} → o ≡ 1 → (a ≡ x → ⊥) → k ≡ g a → length t ≡ 64 → ((m v : ℕ) → in_row t m v ≡ (eqb m k && bit all v)) → Sure t
  decide_var k e q p n h = sure (record { long = n; bits = λ m v w. h m v }) (λ m v w.
      ap₂ (λ (y : ℕ) (z : Bool). eqb m y && z) p (s.all-is v) ∙ and_comm (eqb m (g a)) (ltb v N)
      ∙ ap (λ (y : Bool). ltb v N && y) (sym (var-is e m v ∙ ap (eqb m) (opened_other g x v a q))))

  pub decide_neg : {f t : List ℕ} → o ≡ 2 → Rows want (cell T rel past g x a) f → length t ≡ length f
      → ((m v : ℕ) → m < 64 → in_row t m v ≡ (bit all v && not (in_row f m v))) → Sure t
  decide_neg {f} e d n h = sure (record { long = n ∙ d.long; bits = λ m v w. h m v (want_below s m w) }) (λ m v w.
      ap₂ (λ (y z : Bool). y && not z) (s.all-is v) (operand_row a d m v w)
      ∙ not_under (ltb v N) (H a m v)
      ∙ ap (λ (y : Bool). ltb v N && y)
      (sym (now_neg T rel past (opened g x v) i m (entry_good s) (op-is s 2 e) ∙ ap (λ (y : ℕ). not (H y m v)) (sym s.a-is))))

  pub decide_or : {f h t : List ℕ} → o ≡ 3 → Rows want (cell T rel past g x a) f → Rows want (cell T rel past g x b) h → length t ≡ length f
      → Added f (in_row h) t → Sure t
  decide_or {f} {h} e d d' n j = sure (record { long = n ∙ d.long; bits = λ m v w. j m v }) (λ m v w.
      ap₂ ◌||◌ (operand_row a d m v w) (operand_row b d' m v w)
      ∙ sym (and-or_distrib_left (ltb v N) (H a m v) (H b m v))
      ∙ ap (λ (y : Bool). ltb v N && y)
      (sym (now_or T rel past (opened g x v) i m (entry_good s) (op-is s 3 e) ∙ ap₂ (λ (y z : ℕ). H y m v || H z m v) (sym s.a-is)
      (sym s.b-is))))

  -- A table.
  past_op : is_past o ≡ true → is_past (T.entry i).op ≡ true
  past_op e = ap is_past (sym s.o_is) ∙ e

  index_is : is_past o ≡ true → (index_table (get_or index i 0) ≡ number T.entry i) × (index_columns (get_or index i 0) ≡ columns (formula T i))
  index_is e = s.ready.indexed.table i s.asked.exists (past_op e)

  pub recalling : is_past o ≡ true → Recalled index past g i want all
  recalling e = record {
    exists = subst (λ (k : ℕ). k < 32) (sym (index_is e).0)
        (let p = number_lt T.entry i T.entries s.asked.exists (past_op e) in let q = (terms_good s).few_tables in omega arith);
    long = (let n : 2049 ≤ length past = s.ready.long_past in omega arith);
    members = N;
    fit = ap (columns_fit N) (index_is e).1 ∙ (entry_good s).columns-fit (past_op e);
    wanted = s.asked.wanted;
    all-is = s.all-is;
    vars = s.asked.vars;
  }

  pub decide_past : {t : List ℕ} → is_past o ≡ true → Rows want (remembered past g x (get_or index i 0) all) t → Sure t
  decide_past e h = sure h (λ m v w.
      ap (λ (z : Bool). z && recalled (table_bit past) (index_table (get_or index i 0)) (index_columns (get_or index i 0)) (opened g x v) m) (s.all-is v)
      ∙ ap (λ (z : Bool). ltb v N && z)
      (ap₂ (λ (j : ℕ) (cs : List ℕ). recalled (table_bit past) j cs (opened g x v) m) (index_is e).0 (index_is e).1
      ∙ sym (now_past T rel past (opened g x v) i m (entry_good s) (past_op e))))

  -- What the loop of bind has in row m.
  bind_is : o ≡ 8 → (m v : ℕ) → H i m v ≡ now_at T rel past (assign (opened g x v) a m) b m
  bind_is e m v =
      now_bind T rel past (opened g x v) i m (entry_good s) (op-is s 8 e)
      ∙ ap₂ (λ (y z : ℕ). now_at T rel past (assign (opened g x v) y m) z m) (sym s.a-is) (sym s.b-is)

  pub bound_row : (m w y : ℕ) (g' : Assignment) {f : List ℕ} → o ≡ 8 → y ≡ open_under a x → ((z : ℕ) → g' z ≡ assign g a m z)
      → Has w (λ k. eqb k m)
      → Rows w (cell T rel past g' y b) f → (v : ℕ) → in_row f m v ≡ cell T rel past g x i m v
  unfolding cell
  bound_row m w y g' e p hg hw d v =
      d.bits m v (hw m ∙ eq-eqb m m refl)
      ∙ ap (λ (t : Bool). ltb v N && t)
      (ap₂ (λ (k : Assignment) (j : ℕ). now_at T rel past (opened k j v) b m) (fun_ext hg) p
      ∙ ap (λ (k : Assignment). now_at T rel past k b m) (opened_bind g x a m v (a_binder s e))
      ∙ sym (bind_is e m v))

  at-is : o ≡ 9 → (m v : ℕ) → H i m v ≡ H b (opened g x v a) v
  at-is e m v =
      now-at T rel past (opened g x v) i m (entry_good s) (op-is s 9 e)
      ∙ ap₂ (λ (y z : ℕ). H z (opened g x v y) v) (sym s.a-is) (sym s.b-is)

  pub decide_at_open : (d : ℕ) {f t : List ℕ} → o ≡ 9 → a ≡ x → Rows all (cell T rel past g x b) f → Has d (λ v. bit all v && in_row f v v)
      → Rows want (λ m v. bit d v) t → Sure t
  decide_at_open d {f} e q df hd h = sure h (λ m v w.
      hd v
      ∙ and_under (bit all v) (in_row f v v) (ltb v N && H b v v) (operand_row b df v v)
      ∙ ap (λ (z : Bool). z && (ltb v N && H b v v)) (s.all-is v) ∙ and_self_left (ltb v N) (H b v v)
      ∙ ap (λ (z : Bool). ltb v N && z) (sym (at-is e m v ∙ ap (λ (k : ℕ). H b k v) (opened_same g x v a q (a_variable s 9 e refl)))))

  pub decide_at : (c k : ℕ) {f t : List ℕ} → o ≡ 9 → (a ≡ x → ⊥) → c ≡ g a → Has k (λ m. eqb m (g a)) → Rows k (cell T rel past g x b) f
      → Rows want (λ m v. in_row f c v) t → Sure t
  decide_at c k e q p hk df h = sure h (λ m v w.
      operand_row b df c v (hk c ∙ eq-eqb c (g a) p)
      ∙ ap (λ (z : Bool). ltb v N && z) (sym (at-is e m v ∙ ap (λ (j : ℕ). H b j v) (opened_other g x v a q ∙ sym p))))

  reach-is : (c : ℕ) → c ≡ (T.entry i).c → o ≡ 10 → (m v : ℕ) → H i m v ≡ any_below N (λ k. now_at T rel past (alone a k) b m && H c k v)
  reach-is c z e m v =
      now_reach T rel past (opened g x v) i m (entry_good s) (op-is s 10 e)
      ∙ ap₂ (λ (y w : ℕ). any_below N (λ k. now_at T rel past (alone y k) w m && H (T.entry i).c k v)) (sym s.a-is) (sym s.b-is)
      ∙ ap (λ (w : ℕ). any_below N (λ k. now_at T rel past (alone a k) b m && H w k v)) (sym z)

  -- The rows of the first formula, with its variable open.
  reach_row : {f : List ℕ} → o ≡ 10 → Rows want (cell T rel past (assigned (replicate 16 0)) a b) f
      → (m k : ℕ) → bit want m ≡ true → in_row f m k ≡ (ltb k N && now_at T rel past (alone a k) b m)
  unfolding cell
  reach_row e d m k w =
      d.bits m k w ∙ ap (λ (h : Assignment). ltb k N && now_at T rel past h b m) (opened_zeros a k (a_variable s 10 e refl))

  -- The second is asked for at members.
  pub reached_asked : (c need : ℕ) {f : List ℕ} → c ≡ (T.entry i).c → o ≡ 10 → Rows want (cell T rel past (assigned (replicate 16 0)) a b) f
      → Has need (ahead (in_row f) want) → RowsAsked T g c need
  reached_asked c need {f} z e d h = operand_reached s c need f z e h (λ m k w q. ltb-true k N (and_left (ltb k N) _ (sym (reach_row e d m k w) ∙ q)))

  pub decide_reach : (c need : ℕ) {f h t : List ℕ} → c ≡ (T.entry i).c → o ≡ 10 → Rows want (cell T rel past (assigned (replicate 16 0)) a b) f
      → Has need (ahead (in_row f) want) → Rows need (cell T rel past g x c) h → Rows want (λ m v. ahead (in_row h) (get_or f m 0) v) t → Sure t
  decide_reach c need {f} {h} z e df hn dh t = sure t (λ m v w.
      let needed : (k : ℕ) → in_row f m k ≡ true → bit need k ≡ true =
      λ k q. hn k ∙ any_intro 64 (λ j. bit want j && in_row f j k) m (want_below s m w) (and_both (bit want m) (in_row f m k) w q) in
      bool_iff _ _
      (λ u.
      let y : (k : ℕ) × (k < 64) × ((in_row f m k && in_row h k v) ≡ true) = any_elim 64 (λ k. in_row f m k && in_row h k v) u in
      let k = y.0 in
      let near : in_row f m k ≡ true = and_left (in_row f m k) _ y.2 in
      let here : (ltb k N && now_at T rel past (alone a k) b m) ≡ true = sym (reach_row e df m k w) ∙ near in
      let there : (ltb v N && H c k v) ≡ true = sym (operand_row c dh k v (needed k near)) ∙ and_right (in_row f m k) _ y.2 in
      and_both (ltb v N) (H i m v) (and_left (ltb v N) _ there)
      (reach-is c z e m v ∙ any_intro N (λ k. now_at T rel past (alone a k) b m && H c k v) k (ltb-true k N (and_left (ltb k N) _ here))
      (and_both _ _ (and_right (ltb k N) _ here) (and_right (ltb v N) _ there))))
      (λ u.
      let y : (k : ℕ) × (k < N) × ((now_at T rel past (alone a k) b m && H c k v) ≡ true) = any_elim N (λ k. now_at T rel past (alone a k) b m && H c k v)
      (sym (reach-is c z e m v) ∙ and_right (ltb v N) (H i m v) u) in
      let k = y.0 in
      let near : in_row f m k ≡ true = reach_row e df m k w ∙ and_both _ _ (lt-ltb k N y.1) (and_left (now_at T rel past (alone a k) b m) _ y.2) in
      any_intro 64 (λ k. in_row f m k && in_row h k v) k (member_short s.ready k y.1)
      (and_both _ _ near (operand_row c dh k v (needed k near)
      ∙ and_both (ltb v N) (H c k v) (and_left (ltb v N) _ u) (and_right (now_at T rel past (alone a k) b m) _ y.2)))))
