-- Assignments: a variable set anew, and a variable that is open; the rows of a past-time entry.
use Prim.Native.Nat.{ℕ, ◌+◌, ◌*◌, ◌/◌, ◌%◌, ◌<◌}
use mathlib.Core.Path.{◌≡◌, refl, sym, ap, ap₂, ◌∙◌, subst, fun_ext}
use mathlib.Core.Bool.{Bool, true, false, cond, not, ◌&&◌}
use mathlib.Core.List.{List, [], ◌∷◌}
use mathlib.Core.Logic.{⊎_elim}
use native.Mathlib.Omega.{arith}
use lib.Dec.{eqb, ltb}
use lib.ListN.{length, get_or, set, replicate}
use lib.Seq.{get_or-set_same, get_or-set_other}
use borrow.Author.Tests.{lt-ltb, le-ltb, eqb-true, eqb-false, eq-eqb, ne_eqb, not-true, not-false}
use Rattle.sets.specs.Sets.{bit}
use Rattle.sets.proofs.Finite.{and_both, true_or_false}
use Rattle.theory.specs.Meaning.{Assignment, assign, alone}
use Rattle.theory.specs.Tables.{recalled}
use Rattle.memory.specs.TableIndex.{index_table, index_first, index_last, index_columns}
use Rattle.deciding.specs.private.Rows.{table_bit, assigned, opened, open_under, remembered, open_column, pair_cell, Rows, Vars}
use Rattle.deciding.proofs.Loops.{zeros, rows_map}

pub assigned_set : (vars : List ℕ) (x m y : ℕ) → x < length vars → assigned (set vars x m) y ≡ assign (assigned vars) x m y
assigned_set vars x m y h =
    ⊎_elim
    (λ e. ap (λ (k : ℕ). get_or (set vars x m) k 0) (eqb-true y x e) ∙ get_or-set_same vars x m 0 h ∙ sym (ap (λ (t : Bool). cond t m (get_or vars y 0)) e))
    (λ e. get_or-set_other vars x y m 0 (eqb-false y x e) ∙ sym (ap (λ (t : Bool). cond t m (get_or vars y 0)) e))
    (true_or_false (eqb y x))

-- Every variable stands for a member: where all stand for member 0, and with one set to a member.
pub vars_zeros : {N : ℕ} → 0 < N → Vars N (assigned (replicate 16 0))
vars_zeros {N} some = record { low = λ y h. subst (λ (v : ℕ). v < N) (sym (zeros 16 y)) some; high = λ y h. zeros 16 y }

pub vars_assign : {N : ℕ} {g g' : Assignment} (x m : ℕ) → x < 16 → m < N → ((y : ℕ) → g' y ≡ assign g x m y) → Vars N g → Vars N g'
vars_assign {N} {g} {g'} x m xl ml e v = record {
  low = λ y h. subst (λ (k : ℕ). k < N) (sym (e y)) (member y h (eqb y x));
  high = λ y h. e y ∙ ap (λ (t : Bool). cond t m (g y)) (ne_eqb y x (λ q. omega arith)) ∙ v.high y h;
}
  where
    member : (y : ℕ) → y < 16 → (c : Bool) → cond c m (g y) < N
    member y h true = ml
    member y h false = v.low y h

pub opened_same : (g : Assignment) (x b y : ℕ) → y ≡ x → y < 16 → opened g x b y ≡ b
opened_same g x b y e l = ap (λ (t : Bool). cond t b (g y)) (and_both (eqb y x) (ltb y 16) (eq-eqb y x e) (lt-ltb y 16 l))

pub opened_other : (g : Assignment) (x b y : ℕ) → (y ≡ x → ⊥) → opened g x b y ≡ g y
opened_other g x b y n = ap (λ (t : Bool). cond (t && ltb y 16) b (g y)) (ne_eqb y x n)

-- The open variable under a binding of y.
pub opened_bind : (g : Assignment) (x y a b : ℕ) → y < 16 → opened (assign g y a) (open_under y x) b ≡ assign (opened g x b) y a
opened_bind g x y a b l = fun_ext (λ z. ⊎_elim (λ e. same z e) (λ e. other z e) (true_or_false (eqb y x)))
  where
    same : (z : ℕ) → eqb y x ≡ true → opened (assign g y a) (open_under y x) b z ≡ assign (opened g x b) y a z
    same z e =
        ap (λ (t : Bool). opened (assign g y a) (cond t 16 x) b z) e
        ∙ ⊎_elim
        (λ q. let k : z ≡ 16 = eqb-true z 16 q in
        ap₂ (λ (s t : Bool). cond (s && t) b (assign g y a z)) q (le-ltb z 16 (omega arith))
        ∙ both z (ne_eqb z y (λ w. omega arith)) (ne_eqb z x (λ w. let j : y ≡ x = eqb-true y x e in omega arith)))
        (λ q. ap (λ (s : Bool). cond (s && ltb z 16) b (assign g y a z)) q
        ∙ ⊎_elim
        (λ w. ap (λ (s : Bool). cond s a (g z)) w ∙ sym (ap (λ (s : Bool). cond s a (opened g x b z)) w))
        (λ w. both z w (ne_eqb z x (λ u. let j : y ≡ x = eqb-true y x e in eqb-false z y w (u ∙ sym j))))
        (true_or_false (eqb z y)))
        (true_or_false (eqb z 16))
      where
        both : (z : ℕ) → eqb z y ≡ false → eqb z x ≡ false → assign g y a z ≡ assign (opened g x b) y a z
        both z p q =
            ap (λ (s : Bool). cond s a (g z)) p
            ∙ sym (ap₂ (λ (s t : Bool). cond s a (cond (t && ltb z 16) b (g z))) p q)

    other : (z : ℕ) → eqb y x ≡ false → opened (assign g y a) (open_under y x) b z ≡ assign (opened g x b) y a z
    other z e =
        ap (λ (t : Bool). opened (assign g y a) (cond t 16 x) b z) e
        ∙ ⊎_elim
        (λ q. ap (λ (s : Bool). cond (s && ltb z 16) b (assign g y a z)) (ne_eqb z x (λ u. eqb-false y x e (sym (eqb-true z y q) ∙ u)))
        ∙ ap (λ (s : Bool). cond s a (g z)) q ∙ sym (ap (λ (s : Bool). cond s a (opened g x b z)) q))
        (λ q. ap (λ (s : Bool). cond (eqb z x && ltb z 16) b (cond s a (g z))) q ∙ sym (ap (λ (s : Bool). cond s a (opened g x b z)) q))
        (true_or_false (eqb z y))

-- x stands for v, and every other variable for member 0.
pub opened_zeros : (x v : ℕ) → x < 16 → opened (assigned (replicate 16 0)) x v ≡ alone x v
opened_zeros x v l = fun_ext (λ y. ⊎_elim
    (λ e.
    let q : y ≡ x = eqb-true y x e in
    opened_same (assigned (replicate 16 0)) x v y q (omega arith) ∙ sym (ap (λ (t : Bool). cond {A = ℕ} t v 0) e))
    (λ e. opened_other (assigned (replicate 16 0)) x v y (eqb-false y x e) ∙ zeros 16 y ∙ sym (ap (λ (t : Bool). cond {A = ℕ} t v 0) e))
    (true_or_false (eqb y x)))

-- ---- the rows of a past-time entry whose index word is p

module _ (p : ℕ) where
  pub one_columns : not (eqb (index_first p) (index_last p)) ≡ false → index_columns p ≡ index_last p ∷ []
  one_columns e = ap (λ (c : Bool). cond c (index_last p ∷ []) (index_first p ∷ index_last p ∷ [])) (not-false (eqb (index_first p) (index_last p)) e)

  pub two_columns : not (eqb (index_first p) (index_last p)) ≡ true → index_columns p ≡ index_first p ∷ index_last p ∷ []
  two_columns e = ap (λ (c : Bool). cond c (index_last p ∷ []) (index_first p ∷ index_last p ∷ [])) (not-true (eqb (index_first p) (index_last p)) e)

pub recalled_same : (want all p x : ℕ) (past : List ℕ) (g : Assignment) {r : List ℕ} → not (eqb (index_first p) (index_last p)) ≡ false →
    Rows want (λ a b. bit all b && table_bit past (index_table p) a b) r → index_last p ≡ x → Rows want (remembered past g x p all) r
recalled_same want all p x past g one h q = rows_map h (λ a b t.
    ap (λ (k : ℕ). bit all b && table_bit past (index_table p) a k) (sym (opened_same g x b (index_last p) q (omega arith)))
    ∙ sym (ap (λ (cs : List ℕ). bit all b && recalled (table_bit past) (index_table p) cs (opened g x b) a) (one_columns p one)))

pub recalled_other : (want all p x m : ℕ) (past : List ℕ) (g : Assignment) {r : List ℕ} → not (eqb (index_first p) (index_last p)) ≡ false →
    Rows want (λ a b. bit all b && table_bit past (index_table p) a m) r → (index_last p ≡ x → ⊥) → m ≡ g (index_last p) → Rows want (remembered past g x p all) r
recalled_other want all p x m past g one h q f = rows_map h (λ a b t.
    ap (λ (k : ℕ). bit all b && table_bit past (index_table p) a k) (f ∙ sym (opened_other g x b (index_last p) q))
    ∙ sym (ap (λ (cs : List ℕ). bit all b && recalled (table_bit past) (index_table p) cs (opened g x b) a) (one_columns p one)))

-- What the columns of a table with two stand for, by which one is open.
module _ (g : Assignment) (x first last v : ℕ) (fl : first < 16) (ll : last < 16) (apart : first ≡ last → ⊥) where
  open_first : cond (eqb (open_column x first last) 1) v (g first) ≡ opened g x v first
  open_first = go (eqb x first) refl (eqb x last)
    where
      go : (c : Bool) → eqb x first ≡ c → (d : Bool) → cond (eqb (cond c 1 (cond d 2 0)) 1) v (g first) ≡ opened g x v first
      go true e d = sym (opened_same g x v first (sym (eqb-true x first e)) fl)
      go false e true = sym (opened_other g x v first (λ z. eqb-false x first e (sym z)))
      go false e false = sym (opened_other g x v first (λ z. eqb-false x first e (sym z)))

  open_last : cond (eqb (open_column x first last) 2) v (g last) ≡ opened g x v last
  open_last = go (eqb x first) refl (eqb x last) refl
    where
      go : (c : Bool) → eqb x first ≡ c → (d : Bool) → eqb x last ≡ d → cond (eqb (cond c 1 (cond d 2 0)) 2) v (g last) ≡ opened g x v last
      go true e d f = sym (opened_other g x v last (λ z. apart (sym (eqb-true x first e) ∙ sym z)))
      go false e true f = sym (opened_same g x v last (sym (eqb-true x last f)) ll)
      go false e false f = sym (opened_other g x v last (λ z. eqb-false x last f (sym z)))

pub recalled_pair : (want all p x b c : ℕ) (past : List ℕ) (g : Assignment) {r : List ℕ} → not (eqb (index_first p) (index_last p)) ≡ true →
    Rows want (λ a v. bit all v && pair_cell past (index_table p) b c (open_column x (index_first p) (index_last p)) a v) r → b ≡ g (index_first p) → c ≡ g (index_last p) →
    Rows want (remembered past g x p all) r
recalled_pair want all p x b c past g two h eb ec = rows_map h (λ a v t.
    ap₂ (λ (u w : ℕ). bit all v && table_bit past (index_table p) (4 * a + u / 4) (16 * (u % 4) + w))
    (ap (cond (eqb (open_column x (index_first p) (index_last p)) 1) v) eb ∙ open_first g x (index_first p) (index_last p) v (omega arith) (omega arith) apart)
    (ap (cond (eqb (open_column x (index_first p) (index_last p)) 2) v) ec ∙ open_last g x (index_first p) (index_last p) v (omega arith) (omega arith) apart)
    ∙ sym (ap (λ (cs : List ℕ). bit all v && recalled (table_bit past) (index_table p) cs (opened g x v) a) (two_columns p two)))
  where
    apart : index_first p ≡ index_last p → ⊥
    apart = eqb-false (index_first p) (index_last p) (not-true (eqb (index_first p) (index_last p)) two)
