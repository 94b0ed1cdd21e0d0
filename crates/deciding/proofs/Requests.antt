-- What a request and the tables of past-time entries take from `decide`: every variable but
-- the open one stands for member 0.
use Prim.Native.Nat.{ℕ, ◌<◌}
use mathlib.Core.Path.{◌≡◌, refl, sym, ap, ap₂, ◌∙◌, subst, fun_ext}
use mathlib.Core.Bool.{Bool, true, false, cond, not, ◌&&◌, ◌||◌, and_assoc}
use mathlib.Core.List.{List, [], ◌∷◌}
use native.Mathlib.Omega.{arith}
use lib.Dec.{eqb, ltb}
use lib.ListN.{length, get_or, replicate}
use borrow.Author.Tests.{lt-ltb, ltb-true, eqb-true, eq-eqb}
use Rattle.sets.specs.Sets.{bit}
use Rattle.sets.proofs.Finite.{and_under}
use Rattle.theory.specs.Formula.{first_operand, second_operand, number, is_past, columns}
use Rattle.theory.specs.Formula.Operand.{entry}
use Rattle.theory.specs.Meaning.{Assignment, assign}
use Rattle.theory.specs.Columns.{columns_fit, inside}
use Rattle.theory.specs.Terms.{Terms, formula}
use Rattle.theory.specs.Fit.{Good}
use Rattle.memory.specs.Layout.{terms_of}
use Rattle.memory.specs.TableIndex.{index_table, index_first, index_last, index_columns}
use Rattle.deciding.specs.private.Rows.{table_bit, assigned, opened, now_at, cell, Rows, Ready, RowsAsked, Table, operand_bits, next_prev, next_since, Has, in_row, Added, kept}
use Rattle.theory.proofs.Unfolding.{number_lt}
use Rattle.theory.proofs.Good.{first_lower, second_lower}
use Rattle.memory.proofs.Accepted.{good}
use Rattle.deciding.proofs.Loops.{zeros}
use Rattle.deciding.proofs.Assignments.{vars_zeros, vars_assign, opened_zeros, one_columns, two_columns}

-- Every variable stands for member 0.
abbrev fresh : Assignment
fresh = assigned (replicate 16 0)

fresh_asked : (T : Terms) (i w : ℕ) → Good T → i < T.entries → ((m : ℕ) → bit w m ≡ true → m < T.members) → RowsAsked T fresh i w
fresh_asked T i w h l q = record {
  exists = l;
  wanted = q;
  vars = vars_zeros h.some_member;
}

-- ---- a request, at u alone: variable 0 stands for v, and none is open
module _ (v : ℕ) (g : Assignment) (target : (y : ℕ) → g y ≡ assign fresh 0 v y) where
  pub request_asked : {terms index rel past : List ℕ} (i u w : ℕ) → Ready terms index rel past → i < (terms_of terms).entries → u < (terms_of terms).members
      → v < (terms_of terms).members → Has w (λ m. eqb m u) → RowsAsked (terms_of terms) g i w
  request_asked {terms} i u w ready l k vl h = record {
    exists = l;
    wanted = λ m e. subst (λ (y : ℕ). y < (terms_of terms).members) (sym (eqb-true m u (sym (h m) ∙ e))) k;
    vars = vars_assign 0 v (omega arith) vl target (vars_zeros (good terms ready.good).some_member);
  }

  none_open : (y : ℕ) → (eqb y 16 && ltb y 16) ≡ false
  none_open y = go (eqb y 16) refl
    where
      go : (c : Bool) → eqb y 16 ≡ c → (c && ltb y 16) ≡ false
      go true e = ap (λ (n : ℕ). ltb n 16) (eqb-true y 16 e)
      go false e = refl

  opened_none : opened g 16 v ≡ assign (λ x. 0) 0 v
  opened_none = fun_ext (λ y.
      ap (λ (t : Bool). cond t v (g y)) (none_open y) ∙ target y ∙ ap (λ (z : ℕ). cond (eqb y 0) v z) (zeros 16 y))

  pub request_answer : (T : Terms) (rel past : List ℕ) (i u w : ℕ) {f : List ℕ} → v < T.members → Has w (λ m. eqb m u)
      → Rows w (cell T rel past g 16 i) f → in_row f u v ≡ now_at T rel past (assign (λ x. 0) 0 v) i u
  unfolding cell
  request_answer T rel past i u w l h d =
      d.bits u v (h u ∙ eq-eqb u u refl)
      ∙ ap (λ (t : Bool). t && now_at T rel past (opened g 16 v) i u) (lt-ltb v T.members l)
      ∙ ap (λ (k : Assignment). now_at T rel past k i u) opened_none

-- ---- the next table of past-time entry i, whose operator is o and whose index word is p
module _ {terms index rel past : List ℕ} {i o : ℕ} (ready : Ready terms index rel past) (l : i < (terms_of terms).entries)
    (op : ((terms_of terms).entry i).op ≡ o) (past_op : is_past o ≡ true) where
  abbrev T : Terms
  T = terms_of terms

  terms_good : Good T
  terms_good = good terms ready.good

  entry_past : is_past (T.entry i).op ≡ true
  entry_past = ap is_past op ∙ past_op

  index_is : (index_table (get_or index i 0) ≡ number T.entry i) × (index_columns (get_or index i 0) ≡ columns (formula T i))
  index_is = ready.indexed.table i l entry_past

  index-columns : (p : ℕ) → p ≡ get_or index i 0 → columns (formula T i) ≡ index_columns p
  index-columns p e = sym (ap index_columns e ∙ index_is.1)

  pub table_small : (p : ℕ) → p ≡ get_or index i 0 → index_table p < 32
  table_small p e = subst (λ (y : ℕ). y < 32) (sym (ap index_table e ∙ index_is.0))
      (let j = number_lt T.entry i T.entries l entry_past in let k = terms_good.few_tables in omega arith)

  pub table_first : (k all : ℕ) → k ≡ (T.entry i).a → first_operand o ≡ entry → Has all (λ m. ltb m T.members) → RowsAsked T fresh k all
  table_first k all e q h =
      let low : (T.entry i).a < i = first_lower (terms_good.entry i l) (ap first_operand op ∙ q) in
      fresh_asked T k all terms_good (omega arith) (λ m t. ltb-true m T.members (sym (h m) ∙ t))

  pub table_second : (k all : ℕ) → k ≡ (T.entry i).b → second_operand o ≡ entry → Has all (λ m. ltb m T.members) → RowsAsked T fresh k all
  table_second k all e q h =
      let low : (T.entry i).b < i = second_lower (terms_good.entry i l) (ap second_operand op ∙ q) in
      fresh_asked T k all terms_good (omega arith) (λ m t. ltb-true m T.members (sym (h m) ∙ t))

  -- With one column.
  table-row : (p k k' all : ℕ) {r : List ℕ} → p ≡ get_or index i 0 → not (eqb (index_first p) (index_last p)) ≡ false → k ≡ k' → Has all (λ m. ltb m T.members)
      → Rows all (cell T rel past fresh (index_last p) k) r
      → (a b : ℕ) → ltb a T.members ≡ true → in_row r a b ≡ (ltb b T.members && operand_bits T rel past (columns (formula T i)) k' a b)
  unfolding cell operand_bits
  table-row p k k' all e one q h d a b w =
      d.bits a b (h a ∙ w)
      ∙ ap (λ (g : Assignment). ltb b T.members && now_at T rel past g k a) (opened_zeros (index_last p) b (omega arith))
      ∙ ap (λ (j : ℕ). ltb b T.members && now_at T rel past (assign (λ z. 0) (index_last p) b) j a) q
      ∙ sym (ap (λ (cs : List ℕ). ltb b T.members && operand_bits T rel past cs k' a b) (index-columns p e ∙ one_columns p one))

  -- The rows from n on are cleared.
  abbrev Cut : ℕ → List ℕ → List ℕ → Type 0
  Cut n r s = (a b : ℕ) → in_row s a b ≡ (ltb a n && in_row r a b)

  cut_row : (n : ℕ) (r s : List ℕ) (a b : ℕ) (y : Bool) → n ≡ T.members → Cut n r s → (ltb a T.members ≡ true → in_row r a b ≡ y)
      → in_row s a b ≡ (ltb a T.members && y)
  cut_row n r s a b y e c h = c a b ∙ ap (λ (m : ℕ). ltb a m && in_row r a b) e ∙ and_under (ltb a T.members) (in_row r a b) y h

  -- A word and a bit are those of members.
  one_inside : (p a b : ℕ) (y : Bool) → p ≡ get_or index i 0 → not (eqb (index_first p) (index_last p)) ≡ false →
      (ltb a T.members && (ltb b T.members && y)) ≡ (inside T.members (columns (formula T i)) a b && y)
  one_inside p a b y e one =
      sym (and_assoc (ltb a T.members) (ltb b T.members) y)
      ∙ sym (ap (λ (cs : List ℕ). inside T.members cs a b && y) (index-columns p e ∙ one_columns p one))

  pub prev_table : (p k all n : ℕ) {r s : List ℕ} → p ≡ get_or index i 0 → not (eqb (index_first p) (index_last p)) ≡ false → k ≡ (T.entry i).a
      → Has all (λ m. ltb m T.members) → Rows all (cell T rel past fresh (index_last p) k) r → length s ≡ length r → n ≡ T.members → Cut n r s
      → Table T.members (columns (formula T i)) (next_prev T rel past i) s
  unfolding next_prev
  prev_table p k all n {r} {s} e one q h d l en c = record {
    long = l ∙ d.long;
    bits = λ a b. cut_row n r s a b _ en c (table-row p k (T.entry i).a all e one q h d a b) ∙ one_inside p a b _ e one;
  }

  since_bool : (t u v w : Bool) → ((t && u) || ((t && v) && w)) ≡ (t && (u || (v && w)))
  since_bool true u v w = refl
  since_bool false u v w = refl

  pub since_table : (p k j all n : ℕ) (r' : List ℕ) {r q s : List ℕ} → p ≡ get_or index i 0 → not (eqb (index_first p) (index_last p)) ≡ false
      → k ≡ (T.entry i).b → j ≡ (T.entry i).a → Has all (λ m. ltb m T.members)
      → Rows all (cell T rel past fresh (index_last p) k) r → Rows all (cell T rel past fresh (index_last p) j) q
      → length r' ≡ length r → Added r (kept q past (index_table p)) r' → length s ≡ length r' → n ≡ T.members → Cut n r' s
      → Table T.members (columns (formula T i)) (next_since T rel past i) s
  unfolding next_since
  since_table p k j all n r' {r} {q} {s} e one eb ea h dr dq l w l' en c = record {
    long = l' ∙ l ∙ dr.long;
    bits = λ a b. cut_row n r' s a b _ en c (λ t.
        w a b
        ∙ ap₂ ◌||◌ (table-row p k (T.entry i).b all e one eb h dr a b t)
        (ap₂ (λ (u : Bool) (m : ℕ). u && table_bit past m a b) (table-row p j (T.entry i).a all e one ea h dq a b t)
        (ap index_table e ∙ index_is.0))
        ∙ since_bool (ltb b T.members) (operand_bits T rel past (columns (formula T i)) (T.entry i).b a b)
        (operand_bits T rel past (columns (formula T i)) (T.entry i).a a b) (table_bit past (number T.entry i) a b))
        ∙ one_inside p a b _ e one;
  }

  -- With two columns.
  module _ (p : ℕ) (e : p ≡ get_or index i 0) (two : not (eqb (index_first p) (index_last p)) ≡ true) where
    abbrev pair : List ℕ
    pair = index_first p ∷ index_last p ∷ []

    pair_is : columns (formula T i) ≡ pair
    pair_is = index-columns p e ∙ two_columns p two

    pub pair_few : T.members < 17
    pair_few =
        ltb-true T.members 17
        (sym (ap (columns_fit T.members) pair_is) ∙ (terms_good.entry i l).columns-fit entry_past)

    -- The table of an operand.
    pair-table : (k k' : ℕ) {s : List ℕ} → k ≡ k' → Table T.members pair (operand_bits T rel past pair k) s
        → Table T.members (columns (formula T i)) (operand_bits T rel past (columns (formula T i)) k') s
    pair-table k k' {s} q h = record {
      long = h.long;
      bits = λ a b. h.bits a b
          ∙ ap (λ (j : ℕ). inside T.members pair a b && operand_bits T rel past pair j a b) q
          ∙ sym (ap (λ (cs : List ℕ). inside T.members cs a b && operand_bits T rel past cs k' a b) pair_is);
    }

    pub prev_pair : (k : ℕ) {s : List ℕ} → k ≡ (T.entry i).a → Table T.members pair (operand_bits T rel past pair k) s
        → Table T.members (columns (formula T i)) (next_prev T rel past i) s
    unfolding next_prev
    prev_pair k q h = pair-table k (T.entry i).a q h

    pub since_pair : (k j : ℕ) {r q s : List ℕ} → k ≡ (T.entry i).b → j ≡ (T.entry i).a → Table T.members pair (operand_bits T rel past pair k) r
        → Table T.members pair (operand_bits T rel past pair j) q → length s ≡ length r → Added r (kept q past (index_table p)) s
        → Table T.members (columns (formula T i)) (next_since T rel past i) s
    unfolding next_since
    since_pair k j {r} {q} {s} eb ea hr hq long w = record {
      long = long ∙ hr.long;
      bits = λ a b. w a b
          ∙ ap₂ ◌||◌ ((pair-table k (T.entry i).b eb hr).bits a b)
          (ap₂ (λ (u : Bool) (m : ℕ). u && table_bit past m a b) ((pair-table j (T.entry i).a ea hq).bits a b) (ap index_table e ∙ index_is.0))
          ∙ since_bool (inside T.members (columns (formula T i)) a b) (operand_bits T rel past (columns (formula T i)) (T.entry i).b a b)
          (operand_bits T rel past (columns (formula T i)) (T.entry i).a a b) (table_bit past (number T.entry i) a b);
    }
