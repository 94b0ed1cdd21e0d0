-- The tables with two columns, by the sets of free variables: a T line has five fields where the
-- set of its table's entry has two.
use Prim.Native.Nat.{ℕ, ◌^◌, ◌<◌}
use native.Mathlib.Omega.{arith}
use mathlib.Core.Bool.{Bool, true, false, not, ◌&&◌, ◌||◌}
use mathlib.Core.List.{List}
use mathlib.Core.Logic.{⊎_elim}
use mathlib.Core.Path.{◌≡◌, refl, sym, ap, ◌∙◌}
use lib.Dec.{eqb, ltb}
use lib.ListN.{get_or}
use borrow.Author.Tests.{eqb-true, eqb-false, ltb-true}
use Rattle.sets.specs.Sets.{bit}
use Rattle.sets.proofs.Finite.{true_or_false, and_left}
use Rattle.theory.specs.Formula.{Formula, free, columns}
use Rattle.theory.specs.Columns.{columns_fit}
use Rattle.theory.specs.Terms.{Terms, formula, tables, past_entry, Alike}
use Rattle.theory.specs.Fit.{Good}
use Rattle.theory.proofs.FreeColumns.{columns_none, columns_single, columns_pair}
use Rattle.theory.proofs.Good.{small}
use Rattle.theory.proofs.AlikeTerms.{met-is, same_past}
use Rattle.theory.proofs.Past.{past-entry}
use Rattle.memory.specs.TableIndex.{Masked, rest_of}
use Rattle.memory.proofs.FreeSets.{fit_set}
use Rattle.file.specs.File.{has_two, pair_table}

module _ (m : ℕ) (fits : m < 2 ^ 64) (φ : Formula) (is : (x : ℕ) → bit m x ≡ free φ x) (small : (x : ℕ) → free φ x ≡ true → x < 16) where
  two_set : (N : ℕ) → columns_fit N (columns φ) ≡ true → not (eqb (rest_of m) 0) ≡ has_two (columns φ)
  two_set N e =
      ⊎_elim
      (λ z. ap (λ (w : ℕ). not (eqb (rest_of w) 0)) (eqb-true m 0 z) ∙ sym (ap has_two (columns_none φ m fits small is (eqb-true m 0 z))))
      (λ z. some (omega (arith, eqb-false m 0 z)) (eqb (rest_of m) 0) refl)
      (true_or_false (eqb m 0))
    where
      some : 0 < m → (c : Bool) → eqb (rest_of m) 0 ≡ c → not (eqb (rest_of m) 0) ≡ has_two (columns φ)
      some l true z = ap not z ∙ sym (ap has_two (columns_single φ m fits small is l (eqb-true (rest_of m) 0 z)))
      some l false z =
          let r : 0 < rest_of m = omega (arith, eqb-false (rest_of m) 0 z) in
          let none : rest_of (rest_of m) ≡ 0 =
          eqb-true (rest_of (rest_of m)) 0 (and_left (eqb (rest_of (rest_of m)) 0) _ (sym (ap (λ (b : Bool). b || (eqb (rest_of (rest_of m)) 0 && ltb N 17)) z) ∙ fit_set m fits φ is small N ∙ e)) in
          ap not z ∙ sym (ap has_two (columns_pair φ m fits small is l r none))

-- T is alike to the terms that the words hold, and m is the set of the entry of table t.
module _ (T : Terms) (fine : Good T) (U : Terms) (a : Alike T U) (masks : List ℕ) (masked : Masked T masks) where
  pub pair_same : (t m : ℕ) → m < 2 ^ 64 → m ≡ get_or masks (past_entry U t) 0 → ltb t (tables T) && not (eqb (rest_of m) 0) ≡ pair_table T t
  pair_same t m fits e = go (ltb t (tables T)) refl
    where
      go : (c : Bool) → ltb t (tables T) ≡ c → c && not (eqb (rest_of m) 0) ≡ c && has_two (columns (formula T (past_entry T t)))
      go false z = refl
      go true z =
          let same : past_entry U t ≡ past_entry T t = sym (same_past T U a t ∙ ap (λ (X : Terms). past_entry X t) (met-is T U a)) in
          let p = past-entry T t (ltb-true t (tables T) z) in
          two_set m fits (formula T (past_entry T t))
          (λ x. ap (λ (w : ℕ). bit w x) (e ∙ ap (λ (k : ℕ). get_or masks k 0) same) ∙ masked.bits (past_entry T t) x p.exists)
          (small T fine (past_entry T t) p.exists) T.members ((fine.entry (past_entry T t) p.exists).columns-fit p.past)
