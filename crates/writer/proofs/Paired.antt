-- The set of the tables with two columns, entry by entry.
use Prim.Native.Nat.{ℕ, ◌+◌, ◌<◌}
use native.Mathlib.Omega.{arith}
use mathlib.Core.Bool.{Bool, true, false, cond, not, ◌&&◌, ◌||◌}
use mathlib.Core.List.{List, [], ◌∷◌}
use mathlib.Core.Path.{◌≡◌, refl, sym, ap, ap₂, ◌∙◌}
use lib.Dec.{eqb, ltb}
use lib.ListN.{get_or}
use borrow.Author.Tests.{lt-ltb, le-ltb, ltb-true, eqb-true, eqb-false}
use Rattle.sets.specs.Sets.{bit}
use Rattle.sets.proofs.Bits.{bit_zero}
use Rattle.sets.proofs.Finite.{bool_iff}
use Rattle.theory.specs.Formula.{number, is_past, columns}
use Rattle.theory.specs.Terms.{Terms, formula, past_entry}
use Rattle.theory.specs.Fit.{Good}
use Rattle.theory.proofs.Past.{past_is}
use Rattle.theory.proofs.Unfolding.{number_lt}
use Rattle.memory.specs.TableIndex.{index_table, index_first, index_last, index_columns, Indexed}
use Rattle.memory.proofs.StateTests.{number_past, number_other}
use Rattle.file.specs.File.{has_two}

or-false : (x : Bool) → x || false ≡ x
or-false true = refl
or-false false = refl

and-false : (x : Bool) → x && false ≡ false
and-false true = refl
and-false false = refl

two_indexed : (p : ℕ) → has_two (index_columns p) ≡ not (eqb (index_first p) (index_last p))
two_indexed p = go (eqb (index_first p) (index_last p))
  where
    go : (c : Bool) → has_two (cond c (index_last p ∷ []) (index_first p ∷ index_last p ∷ [])) ≡ not c
    go true = refl
    go false = refl

module _ (T : Terms) where
  abbrev two : ℕ → Bool
  two t = has_two (columns (formula T (past_entry T t)))

  -- The tables of the first n entries.
  abbrev pub PairedSo : (pairs n : ℕ) → Type 0
  PairedSo pairs n = (t : ℕ) → bit pairs t ≡ ltb t (number T.entry n) && two t

  pub so_none : PairedSo 0 0
  unfolding number
  so_none t = bit_zero t ∙ sym (ap (λ b. b && two t) (le-ltb t 0 (omega arith)))

  pub so_other : (n pairs : ℕ) → is_past (T.entry n).op ≡ false → PairedSo pairs n → PairedSo pairs (n + 1)
  so_other n pairs p h t = h t ∙ ap (λ k. ltb t k && two t) (sym (number_other T.entry n p))

  module _ (index : List ℕ) (g : Good T) (indexed : Indexed T index) (n : ℕ) (here : n < T.entries) (past : is_past (T.entry n).op ≡ true) where
    abbrev v : ℕ
    v = number T.entry n

    small : v < 32
    small = omega (arith, number_lt T.entry n T.entries here past, g.few_tables)

    pub so_past : (p pairs r : ℕ) → p ≡ get_or index n 0 → PairedSo pairs n
        → ((t : ℕ) → bit r t ≡ bit pairs t || (not (eqb (index_first p) (index_last p)) && (ltb t 64 && eqb t (index_table p)))) → PairedSo r (n + 1)
    so_past p pairs r e h b t = b t ∙ go (eqb t v) refl
      where
        pair : Bool
        pair = not (eqb (index_first p) (index_last p))

        named : index_table p ≡ v
        named = ap index_table e ∙ (indexed.table n here past).0

        pair_is : has_two (columns (formula T n)) ≡ pair
        pair_is = ap has_two (sym (indexed.table n here past).1 ∙ ap index_columns (sym e)) ∙ two_indexed p

        more : number T.entry (n + 1) ≡ v + 1
        more = number_past T.entry n past

        go : (c : Bool) → eqb t v ≡ c → bit pairs t || (pair && (ltb t 64 && eqb t (index_table p))) ≡ ltb t (number T.entry (n + 1)) && two t
        go true q =
            let z : t ≡ v = eqb-true t v q in
            ap₂ ◌||◌ (h t ∙ ap (λ b. b && two t) (le-ltb t v (omega arith)))
            (ap (λ b. pair && b) (ap₂ ◌&&◌ (lt-ltb t 64 (omega (arith, small))) (ap (eqb t) named ∙ q)))
            ∙ and_true_right pair ∙ sym pair_is
            ∙ sym (ap₂ ◌&&◌ (lt-ltb t _ (omega (arith, more))) (ap (λ k. has_two (columns (formula T k))) (ap (past_entry T) z ∙ past_is T n here past)))
          where
            and_true_right : (x : Bool) → x && true ≡ x
            and_true_right true = refl
            and_true_right false = refl
        go false q =
            ap₂ ◌||◌ (h t) (ap (λ b. pair && b) (ap (λ b. ltb t 64 && b) (ap (eqb t) named ∙ q) ∙ and-false (ltb t 64)) ∙ and-false pair)
            ∙ or-false (ltb t v && two t)
            ∙ ap (λ b. b && two t)
            (bool_iff (ltb t v) (ltb t (number T.entry (n + 1)))
            (λ l. lt-ltb t _ (omega (arith, ltb-true t v l, more)))
            (λ l. lt-ltb t v (omega (arith, ltb-true t _ l, more, eqb-false t v q))))

-- The set with one table more, or as it was.
pub with_two : (pairs p r k : ℕ) (t : ℕ) {c : Bool} → c ≡ not (eqb (index_first p) (index_last p)) → c ≡ true → k ≡ index_table p
    → bit r t ≡ bit pairs t || (ltb t 64 && eqb t k)
    → bit r t ≡ bit pairs t || (not (eqb (index_first p) (index_last p)) && (ltb t 64 && eqb t (index_table p)))
with_two pairs p r k t e y z b = b ∙ ap (λ x. bit pairs t || x) (ap (λ j. ltb t 64 && eqb t j) z ∙ ap (λ x. x && (ltb t 64 && eqb t (index_table p))) (sym y ∙ e))

pub with_one : (pairs p : ℕ) (t : ℕ) {c : Bool} → c ≡ not (eqb (index_first p) (index_last p)) → c ≡ false
    → bit pairs t ≡ bit pairs t || (not (eqb (index_first p) (index_last p)) && (ltb t 64 && eqb t (index_table p)))
with_one pairs p t e y = sym (ap (λ x. bit pairs t || (x && (ltb t 64 && eqb t (index_table p)))) (sym e ∙ y) ∙ or-false (bit pairs t))
