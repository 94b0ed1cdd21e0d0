-- One law for each operator: whether an entry holds now, from its operands or its table.
use Prim.Native.Nat.{ℕ}
use mathlib.Core.Path.{◌≡◌, sym, ap, ◌∙◌}
use mathlib.Core.Bool.{true, not, ◌&&◌, ◌||◌}
use mathlib.Core.List.{List}
use mathlib.Core.Logic.{⊎_elim}
use lib.Dec.{eqb, leb}
use borrow.Author.Tests.{eqb-true}
use Rattle.sets.specs.Sets.{any_below, count_below}
use Rattle.sets.proofs.Finite.{or_cases}
use Rattle.theory.specs.Formula.{Formula, node, number, is_past, columns}
use Rattle.theory.specs.Meaning.{Graph, Assignment, assign, alone}
use Rattle.theory.specs.Terms.{Terms, formula}
use Rattle.theory.specs.Tables.{recalled, holds_now}
use Rattle.theory.specs.Fit.{GoodEntry}
use Rattle.deciding.specs.private.Rows.{edge, table_bit, past_event, now_at}
use Rattle.theory.proofs.Good.{formula_at}

module _ (T : Terms) (rel past : List ℕ) (g : Assignment) (i m : ℕ) (e : GoodEntry T i) where
  abbrev G : Graph
  G = edge T.relations rel (past_event T past)

  now_node : (o : ℕ) → (T.entry i).op ≡ o → now_at T rel past g i m
      ≡ holds_now T.members G (table_bit past) (node (number T.entry i) (formula T) o (T.entry i).a (T.entry i).b (T.entry i).c) g m
  unfolding now_at
  now_node o q = ap (λ (f : Formula). holds_now T.members G (table_bit past) f g m) (formula_at T i e o q)

  pub now_top : (T.entry i).op ≡ 0 → now_at T rel past g i m ≡ true
  unfolding holds_now node
  now_top q = now_node 0 q

  pub now_var : (T.entry i).op ≡ 1 → now_at T rel past g i m ≡ eqb m (g (T.entry i).a)
  unfolding holds_now node
  now_var q = now_node 1 q

  pub now_neg : (T.entry i).op ≡ 2 → now_at T rel past g i m ≡ not (now_at T rel past g (T.entry i).a m)
  unfolding holds_now node now_at
  now_neg q = now_node 2 q

  pub now_or : (T.entry i).op ≡ 3 → now_at T rel past g i m ≡ (now_at T rel past g (T.entry i).a m || now_at T rel past g (T.entry i).b m)
  unfolding holds_now node now_at
  now_or q = now_node 3 q

  pub now_out : (T.entry i).op ≡ 4
      → now_at T rel past g i m ≡ any_below T.members (λ k. G (T.entry i).a m k && now_at T rel past g (T.entry i).b k)
  unfolding holds_now node now_at
  now_out q = now_node 4 q

  pub now_into : (T.entry i).op ≡ 5
      → now_at T rel past g i m ≡ any_below T.members (λ k. G (T.entry i).a k m && now_at T rel past g (T.entry i).b k)
  unfolding holds_now node now_at
  now_into q = now_node 5 q

  pub now_past : is_past (T.entry i).op ≡ true → now_at T rel past g i m ≡ recalled (table_bit past) (number T.entry i) (columns (formula T i)) g m
  unfolding holds_now node
  now_past p = ⊎_elim
      (λ q. let k : (T.entry i).op ≡ 6 = eqb-true (T.entry i).op 6 q in
      now_node 6 k ∙ ap (λ (f : Formula). recalled (table_bit past) (number T.entry i) (columns f) g m) (sym (formula_at T i e 6 k)))
      (λ q. let k : (T.entry i).op ≡ 7 = eqb-true (T.entry i).op 7 q in
      now_node 7 k ∙ ap (λ (f : Formula). recalled (table_bit past) (number T.entry i) (columns f) g m) (sym (formula_at T i e 7 k)))
      (or_cases (eqb (T.entry i).op 6) (eqb (T.entry i).op 7) p)

  pub now_bind : (T.entry i).op ≡ 8 → now_at T rel past g i m ≡ now_at T rel past (assign g (T.entry i).a m) (T.entry i).b m
  unfolding holds_now node now_at
  now_bind q = now_node 8 q

  pub now-at : (T.entry i).op ≡ 9 → now_at T rel past g i m ≡ now_at T rel past g (T.entry i).b (g (T.entry i).a)
  unfolding holds_now node now_at
  now-at q = now_node 9 q

  pub now_reach : (T.entry i).op ≡ 10
      → now_at T rel past g i m ≡ any_below T.members (λ k. now_at T rel past (alone (T.entry i).a k) (T.entry i).b m && now_at T rel past g (T.entry i).c k)
  unfolding holds_now node now_at
  now_reach q = now_node 10 q

  pub now_many : (T.entry i).op ≡ 11
      → now_at T rel past g i m ≡ leb (T.entry i).c (count_below T.members (λ k. G (T.entry i).a m k && now_at T rel past g (T.entry i).b k))
  unfolding holds_now node now_at
  now_many q = now_node 11 q
