-- What check 10 and the policies' check say of free variables, entry by entry spelled out.
use Prim.Native.Nat.{ℕ, zero, suc, ◌≤◌, ◌<◌}
use native.Mathlib.Omega.{arith}
use mathlib.Core.Path.{◌≡◌, refl, sym, subst}
use mathlib.Core.Bool.{Bool, true, false, not, ◌&&◌, true≢false}
use lib.Dec.{eqb, ltb}
use borrow.Author.Tests.{ne_eqb, ltb-true, ltb-false}
use Rattle.sets.proofs.Finite.{and_left, and_right}
use Rattle.theory.specs.Formula.{Formula, Entry, node, number, below, free}
use Rattle.theory.specs.Formula.Formula.{top}
use Rattle.theory.specs.Terms.{Terms, formula}
use Rattle.theory.specs.Fit.{only_free, reach_fits, Good}
use Rattle.theory.proofs.Unfolding.{EachReach, below_spelled, reach_spelled}
use Rattle.theory.proofs.Good.{small, only_out, second_lower}

-- x is the only variable free in f.
abbrev pub Only : ℕ → Formula → Type 0
Only x f = (y : ℕ) → free f y ≡ true → y ≡ x

-- What is not below n is spelled out as top.
below_high : (entry : ℕ → Entry) (n k : ℕ) → n ≤ k → below entry n k ≡ top
unfolding below
below_high entry zero k h = refl
below_high entry (suc n) k h = go (eqb k n) (ne_eqb k n (λ e. omega arith)) (below_high entry n k (omega arith))
  where
    go : (c : Bool) → c ≡ false → below entry n k ≡ top →
        elim c [ true ↦ node (number entry n) (below entry n) (entry n).op (entry n).a (entry n).b (entry n).c | false ↦ below entry n k ] ≡ top
    go true z ih = absurd (true≢false z)
    go false z ih = ih

module _ (T : Terms) (good : Good T) where
  -- A policy has no free variable but 0.
  pub policy_target : (j : ℕ) → j < T.events → Only 0 (formula T (T.policy j))
  policy_target j l x q =
      only_out 0 (formula T (T.policy j)) (good.policy_free j l) x (small T good (T.policy j) (good.policy_exists j l) x q) q

  alone : (k : ℕ) → k < T.entries → (T.entry k).op ≡ 10 → only_free (T.entry k).a (formula T (T.entry k).b) ≡ true
  unfolding reach_fits
  alone k l e =
      and_left (only_free (T.entry k).a (formula T (T.entry k).b)) (not (free (formula T (T.entry k).c) (T.entry k).a))
      (and_right (ltb 0 (T.entry k).a) (only_free (T.entry k).a (formula T (T.entry k).b) && not (free (formula T (T.entry k).c) (T.entry k).a))
      ((good.entry k l).reaches e))

  -- The first operand of a reach has no free variable but that of the reach.
  reach_only : (k : ℕ) → k < T.entries → (T.entry k).op ≡ 10 → Only (T.entry k).a (below T.entry k (T.entry k).b)
  reach_only k l e =
      let lower : (T.entry k).b < k = second_lower (good.entry k l) (rw e) in
      subst (Only (T.entry k).a) (sym (below_spelled T.entry k (T.entry k).b lower))
      (λ y q. only_out (T.entry k).a (formula T (T.entry k).b) (alone k l e) y
      (small T good (T.entry k).b (omega arith) y q) q)

  pub regular : (n : ℕ) → n < T.entries → EachReach Only (formula T n)
  regular n l = reach_spelled T.entry Only n (λ k kl e. reach_only k (omega arith) e)

  pub regular_below : (n : ℕ) → n ≤ T.entries → (k : ℕ) → EachReach Only (below T.entry n k)
  regular_below n l k = go (ltb k n) refl
    where
      go : (c : Bool) → ltb k n ≡ c → EachReach Only (below T.entry n k)
      go true e = subst (EachReach Only) (sym (below_spelled T.entry n k (ltb-true k n e))) (regular k (omega (arith, ltb-true k n e)))
      go false e = subst (EachReach Only) (sym (below_high T.entry n k (ltb-false k n e))) tt
