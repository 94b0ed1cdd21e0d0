-- The derived forms: and, once, all along, every neighbour. None is an operator; each is a formula over the first ten.
use Prim.Native.Nat.{ℕ, zero, suc}
use mathlib.Core.Path.{◌≡◌, refl, ap, ◌∙◌}
use mathlib.Core.Bool.{Bool, true, false, not, ◌&&◌, ◌||◌}
use lib.Dec.{leb}
use native.Mathlib.Omega.{arith}
use borrow.Author.Tests.{le-leb}
use Rattle.sets.specs.Sets.{any_below, all_below}
use Rattle.sets.proofs.Finite.{any_cong, all_true, all_cong, and-true, or_right}
use Rattle.theory.specs.Formula.{Formula}
use Rattle.theory.specs.Formula.Formula.{top, neg, or, out, into, since}
use Rattle.theory.specs.Meaning.{Record, Starts, from_first, Assignment, holds}
use Rattle.theory.specs.Fit.{◌⇒◌}

not_or : (a b : Bool) → not (not a || not b) ≡ a && b
not_or true true = refl
not_or true false = refl
not_or false b = refl

not_and : (a b : Bool) → not (a && not b) ≡ (a ⇒ b)
not_and true true = refl
not_and true false = refl
not_and false b = refl

-- Not some is each not.
not_any : (n : ℕ) (p : ℕ → Bool) → not (any_below n p) ≡ all_below n (λ k. not (p k))
unfolding any_below all_below
not_any zero p = refl
not_any (suc n) p = go (p n) ∙ ap (λ x. not (p n) && x) (not_any n p)
  where
    go : (a : Bool) → not (a || any_below n p) ≡ not a && not (any_below n p)
    go true = refl
    go false = refl

module _ (N : ℕ) (s : Starts) (γ : Record) (i : ℕ) (g : Assignment) (m : ℕ) where
  -- f and h: not (or (not f) (not h)).
  pub conjunction : (f h : Formula) → holds N s γ (neg (or (neg f) (neg h))) i g m ≡ holds N s γ f i g m && holds N s γ h i g m
  unfolding holds
  conjunction f h = not_or (holds N s γ f i g m) (holds N s γ h i g m)

  -- Once f: since top f. It holds where f does at some moment from its start up to the present one.
  once_from : (t : ℕ) (f : Formula) → holds N s γ (since t top f) i g m ≡ any_below (suc i) (λ j. leb (s t) j && holds N s γ f j g m)
  unfolding holds
  once_from t f =
      any_cong (suc i) (λ j _.
      ap (λ x. leb (s t) j && (holds N s γ f j g m && x)) (all_true i (λ k _. or_right (leb (suc k) j) true refl))
      ∙ ap (λ x. leb (s t) j && x) (and-true (holds N s γ f j g m)))

  -- f all along: not (since top (not f)). It holds where f does at each moment from its start up to the present one.
  all_along_from : (t : ℕ) (f : Formula) →
      holds N s γ (neg (since t top (neg f))) i g m ≡ all_below (suc i) (λ j. leb (s t) j ⇒ holds N s γ f j g m)
  unfolding holds
  all_along_from t f =
      ap not (once_from t (neg f)) ∙ not_any (suc i) (λ j. leb (s t) j && not (holds N s γ f j g m))
      ∙ all_cong (suc i) (λ j _. not_and (leb (s t) j) (holds N s γ f j g m))

  -- f at every neighbour: not (out l (not f)). It holds where f does at each member to which an l edge leads.
  pub every_neighbour : (l : ℕ) (f : Formula) →
      holds N s γ (neg (out l (neg f))) i g m ≡ all_below N (λ m'. γ i l m m' ⇒ holds N s γ f i g m')
  unfolding holds
  every_neighbour l f =
      not_any N (λ m'. γ i l m m' && not (holds N s γ f i g m')) ∙ all_cong N (λ m' _. not_and (γ i l m m') (holds N s γ f i g m'))

  -- The same against the edges: not (in l (not f)), and each member from which an l edge comes.
  pub every_neighbour_in : (l : ℕ) (f : Formula) →
      holds N s γ (neg (into l (neg f))) i g m ≡ all_below N (λ m'. γ i l m' m ⇒ holds N s γ f i g m')
  unfolding holds
  every_neighbour_in l f =
      not_any N (λ m'. γ i l m' m && not (holds N s γ f i g m')) ∙ all_cong N (λ m' _. not_and (γ i l m' m) (holds N s γ f i g m'))

-- Where each entry starts at moment 0, "from its start" is no restriction.
module _ (N : ℕ) (γ : Record) (i : ℕ) (g : Assignment) (m : ℕ) where
  pub once : (t : ℕ) (f : Formula) → holds N from_first γ (since t top f) i g m ≡ any_below (suc i) (λ j. holds N from_first γ f j g m)
  once t f =
      once_from N from_first γ i g m t f
      ∙ any_cong (suc i) (λ j _. ap (λ x. x && holds N from_first γ f j g m) (le-leb 0 j (omega arith)))

  pub all_along : (t : ℕ) (f : Formula) → holds N from_first γ (neg (since t top (neg f))) i g m ≡ all_below (suc i) (λ j. holds N from_first γ f j g m)
  all_along t f =
      all_along_from N from_first γ i g m t f
      ∙ all_cong (suc i) (λ j _. ap (λ x. x ⇒ holds N from_first γ f j g m) (le-leb 0 j (omega arith)))
