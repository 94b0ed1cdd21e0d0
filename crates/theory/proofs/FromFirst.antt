-- Where each entry starts at moment 0, as from an old file on while the terms are not revised, a formula means what the
-- table of docs/SCOPE.md, Meaning, says of the whole record.
use Prim.Native.Nat.{ℕ, suc, ◌-◌}
use native.Mathlib.Omega.{arith}
use mathlib.Core.Path.{◌≡◌, refl, ap, ap₂}
use mathlib.Core.Bool.{false, not, ◌&&◌, ◌||◌}
use lib.Dec.{ltb, leb}
use borrow.Author.Tests.{le-leb}
use Rattle.sets.proofs.Finite.{any_cong, all_cong, count_cong}
use Rattle.theory.specs.Formula.{Formula}
use Rattle.theory.specs.Formula.Formula.{top, var, neg, or, out, into, prev, since, bind, at, reach, many}
use Rattle.theory.specs.Meaning.{Record, Assignment, assign, alone, from_first, holds, holds_throughout}
use Rattle.theory.proofs.Record.{prev_start, since_start}

module _ (N : ℕ) (γ : Record) where
  pub from-first : (f : Formula) (i : ℕ) (g : Assignment) (m : ℕ) → holds N from_first γ f i g m ≡ holds_throughout N γ f i g m
  unfolding holds holds_throughout
  from-first top i g m = refl
  from-first (var x) i g m = refl
  from-first (neg f) i g m = ap not (from-first f i g m)
  from-first (or f h) i g m = ap₂ ◌||◌ (from-first f i g m) (from-first h i g m)
  from-first (out l f) i g m = any_cong N (λ k _. ap (λ x. γ i l m k && x) (from-first f i g k))
  from-first (into l f) i g m = any_cong N (λ k _. ap (λ x. γ i l k m && x) (from-first f i g k))
  from-first (prev t f) i g m = ap (λ x. ltb 0 i && x) (from-first f (i - 1) g m)
  from-first (since t f h) i g m =
      any_cong (suc i) (λ j _. ap₂ ◌&&◌ (le-leb 0 j (omega arith)) (ap₂ ◌&&◌ (from-first h j g m)
      (all_cong i (λ k _. ap (λ x. leb (suc k) j || x) (from-first f (suc k) g m)))))
  from-first (bind x f) i g m = from-first f i (assign g x m) m
  from-first (at x f) i g m = from-first f i g (g x)
  from-first (reach x f h) i g m = any_cong N (λ k _. ap₂ ◌&&◌ (from-first f i (alone x k) m) (from-first h i g k))
  from-first (many l f n) i g m = ap (leb n) (count_cong N (λ k _. ap (λ x. γ i l m k && x) (from-first f i g k)))

  -- The expansion laws at moment 0.
  pub prev_first : (t : ℕ) (f : Formula) (g : Assignment) (m : ℕ) → holds N from_first γ (prev t f) 0 g m ≡ false
  prev_first t f g m = prev_start N from_first γ t f g m 0 (omega arith)

  pub since_first : (t : ℕ) (f h : Formula) (g : Assignment) (m : ℕ) → holds N from_first γ (since t f h) 0 g m ≡ holds N from_first γ h 0 g m
  since_first t f h g m = since_start N from_first γ t f h g m 0 refl
