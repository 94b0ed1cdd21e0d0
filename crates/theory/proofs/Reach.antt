-- Laws of reach: which variables its first formula may be read under, and what ties it to out and in.
use Prim.Native.Nat.{ℕ, ◌<◌}
use mathlib.Core.Path.{◌≡◌, refl, sym, ap, ◌∙◌}
use mathlib.Core.Bool.{Bool, true, cond, ◌&&◌}
use lib.Dec.{eqb}
use borrow.Author.Tests.{eqb-true, eq-eqb}
use Rattle.sets.specs.Sets.{any_below}
use Rattle.sets.proofs.Finite.{bool_iff, and_left, and_right, and_both, any_intro, any_elim, any_cong}
use Rattle.theory.specs.Formula.{Formula, free}
use Rattle.theory.specs.Formula.Formula.{var, out, into, reach}
use Rattle.theory.specs.Meaning.{Record, Starts, Assignment, assign, alone, holds}
use Rattle.theory.proofs.Record.{coincidence}

-- p at the one number k.
any_one : (n : ℕ) (p : ℕ → Bool) (k : ℕ) → k < n → any_below n (λ j. p j && eqb j k) ≡ p k
any_one n p k h =
    bool_iff _ (p k)
    (λ q. let f : (j : ℕ) × (j < n) × (p j && eqb j k ≡ true) = any_elim n (λ j. p j && eqb j k) q in
    ap p (sym (eqb-true f.0 k (and_right (p f.0) _ f.2))) ∙ and_left (p f.0) _ f.2)
    (λ q. any_intro n (λ j. p j && eqb j k) k h (and_both _ _ q (eq-eqb k k refl)))

module _ (N : ℕ) (s : Starts) (γ : Record) (i : ℕ) (g : Assignment) (m : ℕ) where
  -- Where x alone may be free in f, f may be read under any assignment of the other variables.
  pub reach_any : (x : ℕ) (f h : Formula) → ((y : ℕ) → free f y ≡ true → y ≡ x) → (g₀ : Assignment) →
      holds N s γ (reach x f h) i g m ≡ any_below N (λ m'. holds N s γ f i (assign g₀ x m') m && holds N s γ h i g m')
  unfolding holds
  reach_any x f h only g₀ =
      any_cong N (λ m' _. ap (λ b. b && holds N s γ h i g m')
      (coincidence N s γ f i (alone x m') (assign g₀ x m') m (λ y q. same y m' (eqb y x) (eq-eqb y x (only y q)))))
    where
      same : (y m' : ℕ) (c : Bool) → c ≡ true → cond c m' 0 ≡ cond c m' (g₀ y)
      same y m' c e = rw e

  -- out and in are reach along one edge.
  pub reach_out : (x l : ℕ) (f : Formula) → holds N s γ (reach x (out l (var x)) f) i g m ≡ holds N s γ (out l f) i g m
  unfolding holds
  reach_out x l f =
      any_cong N (λ m' h. ap (λ b. b && holds N s γ f i g m')
      (any_cong N (λ k _. ap (λ z. γ i l m k && eqb k z) (self m')) ∙ any_one N (γ i l m) m' h))
    where
      self : (m' : ℕ) → alone x m' x ≡ m'
      self m' = rw (eq-eqb x x refl)

  pub reach_into : (x l : ℕ) (f : Formula) → holds N s γ (reach x (into l (var x)) f) i g m ≡ holds N s γ (into l f) i g m
  unfolding holds
  reach_into x l f =
      any_cong N (λ m' h. ap (λ b. b && holds N s γ f i g m')
      (any_cong N (λ k _. ap (λ z. γ i l k m && eqb k z) (self m')) ∙ any_one N (λ k. γ i l k m) m' h))
    where
      self : (m' : ℕ) → alone x m' x ≡ m'
      self m' = rw (eq-eqb x x refl)
