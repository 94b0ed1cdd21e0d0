-- The lowest number below a bound that passes a test, or the bound.
use Prim.Native.Nat.{ℕ, zero, suc, ◌≤◌, ◌<◌}
use native.Mathlib.Omega.{arith}
use mathlib.Core.Path.{◌≡◌, refl, ap₂, subst}
use mathlib.Core.Bool.{Bool, true, false, cond}
use mathlib.Core.Logic.{◌⊎◌, inl, inr}
use lib.Dec.{ltb}
use borrow.Author.Tests.{ltb-true, ltb-false}
use Rattle.sets.proofs.Finite.{last_or_below, not_both, is_false}
use Rattle.theory.specs.Formula.{lowest}

module _ (p : ℕ → Bool) where
  pub lowest_le : (n : ℕ) → lowest n p ≤ n
  unfolding lowest
  lowest_le zero = omega arith
  lowest_le (suc n) = go (lowest_le n) (ltb (lowest n p) n) (p n)
    where
      go : lowest n p ≤ n → (c d : Bool) → cond c (lowest n p) (cond d n (suc n)) ≤ suc n
      go h true d = omega arith
      go h false true = omega arith
      go h false false = omega arith

  -- Where it is below the bound it passes.
  pub lowest_has : (n : ℕ) → lowest n p < n → p (lowest n p) ≡ true
  unfolding lowest
  lowest_has zero h = absurd (omega arith)
  lowest_has (suc n) h = go (ltb (lowest n p) n) refl (p n) refl (lowest_has n) h
    where
      go : (c : Bool) → ltb (lowest n p) n ≡ c → (d : Bool) → p n ≡ d → (lowest n p < n → p (lowest n p) ≡ true) →
          cond c (lowest n p) (cond d n (suc n)) < suc n → p (cond c (lowest n p) (cond d n (suc n))) ≡ true
      go true e d q ih h = ih (ltb-true (lowest n p) n e)
      go false e true q ih h = q
      go false e false q ih h = absurd (omega arith)

  -- Nothing lower passes.
  pub lowest_first : (n k : ℕ) → k < n → p k ≡ true → lowest n p ≤ k
  unfolding lowest
  lowest_first zero k h e = absurd (omega arith)
  lowest_first (suc n) k h e = go (ltb (lowest n p) n) refl (p n) refl (lowest_first n k) (last_or_below k n h)
    where
      go : (c : Bool) → ltb (lowest n p) n ≡ c → (d : Bool) → p n ≡ d → (k < n → p k ≡ true → lowest n p ≤ k) →
          (k < n) ⊎ (k ≡ n) → cond c (lowest n p) (cond d n (suc n)) ≤ k
      go true c d q ih (inl l) = ih l e
      go true c d q ih (inr z) = omega (arith, ltb-true (lowest n p) n c)
      go false c d q ih (inl l) = absurd (omega (arith, ltb-false (lowest n p) n c, ih l e))
      go false c true q ih (inr z) = omega arith
      go false c false q ih (inr z) = absurd (not_both (p n) (subst (λ j. p j ≡ true) z e) q)

  -- The one that passes, with none below it.
  lowest-is : (n k : ℕ) → k < n → p k ≡ true → ((j : ℕ) → j < k → p j ≡ false) → lowest n p ≡ k
  lowest-is n k l e none = go (ltb (lowest n p) k) refl
    where
      go : (c : Bool) → ltb (lowest n p) k ≡ c → lowest n p ≡ k
      go true c =
          let less : lowest n p < k = ltb-true (lowest n p) k c in
          absurd (not_both (p (lowest n p)) (lowest_has n (omega arith)) (none (lowest n p) less))
      go false c = omega (arith, ltb-false (lowest n p) k c, lowest_first n k l e)

  -- None passes.
  pub lowest_none : (n : ℕ) → ((j : ℕ) → j < n → p j ≡ false) → lowest n p ≡ n
  lowest_none n none = go (ltb (lowest n p) n) refl
    where
      go : (c : Bool) → ltb (lowest n p) n ≡ c → lowest n p ≡ n
      go true c =
          let less : lowest n p < n = ltb-true (lowest n p) n c in
          absurd (not_both (p (lowest n p)) (lowest_has n less) (none (lowest n p) less))
      go false c = omega (arith, ltb-false (lowest n p) n c, lowest_le n)

  -- A higher bound finds the same, where something is found.
  pub lowest_more : (n m : ℕ) → lowest n p < n → n ≤ m → lowest m p ≡ lowest n p
  lowest_more n m h le =
      let up : lowest m p ≤ lowest n p = lowest_first m (lowest n p) (omega arith) (lowest_has n h) in
      let less : lowest m p < n = omega arith in
      omega (arith, lowest_first n (lowest m p) less (lowest_has m (omega arith)))

pub lowest_cong : (n : ℕ) (p q : ℕ → Bool) → ((k : ℕ) → k < n → p k ≡ q k) → lowest n p ≡ lowest n q
unfolding lowest
lowest_cong zero p q h = refl
lowest_cong (suc n) p q h =
    ap₂ (λ (k : ℕ) (c : Bool). cond (ltb k n) k (cond c n (suc n))) (lowest_cong n p q (λ k l. h k (omega arith))) (h n (omega arith))

-- A search from below: none has passed so far.
module _ (p : ℕ → Bool) (k : ℕ) (none : lowest k p ≡ k) where
  pub lowest_hit : (n : ℕ) → k < n → p k ≡ true → lowest n p ≡ k
  lowest_hit n l e = lowest-is p n k l e missed
    where
      missed : (j : ℕ) → j < k → p j ≡ false
      missed j jl = is_false (p j) (λ q. let le : lowest k p ≤ j = lowest_first p k j jl q in omega arith)

  pub lowest_miss : p k ≡ false → lowest (suc k) p ≡ suc k
  lowest_miss e = lowest_none p (suc k) (λ j l. go j (last_or_below j k l))
    where
      go : (j : ℕ) → (j < k) ⊎ (j ≡ k) → p j ≡ false
      go j (inl jl) = is_false (p j) (λ q. let le : lowest k p ≤ j = lowest_first p k j jl q in omega arith)
      go j (inr z) = rw z e
