-- Laws of many: with k of 1 it is out; above the number of members it never holds; who has k + 1 has k.
use Prim.Native.Nat.{ℕ, suc, ◌<◌}
use native.Mathlib.Omega.{arith}
use mathlib.Core.Path.{◌≡◌}
use mathlib.Core.Bool.{Bool, true, false, ◌&&◌}
use borrow.Author.Tests.{leb-true, le-leb, lt-leb}
use Rattle.sets.specs.Sets.{count_below}
use Rattle.sets.proofs.Finite.{count_some, count_le}
use Rattle.theory.specs.Formula.{Formula}
use Rattle.theory.specs.Formula.Formula.{out, many}
use Rattle.theory.specs.Meaning.{Record, Starts, Assignment, holds}

module _ (N : ℕ) (s : Starts) (γ : Record) (i : ℕ) (g : Assignment) (m : ℕ) (l : ℕ) (f : Formula) where
  abbrev near : ℕ → Bool
  near m' = γ i l m m' && holds N s γ f i g m'

  pub many_one : holds N s γ (many l f 1) i g m ≡ holds N s γ (out l f) i g m
  unfolding holds
  many_one = count_some N near

  pub many_none : (k : ℕ) → N < k → holds N s γ (many l f k) i g m ≡ false
  unfolding holds
  many_none k h = lt-leb k (count_below N near) (omega (arith, count_le N near))

  pub many_fewer : (k : ℕ) → holds N s γ (many l f (suc k)) i g m ≡ true → holds N s γ (many l f k) i g m ≡ true
  unfolding holds
  many_fewer k e = le-leb k (count_below N near) (omega (arith, leb-true (suc k) (count_below N near) e))
