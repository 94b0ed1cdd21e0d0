-- A table of entries, policies or effects after one of its places has changed.
use Prim.Native.Nat.{ℕ}
use mathlib.Core.Path.{◌≡◌, refl}
use mathlib.Core.Logic.{⊎_elim}
use lib.Dec.{eqb}
use borrow.Author.Tests.{eqb-true, eqb-false, eq-eqb, ne_eqb}
use Rattle.sets.proofs.Finite.{true_or_false}
use Rattle.file.specs.File.{update}

module _ {A : Type 0} (g : ℕ → A) (n : ℕ) (v : A) where
  pub update_same : update g n v n ≡ v
  update_same = rw (eq-eqb n n refl) refl

  pub update_other : (k : ℕ) → (k ≡ n → ⊥) → update g n v k ≡ g k
  update_other k h = rw (ne_eqb k n h) refl

  -- What holds of the changed place and of each other one.
  pub update_cases : (P : A → Type 0) (k : ℕ) → (k ≡ n → P v) → ((k ≡ n → ⊥) → P (g k)) → P (update g n v k)
  update_cases P k h i =
      ⊎_elim (λ e. rw e (h (eqb-true k n e))) (λ e. rw e (i (eqb-false k n e))) (true_or_false (eqb k n))
