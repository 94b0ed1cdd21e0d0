-- Lists made of words: equal where each word is, and with one word set.
use Prim.Native.Nat.{ℕ, zero, suc, ◌<◌}
use native.Mathlib.Omega.{arith}
use mathlib.Core.Path.{◌≡◌, refl, sym, ap, ap₂, ◌∙◌}
use mathlib.Core.Logic.{⊎_elim}
use mathlib.Core.List.{List, ◌∷◌}
use mathlib.Core.Bool.{true, false}
use lib.Dec.{eqb}
use lib.ListN.{get_or, set, length-set, replicate}
use lib.Seq.{ext_get_or, get_or-set_same, get_or-set_other}
use borrow.Author.Tests.{eqb-true, eqb-false}
use Rattle.sets.proofs.Finite.{true_or_false}
use Rattle.memory.specs.Layout.{tabulate}
use Rattle.memory.proofs.Row.{length_tabulate, get_d_tabulate}
use Rattle.file.specs.File.{update}

pub tabulate_cong : (n : ℕ) (g h : ℕ → ℕ) → ((i : ℕ) → i < n → g i ≡ h i) → tabulate n g ≡ tabulate n h
unfolding tabulate
tabulate_cong zero g h e = refl
tabulate_cong (suc n) g h e =
    ap₂ {C = List ℕ} (λ x l. x ∷ l) (e 0 (omega arith)) (tabulate_cong n (λ i. g (suc i)) (λ i. h (suc i)) (λ i l. e (suc i) (omega arith)))

pub set_tabulate : (n : ℕ) (g : ℕ → ℕ) (at v : ℕ) → set (tabulate n g) at v ≡ tabulate n (update g at v)
set_tabulate n g at v =
    ext_get_or 0 (set (tabulate n g) at v) (tabulate n (update g at v))
    (length-set (tabulate n g) at v ∙ length_tabulate n g ∙ sym (length_tabulate n (update g at v)))
    (λ i l. let b : i < n = omega (arith, length-set (tabulate n g) at v, length_tabulate n g) in
    ⊎_elim (same i b) (other i b) (true_or_false (eqb i at)) ∙ sym (get_d_tabulate n (update g at v) i b))
  where
    same : (i : ℕ) → i < n → eqb i at ≡ true → get_or (set (tabulate n g) at v) i 0 ≡ update g at v i
    same i b e =
        rw (e, eqb-true i at e)
        (get_or-set_same (tabulate n g) at v 0 (omega (arith, eqb-true i at e, length_tabulate n g)))

    other : (i : ℕ) → i < n → eqb i at ≡ false → get_or (set (tabulate n g) at v) i 0 ≡ update g at v i
    other i b e = rw e (get_or-set_other (tabulate n g) at i v 0 (eqb-false i at e) ∙ get_d_tabulate n g i b)

pub tabulate_none : (n : ℕ) → tabulate n (λ i. 0) ≡ replicate n 0
unfolding tabulate
tabulate_none zero = refl
tabulate_none (suc n) = ap {B = List ℕ} (λ l. 0 ∷ l) (tabulate_none n)
