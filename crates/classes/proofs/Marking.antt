-- A key that is marked stays so, and one that is not marked is none of those that were.
use Prim.Native.Nat.{ℕ, ◌+◌, ◌/◌, ◌%◌, ◌<◌}
use native.Mathlib.Omega.{arith}
use mathlib.Core.Path.{◌≡◌, refl, sym, ap, ◌∙◌}
use mathlib.Core.Bool.{Bool, true, false, ◌&&◌, ◌||◌, true≢false}
use mathlib.Core.List.{List}
use mathlib.Core.Logic.{◌⊎◌, inl, inr}
use lib.Dec.{eqb, ltb}
use lib.ListN.{length, get_or, set}
use lib.Seq.{get_or-set_same, get_or-set_other}
use borrow.Author.Tests.{lt-ltb, eq-eqb, eqb-true, eqb-false}
use Rattle.sets.specs.Sets.{bit}
use Rattle.sets.proofs.Finite.{last_or_below}
use Rattle.theory.proofs.Lowest.{lowest_none}
use Rattle.classes.specs.private.Keys.{bucket, marked, Marked}
use Rattle.classes.specs.private.Filled.{found}

or-true : (x : Bool) → x || true ≡ true
or-true true = refl
or-true false = refl

module _ (marks : List ℕ) (key r : ℕ) (long : length marks ≡ 64)
    (is-with : (m : ℕ) → bit r m ≡ (bit (get_or marks (bucket key / 64) 0) m || (ltb m 64 && eqb m (bucket key % 64))))
  where
    abbrev after : List ℕ
    after = set marks (bucket key / 64) r

    inside : bucket key / 64 < length marks
    inside = omega (arith, long)

    pub mark_here : marked after key ≡ true
    unfolding marked
    mark_here =
        ap (λ (w : ℕ). bit w (bucket key % 64)) (get_or-set_same marks (bucket key / 64) r 0 inside)
        ∙ is-with (bucket key % 64)
        ∙ rw (lt-ltb (bucket key % 64) 64 (omega arith), eq-eqb (bucket key % 64) (bucket key % 64) refl) (or-true (bit (get_or marks (bucket key / 64) 0) (bucket key % 64)))

    pub mark_stays : (k : ℕ) → marked marks k ≡ true → marked after k ≡ true
    unfolding marked
    mark_stays k e = go (eqb (bucket k / 64) (bucket key / 64)) refl
      where
        go : (b : Bool) → eqb (bucket k / 64) (bucket key / 64) ≡ b → bit (get_or after (bucket k / 64) 0) (bucket k % 64) ≡ true
        go true q =
            let same : bucket k / 64 ≡ bucket key / 64 = eqb-true (bucket k / 64) (bucket key / 64) q in
            ap (λ (i : ℕ). bit (get_or after i 0) (bucket k % 64)) same
            ∙ ap (λ (w : ℕ). bit w (bucket k % 64)) (get_or-set_same marks (bucket key / 64) r 0 inside)
            ∙ is-with (bucket k % 64)
            ∙ ap (λ (i : ℕ). bit (get_or marks i 0) (bucket k % 64) || (ltb (bucket k % 64) 64 && eqb (bucket k % 64) (bucket key % 64))) (sym same)
            ∙ ap (λ (b : Bool). b || (ltb (bucket k % 64) 64 && eqb (bucket k % 64) (bucket key % 64))) e
        go false q =
            ap (λ (w : ℕ). bit w (bucket k % 64)) (get_or-set_other marks (bucket key / 64) (bucket k / 64) r 0 (eqb-false (bucket k / 64) (bucket key / 64) q)) ∙ e

-- One key more, which is marked.
pub marked_more : (keys marks later : List ℕ) (n key : ℕ) → n < length keys → Marked keys marks n → marked later key ≡ true →
    ((k : ℕ) → marked marks k ≡ true → marked later k ≡ true) → Marked (set keys n key) later (n + 1)
marked_more keys marks later n key l m e stays = record { here = λ j jl. go j (last_or_below j n (omega arith)) }
  where
    go : (j : ℕ) → (j < n) ⊎ (j ≡ n) → marked later (get_or (set keys n key) j 0) ≡ true
    go j (inl jl) = ap (marked later) (get_or-set_other keys n j key 0 (λ z. omega arith)) ∙ stays (get_or keys j 0) (m.here j jl)
    go j (inr z) = ap (λ (i : ℕ). marked later (get_or (set keys n key) i 0)) z ∙ ap (marked later) (get_or-set_same keys n key 0 l) ∙ e

-- A key that is not marked is not among those that are.
pub not_found : (keys marks : List ℕ) (n key : ℕ) → Marked keys marks n → marked marks key ≡ false → n ≡ found keys n key
not_found keys marks n key m e = sym (lowest_none (λ j. eqb (get_or keys j 0) key) n (λ j jl. go j jl (eqb (get_or keys j 0) key) refl))
  where
    go : (j : ℕ) → j < n → (b : Bool) → eqb (get_or keys j 0) key ≡ b → eqb (get_or keys j 0) key ≡ false
    go j jl true q = absurd (true≢false (sym (m.here j jl) ∙ ap (marked marks) (eqb-true (get_or keys j 0) key q) ∙ e))
    go j jl false q = q
