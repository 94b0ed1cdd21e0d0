-- Over two records that join S to nothing else and agree inside it, a formula without reach
-- means the same at the members of S.
use Prim.Native.Nat.{ℕ, suc, ◌-◌, ◌<◌}
use mathlib.Core.Path.{◌≡◌, refl, sym, ap, ap₂, ◌∙◌}
use mathlib.Core.Bool.{Bool, true, false, cond, not, ◌&&◌, ◌||◌, false≢true, true≢false}
use lib.Dec.{eqb, ltb, leb}
use borrow.Author.Tests.{eq-eqb}
use Rattle.sets.proofs.Finite.{any_cong, all_cong, count_cong, is_false, or_left, or_right}
use Rattle.theory.specs.Formula.{Formula, free}
use Rattle.theory.specs.Formula.Formula.{top, var, neg, or, out, into, prev, since, bind, at, reach, many}
use Rattle.theory.specs.Meaning.{Record, Starts, Assignment, assign, holds}
use Rattle.theory.specs.Strangers.{Circle}
use Rattle.theory.proofs.Unfolding.{EachReach}

-- A formula without reach.
abbrev pub Reachless : Formula → Type 0
Reachless = EachReach (λ x (f : Formula). ⊥)

-- A member of S.
abbrev pub In : ℕ → Circle → ℕ → Type 0
In N S m = (m < N) × (S m ≡ true)

-- Neither record joins S to the rest, and inside S they agree.
pub record Twin (N : ℕ) (S : Circle) (γ δ : Record) : Type 0 where
  pub left : (i l a b : ℕ) → a < N → b < N → γ i l a b ≡ true → S a ≡ S b
  pub right : (i l a b : ℕ) → a < N → b < N → δ i l a b ≡ true → S a ≡ S b
  pub agree : (i l a b : ℕ) → In N S a → In N S b → γ i l a b ≡ δ i l a b

and_both_ways : (x y p q : Bool) → x ≡ y → (x ≡ true → p ≡ q) → (x && p) ≡ (y && q)
and_both_ways true y p q e h = ap₂ ◌&&◌ e (h refl)
and_both_ways false y p q e h = ap (λ (z : Bool). z && q) e

module _ (N : ℕ) (s : Starts) (S : Circle) (γ δ : Record) (tw : Twin N S γ δ) where
  -- An edge with an end in S.
  same_edge : (i l a b : ℕ) → a < N → b < N → S a || S b ≡ true → γ i l a b ≡ δ i l a b
  same_edge i l a b al bl = go (S a) (S b) refl refl
    where
      apart : (S a ≡ S b → ⊥) → γ i l a b ≡ δ i l a b
      apart other = is_false (γ i l a b) (λ e. other (tw.left i l a b al bl e)) ∙ sym (is_false (δ i l a b) (λ e. other (tw.right i l a b al bl e)))

      go : (x y : Bool) → S a ≡ x → S b ≡ y → x || y ≡ true → γ i l a b ≡ δ i l a b
      go true true p q h = tw.agree i l a b (al, p) (bl, q)
      go true false p q h = apart (λ e. true≢false (sym p ∙ e ∙ q))
      go false true p q h = apart (λ e. false≢true (sym p ∙ e ∙ q))
      go false false p q h = absurd (false≢true h)

  -- A member of S with the member at the other end of an edge.
  module _ (i l m : ℕ) (mi : In N S m) (p : ℕ → Bool) (q : ℕ → Bool) (same : (k : ℕ) → In N S k → p k ≡ q k) (k : ℕ) (kl : k < N) where
    outward : (γ i l m k && p k) ≡ (δ i l m k && q k)
    outward =
        and_both_ways (γ i l m k) (δ i l m k) (p k) (q k) (same_edge i l m k mi.0 kl (or_left (S m) (S k) mi.1))
        (λ e. same k (kl, sym (tw.left i l m k mi.0 kl e) ∙ mi.1))

    inward : (γ i l k m && p k) ≡ (δ i l k m && q k)
    inward =
        and_both_ways (γ i l k m) (δ i l k m) (p k) (q k) (same_edge i l k m kl mi.0 (or_right (S k) (S m) mi.1))
        (λ e. same k (kl, tw.left i l k m kl mi.0 e ∙ mi.1))

  -- A bound variable stands for the member at hand.
  bound : (x m y : ℕ) (g : Assignment) → In N S m → (not (eqb y x) ≡ true → In N S (g y)) → In N S (assign g x m y)
  bound x m y g mi v = go (eqb y x) v
    where
      go : (c : Bool) → (not c ≡ true → In N S (g y)) → In N S (cond c m (g y))
      go true v = mi
      go false v = v refl

  -- Only the free variables need stand for members of S: it makes no difference on which side member 0 is.
  pub holds_within : (f : Formula) → Reachless f → (i : ℕ) (g : Assignment) (m : ℕ) → In N S m → ((x : ℕ) → free f x ≡ true → In N S (g x)) →
      holds N s γ f i g m ≡ holds N s δ f i g m
  unfolding holds free
  holds_within top w i g m mi v = refl
  holds_within (var x) w i g m mi v = refl
  holds_within (neg f) w i g m mi v = ap not (holds_within f w i g m mi v)
  holds_within (or f h) w i g m mi v =
      ap₂ ◌||◌ (holds_within f w.0 i g m mi (λ x p. v x (or_left (free f x) (free h x) p)))
      (holds_within h w.1 i g m mi (λ x p. v x (or_right (free f x) (free h x) p)))
  holds_within (out l f) w i g m mi v = any_cong N (outward i l m mi _ _ (λ k ki. holds_within f w i g k ki v))
  holds_within (into l f) w i g m mi v = any_cong N (inward i l m mi _ _ (λ k ki. holds_within f w i g k ki v))
  holds_within (prev t f) w i g m mi v = ap (λ x. ltb (s t) i && x) (holds_within f w (i - 1) g m mi v)
  holds_within (since t f h) w i g m mi v =
      any_cong (suc i) (λ j _. ap (λ x. leb (s t) j && x) (ap₂ ◌&&◌ (holds_within h w.1 j g m mi (λ x p. v x (or_right (free f x) (free h x) p)))
      (all_cong i (λ k _. ap (λ x. leb (suc k) j || x) (holds_within f w.0 (suc k) g m mi (λ x p. v x (or_left (free f x) (free h x) p)))))))
  holds_within (bind x f) w i g m mi v =
      holds_within f w i (assign g x m) m mi (λ y p. bound x m y g mi (λ e. v y (ap₂ ◌&&◌ e p)))
  holds_within (at x f) w i g m mi v =
      holds_within f w i g (g x) (v x (or_left (eqb x x) (free f x) (eq-eqb x x refl))) (λ y p. v y (or_right (eqb y x) (free f y) p))
  holds_within (reach x f h) w i g m mi v = absurd w.0
  holds_within (many l f n) w i g m mi v = ap (leb n) (count_cong N (outward i l m mi _ _ (λ k ki. holds_within f w i g k ki v)))
