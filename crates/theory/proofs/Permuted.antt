-- A permutation of the numbers below a bound: it changes neither whether some number passes a test nor how
-- many do; and what is onto is one.
use Prim.Native.Nat.{ℕ, zero, suc, ◌+◌, ◌≤◌, ◌<◌}
use mathlib.Core.Path.{◌≡◌, refl, sym, ap, ◌∙◌, subst}
use mathlib.Core.Bool.{Bool, true, false, cond, not, ◌&&◌}
use mathlib.Core.Logic.{◌⊎◌, inl, inr}
use native.Mathlib.Omega.{arith}
use lib.Dec.{eqb}
use borrow.Author.Tests.{eqb-true, eq-eqb, ne_eqb}
use Rattle.sets.specs.Sets.{any_below, count_below}
use Rattle.sets.proofs.Finite.{bool_iff, not_both, and-true, last_or_below, any_intro, any_elim, count_cong, count_le}

abbrev one : Bool → ℕ
one b = cond b 1 0

-- One number more.
count_step : (n : ℕ) (p : ℕ → Bool) → count_below (suc n) p ≡ one (p n) + count_below n p
unfolding count_below
count_step n p = go (p n) (count_below n p)
  where
    go : (b : Bool) (c : ℕ) → cond b (suc c) c ≡ one b + c
    go true c = omega arith
    go false c = omega arith

count_all : (n : ℕ) (p : ℕ → Bool) → ((k : ℕ) → k < n → p k ≡ true) → count_below n p ≡ n
unfolding count_below
count_all zero p h = refl
count_all (suc n) p h = rw (h n (omega arith)) (omega (arith, count_all n p (λ k l. h k (omega arith))))

-- p with a taken out.
abbrev but : (ℕ → Bool) → ℕ → ℕ → Bool
but p a k = p k && not (eqb k a)

but_other : (p : ℕ → Bool) (a k : ℕ) → (k ≡ a → ⊥) → but p a k ≡ p k
but_other p a k h = rw (ne_eqb k a h) (and-true (p k))

but_self : (p : ℕ → Bool) (a : ℕ) → but p a a ≡ false
but_self p a = rw (eq-eqb a a refl) (go (p a))
  where
    go : (x : Bool) → x && false ≡ false
    go true = refl
    go false = refl

count_but : (n : ℕ) (p : ℕ → Bool) (a : ℕ) → a < n → count_below n p ≡ one (p a) + count_below n (but p a)
unfolding count_below
count_but zero p a h = absurd (omega arith)
count_but (suc n) p a h =
    count_step n p ∙ go (count_but n p a) (last_or_below a n h) ∙ ap (λ c. one (p a) + c) (sym (count_step n (but p a)))
  where
    go : (a < n → count_below n p ≡ one (p a) + count_below n (but p a)) → (a < n) ⊎ (a ≡ n) →
        one (p n) + count_below n p ≡ one (p a) + (one (but p a n) + count_below n (but p a))
    go ih (inl l) =
        let same : one (but p a n) ≡ one (p n) = ap one (but_other p a n (λ e. omega arith)) in
        let rest : count_below n p ≡ one (p a) + count_below n (but p a) = ih l in
        omega arith
    go ih (inr e) =
        let none : one (but p a n) ≡ 0 = ap one (subst (λ k. but p a k ≡ false) e (but_self p a)) in
        let rest : count_below n (but p a) ≡ count_below n p = count_cong n (λ k l. but_other p a k (λ z. omega arith)) in
        let this : one (p a) ≡ one (p n) = ap (λ k. one (p k)) e in
        omega arith

count_empty : (p : ℕ → Bool) → count_below 0 p ≡ 0
unfolding count_below
count_empty p = refl

-- No two numbers below n have the same image.
abbrev Apart : ℕ → (ℕ → ℕ) → Type 0
Apart n p = (j k : ℕ) → j < n → k < n → p j ≡ p k → j ≡ k

count_image : (n N : ℕ) (p : ℕ → ℕ) (f : ℕ → Bool) → ((k : ℕ) → k < n → p k < N) → Apart n p →
    count_below n (λ k. f (p k)) ≤ count_below N f
count_image zero N p f b i = omega (arith, count_empty (λ k. f (p k)))
count_image (suc n) N p f b i =
    let fewer : count_below n (λ k. but f (p n) (p k)) ≤ count_below N (but f (p n)) =
    count_image n N p (but f (p n)) (λ k l. b k (omega arith)) (λ j k l m. i j k (omega arith) (omega arith)) in
    let same : count_below n (λ k. but f (p n) (p k)) ≡ count_below n (λ k. f (p k)) =
    count_cong n (λ k l. but_other f (p n) (p k) (λ e. let z : k ≡ n = i k n (omega arith) (omega arith) e in omega arith)) in
    let all : count_below N f ≡ one (f (p n)) + count_below N (but f (p n)) = count_but N f (p n) (b n (omega arith)) in
    omega (arith, count_step n (λ k. f (p k)))

-- p and q are a permutation of the numbers below n and its inverse.
pub record Permutes (n : ℕ) (p q : ℕ → ℕ) : Type 0 where
  pub new : (k : ℕ) → k < n → p k < n
  pub old : (k : ℕ) → k < n → q k < n
  pub back : (k : ℕ) → k < n → q (p k) ≡ k
  pub forth : (k : ℕ) → k < n → p (q k) ≡ k

permutes_back : {n : ℕ} {p q : ℕ → ℕ} → Permutes n p q → Permutes n q p
permutes_back h = record { new = h.old; old = h.new; back = h.forth; forth = h.back }

permutes_apart : {n : ℕ} {p q : ℕ → ℕ} → Permutes n p q → Apart n p
permutes_apart {n} {p} {q} h j k jl kl e = sym (h.back j jl) ∙ ap q e ∙ h.back k kl

pub count_permuted : {n : ℕ} {p q : ℕ → ℕ} → Permutes n p q → (f : ℕ → Bool) → count_below n (λ k. f (p k)) ≡ count_below n f
count_permuted {n} {p} {q} h f =
    let there : count_below n (λ k. f (p k)) ≤ count_below n f = count_image n n p f h.new (permutes_apart h) in
    let here : count_below n (λ k. f (p (q k))) ≤ count_below n (λ k. f (p k)) =
    count_image n n q (λ k. f (p k)) h.old (permutes_apart (permutes_back h)) in
    let same : count_below n (λ k. f (p (q k))) ≡ count_below n f = count_cong n (λ k l. ap f (h.forth k l)) in
    omega arith

pub any_permuted : {n : ℕ} {p q : ℕ → ℕ} → Permutes n p q → (f : ℕ → Bool) → any_below n (λ k. f (p k)) ≡ any_below n f
any_permuted {n} {p} {q} h f =
    bool_iff _ _
    (λ e. let w = any_elim n (λ k. f (p k)) e in any_intro n f (p w.0) (h.new w.0 w.1) w.2)
    (λ e. let w = any_elim n f e in any_intro n (λ k. f (p k)) (q w.0) (h.old w.0 w.1) (ap f (h.forth w.0 w.1) ∙ w.2))

-- Where each number below n is the image under p of one below n, p is a permutation of them.
module _ (n : ℕ) (p q : ℕ → ℕ) (old : (k : ℕ) → k < n → q k < n) (forth : (k : ℕ) → k < n → p (q k) ≡ k) where
  hit : (m : ℕ) → m < n → (k : ℕ) × (k < n) × (q k ≡ m)
  hit m l = go (any_below n (λ k. eqb (q k) m)) refl
    where
      missed : any_below n (λ k. eqb (q k) m) ≡ false → ⊥
      missed e =
          let away : (k : ℕ) → k < n → not (eqb (q k) m) ≡ true =
          λ k kl. ap not (ne_eqb (q k) m (λ z. not_both _ (any_intro n (λ k. eqb (q k) m) k kl (eq-eqb (q k) m z)) e)) in
          let all : count_below n (λ k. not (eqb (q k) m)) ≡ n = count_all n _ away in
          let fewer : count_below n (λ k. not (eqb (q k) m)) ≤ count_below n (λ k. not (eqb k m)) =
          count_image n n q (λ k. not (eqb k m)) old (λ j k jl kl z. sym (forth j jl) ∙ ap p z ∙ forth k kl) in
          let whole : count_below n (λ k. true) ≡ 1 + count_below n (λ k. not (eqb k m)) = count_but n (λ k. true) m l in
          let most : count_below n (λ k. true) ≤ n = count_le n (λ k. true) in
          omega arith

      go : (c : Bool) → any_below n (λ k. eqb (q k) m) ≡ c → (k : ℕ) × (k < n) × (q k ≡ m)
      go true e = let w = any_elim n (λ k. eqb (q k) m) e in (w.0, w.1, eqb-true (q w.0) m w.2)
      go false e = absurd (missed e)

  pub onto_permutes : Permutes n p q
  onto_permutes = record {
    new = λ m l. let w = hit m l in subst (λ k. k < n) (sym (image m l)) w.1;
    old = old;
    back = λ m l. let w = hit m l in ap q (image m l) ∙ w.2;
    forth = forth;
  }
    where
      image : (m : ℕ) (l : m < n) → p m ≡ (hit m l).0
      image m l = let w = hit m l in ap p (sym w.2) ∙ forth w.0 w.1
