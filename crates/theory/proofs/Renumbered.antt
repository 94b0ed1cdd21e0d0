-- Table numbers in formulas: what does not look at them, and what is left when starts stand in their places.
use Prim.Native.Nat.{ℕ, zero, suc, ◌-◌, ◌≤◌, ◌<◌}
use native.Mathlib.Omega.{arith}
use native.Mathlib.Decide.{ℕ_discrete}
use mathlib.Core.Path.{◌≡◌, refl, sym, ap, ap₂, ◌∙◌}
use mathlib.Core.List.{◌∷◌}
use mathlib.Core.Bool.{Bool, true, false, cond, not, ◌&&◌, ◌||◌, false≢true}
use lib.Dec.{eqb, ltb, leb}
use borrow.Author.Tests.{ne_eqb}
use Rattle.sets.proofs.Finite.{any_cong, count_cong, all_cong}
use Rattle.theory.specs.Formula.{Formula, Formula-discrete, Entry, node, number, below, spelled, is_past, renumbered, bare, same, free, those, or_target, columns}
use Rattle.theory.specs.Formula.Formula.{top, var, neg, or, out, into, prev, since, bind, at, reach, many}
use Rattle.theory.specs.Meaning.{Record, Starts, Assignment, assign, holds}
use Rattle.theory.proofs.Unfolding.{table_of}

-- ---- the same fully spelled-out formula

pub same_bare : (f h : Formula) → same f h ≡ true → bare f ≡ bare h
unfolding same
same_bare f h e = go (Formula-discrete ℕ_discrete (bare f) (bare h)) e
  where
    go : (d : Dec (bare f ≡ bare h)) → elim d [ yes e ↦ true | no e ↦ false ] ≡ true → bare f ≡ bare h
    go (yes p) e = p
    go (no n) e = absurd (false≢true e)

pub bare_same : (f h : Formula) → bare f ≡ bare h → same f h ≡ true
unfolding same
bare_same f h e = go (Formula-discrete ℕ_discrete (bare f) (bare h))
  where
    go : (d : Dec (bare f ≡ bare h)) → elim d [ yes e ↦ true | no e ↦ false ] ≡ true
    go (yes p) = refl
    go (no n) = absurd (n e)

pub renumbered_twice : (r s : ℕ → ℕ) (f : Formula) → renumbered r (renumbered s f) ≡ renumbered (λ t. r (s t)) f
unfolding renumbered
renumbered_twice r s top = refl
renumbered_twice r s (var x) = refl
renumbered_twice r s (neg f) = ap neg (renumbered_twice r s f)
renumbered_twice r s (or f h) = ap₂ or (renumbered_twice r s f) (renumbered_twice r s h)
renumbered_twice r s (out l f) = ap (out l) (renumbered_twice r s f)
renumbered_twice r s (into l f) = ap (into l) (renumbered_twice r s f)
renumbered_twice r s (prev t f) = ap (prev (r (s t))) (renumbered_twice r s f)
renumbered_twice r s (since t f h) = ap₂ (since (r (s t))) (renumbered_twice r s f) (renumbered_twice r s h)
renumbered_twice r s (bind x f) = ap (bind x) (renumbered_twice r s f)
renumbered_twice r s (at x f) = ap (at x) (renumbered_twice r s f)
renumbered_twice r s (reach x f h) = ap₂ (reach x) (renumbered_twice r s f) (renumbered_twice r s h)
renumbered_twice r s (many l f k) = ap (λ (φ : Formula). many l φ k) (renumbered_twice r s f)

-- ---- free variables do not look at table numbers

pub free_renumbered : (s : ℕ → ℕ) (f : Formula) (x : ℕ) → free (renumbered s f) x ≡ free f x
unfolding renumbered free
free_renumbered s top x = refl
free_renumbered s (var y) x = refl
free_renumbered s (neg f) x = free_renumbered s f x
free_renumbered s (or f h) x = ap₂ ◌||◌ (free_renumbered s f x) (free_renumbered s h x)
free_renumbered s (out l f) x = free_renumbered s f x
free_renumbered s (into l f) x = free_renumbered s f x
free_renumbered s (prev t f) x = free_renumbered s f x
free_renumbered s (since t f h) x = ap₂ ◌||◌ (free_renumbered s f x) (free_renumbered s h x)
free_renumbered s (bind y f) x = ap (λ c. not (eqb x y) && c) (free_renumbered s f x)
free_renumbered s (at y f) x = ap (λ c. eqb x y || c) (free_renumbered s f x)
free_renumbered s (reach y f h) x = free_renumbered s h x
free_renumbered s (many l f k) x = free_renumbered s f x

those_cong : (n k : ℕ) (p q : ℕ → Bool) → ((x : ℕ) → p x ≡ q x) → those n k p ≡ those n k q
unfolding those
those_cong zero k p q h = refl
those_cong (suc n) k p q h = ap₂ (λ c xs. cond c (k ∷ xs) xs) (h k) (those_cong n (suc k) p q h)

pub columns_bare : (f h : Formula) → bare f ≡ bare h → columns f ≡ columns h
columns_bare f h e =
    ap or_target (those_cong 16 0 (free f) (free h)
    (λ x. sym (free_renumbered (λ t. 0) f x) ∙ ap (λ (φ : Formula). free φ x) e ∙ free_renumbered (λ t. 0) h x))

-- ---- past-time formulas

pastly : Formula → Bool
pastly top = false
pastly (var x) = false
pastly (neg f) = false
pastly (or f h) = false
pastly (out l f) = false
pastly (into l f) = false
pastly (prev t f) = true
pastly (since t f h) = true
pastly (bind x f) = false
pastly (at x f) = false
pastly (reach x f h) = false
pastly (many l f k) = false

pastly_renumbered : (s : ℕ → ℕ) (f : Formula) → pastly (renumbered s f) ≡ pastly f
unfolding pastly renumbered
pastly_renumbered s top = refl
pastly_renumbered s (var x) = refl
pastly_renumbered s (neg f) = refl
pastly_renumbered s (or f h) = refl
pastly_renumbered s (out l f) = refl
pastly_renumbered s (into l f) = refl
pastly_renumbered s (prev t f) = refl
pastly_renumbered s (since t f h) = refl
pastly_renumbered s (bind x f) = refl
pastly_renumbered s (at x f) = refl
pastly_renumbered s (reach x f h) = refl
pastly_renumbered s (many l f k) = refl

pastly_node : (t : ℕ) (f : ℕ → Formula) (op a b c : ℕ) → pastly (node t f op a b c) ≡ is_past op
unfolding pastly node
pastly_node t f zero a b c = refl
pastly_node t f (suc zero) a b c = refl
pastly_node t f (suc (suc zero)) a b c = refl
pastly_node t f (suc (suc (suc zero))) a b c = refl
pastly_node t f (suc (suc (suc (suc zero)))) a b c = refl
pastly_node t f (suc (suc (suc (suc (suc zero))))) a b c = refl
pastly_node t f (suc (suc (suc (suc (suc (suc zero)))))) a b c = refl
pastly_node t f (suc (suc (suc (suc (suc (suc (suc zero))))))) a b c = refl
pastly_node t f (suc (suc (suc (suc (suc (suc (suc (suc zero)))))))) a b c = refl
pastly_node t f (suc (suc (suc (suc (suc (suc (suc (suc (suc zero))))))))) a b c = refl
pastly_node t f (suc (suc (suc (suc (suc (suc (suc (suc (suc (suc zero)))))))))) a b c = refl
pastly_node t f (suc (suc (suc (suc (suc (suc (suc (suc (suc (suc (suc zero))))))))))) a b c = refl
pastly_node t f (suc (suc (suc (suc (suc (suc (suc (suc (suc (suc (suc (suc n)))))))))))) a b c =
    sym (ap₂ ◌||◌ (ne_eqb (suc (suc (suc (suc (suc (suc (suc (suc (suc (suc (suc (suc n)))))))))))) 6 (λ e. omega arith)) (ne_eqb (suc (suc (suc (suc (suc (suc (suc (suc (suc (suc (suc (suc n)))))))))))) 7 (λ e. omega arith)))

-- An entry with the same formula as a past-time entry is one.
pub past_same : (d e : ℕ → Entry) (k n : ℕ) → bare (spelled d k) ≡ bare (spelled e n) → is_past (d k).op ≡ is_past (e n).op
unfolding spelled
past_same d e k n q =
    sym (pastly_node (number d k) (below d k) (d k).op (d k).a (d k).b (d k).c)
    ∙ sym (pastly_renumbered (λ t. 0) (spelled d k)) ∙ ap pastly q ∙ pastly_renumbered (λ t. 0) (spelled e n)
    ∙ pastly_node (number e n) (below e n) (e n).op (e n).a (e n).b (e n).c

-- ---- the meaning, where the start itself stands in the place of the table number

module _ (N : ℕ) (s : Starts) (γ : Record) where
  pub holds_renumbered : (f : Formula) (i : ℕ) (g : Assignment) (m : ℕ) → holds N s γ f i g m ≡ holds N (λ t. t) γ (renumbered s f) i g m
  unfolding holds renumbered
  holds_renumbered top i g m = refl
  holds_renumbered (var x) i g m = refl
  holds_renumbered (neg f) i g m = ap not (holds_renumbered f i g m)
  holds_renumbered (or f h) i g m = ap₂ ◌||◌ (holds_renumbered f i g m) (holds_renumbered h i g m)
  holds_renumbered (out l f) i g m = any_cong N (λ k _. ap (λ x. γ i l m k && x) (holds_renumbered f i g k))
  holds_renumbered (into l f) i g m = any_cong N (λ k _. ap (λ x. γ i l k m && x) (holds_renumbered f i g k))
  holds_renumbered (prev t f) i g m = ap (λ x. ltb (s t) i && x) (holds_renumbered f (i - 1) g m)
  holds_renumbered (since t f h) i g m =
      any_cong (suc i) (λ j _. ap (λ x. leb (s t) j && x) (ap₂ ◌&&◌ (holds_renumbered h j g m)
      (all_cong i (λ k _. ap (λ x. leb (suc k) j || x) (holds_renumbered f (suc k) g m)))))
  holds_renumbered (bind x f) i g m = holds_renumbered f i (assign g x m) m
  holds_renumbered (at x f) i g m = holds_renumbered f i g (g x)
  holds_renumbered (reach x f h) i g m =
      any_cong N (λ k _. ap₂ ◌&&◌ (holds_renumbered f i (assign (λ y. 0) x k) m) (holds_renumbered h i g k))
  holds_renumbered (many l f n) i g m = ap (leb n) (count_cong N (λ k _. ap (λ x. γ i l m k && x) (holds_renumbered f i g k)))

-- P holds of each past-time formula in φ, those inside others too.
abbrev pub Everywhere : (Formula → Type 0) → Formula → Type 0
Everywhere P top = Unit {0}
Everywhere P (var x) = Unit {0}
Everywhere P (neg f) = Everywhere P f
Everywhere P (or f h) = Everywhere P f × Everywhere P h
Everywhere P (out l f) = Everywhere P f
Everywhere P (into l f) = Everywhere P f
Everywhere P (prev t f) = P (prev t f) × Everywhere P f
Everywhere P (since t f h) = P (since t f h) × (Everywhere P f × Everywhere P h)
Everywhere P (bind x f) = Everywhere P f
Everywhere P (at x f) = Everywhere P f
Everywhere P (reach x f h) = Everywhere P f × Everywhere P h
Everywhere P (many l f k) = Everywhere P f

module _ (P : Formula → Type 0) (t : ℕ) (f : ℕ → Formula) where
  everywhere_node : (op a b c : ℕ) → ((k : ℕ) → Everywhere P (f k)) → (is_past op ≡ true → P (node t f op a b c)) → Everywhere P (node t f op a b c)
  unfolding node
  everywhere_node zero a b c h p = tt
  everywhere_node (suc zero) a b c h p = tt
  everywhere_node (suc (suc zero)) a b c h p = h a
  everywhere_node (suc (suc (suc zero))) a b c h p = (h a, h b)
  everywhere_node (suc (suc (suc (suc zero)))) a b c h p = h b
  everywhere_node (suc (suc (suc (suc (suc zero))))) a b c h p = h b
  everywhere_node (suc (suc (suc (suc (suc (suc zero)))))) a b c h p = (p refl, h a)
  everywhere_node (suc (suc (suc (suc (suc (suc (suc zero))))))) a b c h p = (p refl, (h a, h b))
  everywhere_node (suc (suc (suc (suc (suc (suc (suc (suc zero)))))))) a b c h p = h b
  everywhere_node (suc (suc (suc (suc (suc (suc (suc (suc (suc zero))))))))) a b c h p = h b
  everywhere_node (suc (suc (suc (suc (suc (suc (suc (suc (suc (suc zero)))))))))) a b c h p = (h b, h c)
  everywhere_node (suc (suc (suc (suc (suc (suc (suc (suc (suc (suc (suc zero))))))))))) a b c h p = h b
  everywhere_node (suc (suc (suc (suc (suc (suc (suc (suc (suc (suc (suc (suc n)))))))))))) a b c h p = tt

module _ (entry : ℕ → Entry) (P : Formula → Type 0) where
  everywhere_below : (n : ℕ) → ((k : ℕ) → k < n → is_past (entry k).op ≡ true → P (spelled entry k)) → (k : ℕ) → Everywhere P (below entry n k)
  unfolding below spelled
  everywhere_below zero h k = tt
  everywhere_below (suc n) h k = go (everywhere_below n (λ j l. h j (omega arith))) (eqb k n)
    where
      go : ((k : ℕ) → Everywhere P (below entry n k)) → (c : Bool) →
          Everywhere P (elim c [ true ↦ node (number entry n) (below entry n) (entry n).op (entry n).a (entry n).b (entry n).c | false ↦ below entry n k ])
      go ih true = everywhere_node P (number entry n) (below entry n) (entry n).op (entry n).a (entry n).b (entry n).c ih (h n (omega arith))
      go ih false = ih k

  -- All past-time formulas inside an entry are entries.
  pub everywhere_spelled : (n : ℕ) → ((k : ℕ) → k ≤ n → is_past (entry k).op ≡ true → P (spelled entry k)) → Everywhere P (spelled entry n)
  unfolding spelled
  everywhere_spelled n h =
      everywhere_node P (number entry n) (below entry n) (entry n).op (entry n).a (entry n).b (entry n).c
      (everywhere_below n (λ k l. h k (omega arith))) (h n (omega arith))

-- The formula with p φ in the place of the table number of each past-time formula φ in it.
filled : (Formula → ℕ) → Formula → Formula
filled p top = top
filled p (var x) = var x
filled p (neg f) = neg (filled p f)
filled p (or f h) = or (filled p f) (filled p h)
filled p (out l f) = out l (filled p f)
filled p (into l f) = into l (filled p f)
filled p (prev t f) = prev (p (prev t f)) (filled p f)
filled p (since t f h) = since (p (since t f h)) (filled p f) (filled p h)
filled p (bind x f) = bind x (filled p f)
filled p (at x f) = at x (filled p f)
filled p (reach x f h) = reach x (filled p f) (filled p h)
filled p (many l f k) = many l (filled p f) k

module _ (s : Starts) (p : Formula → ℕ) where
  renumbered_filled : (f : Formula) → Everywhere (λ φ. s (table_of φ) ≡ p (bare φ)) f → renumbered s f ≡ filled p (bare f)
  unfolding renumbered filled
  renumbered_filled top v = refl
  renumbered_filled (var x) v = refl
  renumbered_filled (neg f) v = ap neg (renumbered_filled f v)
  renumbered_filled (or f h) v = ap₂ or (renumbered_filled f v.0) (renumbered_filled h v.1)
  renumbered_filled (out l f) v = ap (out l) (renumbered_filled f v)
  renumbered_filled (into l f) v = ap (into l) (renumbered_filled f v)
  renumbered_filled (prev t f) v = ap₂ prev v.0 (renumbered_filled f v.1)
  renumbered_filled (since t f h) v =
      ap (λ (k : ℕ). since k (renumbered s f) (renumbered s h)) v.0
      ∙ ap₂ (since (p (bare (since t f h)))) (renumbered_filled f v.1.0) (renumbered_filled h v.1.1)
  renumbered_filled (bind x f) v = ap (bind x) (renumbered_filled f v)
  renumbered_filled (at x f) v = ap (at x) (renumbered_filled f v)
  renumbered_filled (reach x f h) v = ap₂ (reach x) (renumbered_filled f v.0) (renumbered_filled h v.1)
  renumbered_filled (many l f k) v = ap (λ (φ : Formula). many l φ k) (renumbered_filled f v)

-- Two formulas that are the same fully spelled out, whose past-time formulas start when p says, mean the same.
module _ (N : ℕ) (γ : Record) (p : Formula → ℕ) (s r : Starts) (f h : Formula) (e : bare f ≡ bare h)
    (v : Everywhere (λ φ. s (table_of φ) ≡ p (bare φ)) f) (w : Everywhere (λ φ. r (table_of φ) ≡ p (bare φ)) h)
  where
    pub same_meaning : (i : ℕ) (g : Assignment) (m : ℕ) → holds N s γ f i g m ≡ holds N r γ h i g m
    same_meaning i g m =
        holds_renumbered N s γ f i g m
        ∙ ap (λ (φ : Formula). holds N (λ t. t) γ φ i g m) (renumbered_filled s p f v ∙ ap (filled p) e ∙ sym (renumbered_filled r p h w))
        ∙ sym (holds_renumbered N r γ h i g m)
