-- Two records whose moments agree inside S, place by place: what a pair of calls adds to them agrees there too.
use Prim.Native.Nat.{ℕ, zero, suc, ◌-◌, ◌<◌}
use native.Mathlib.Omega.{arith}
use mathlib.Core.Path.{◌≡◌, refl, sym, ap, subst, subst₂, ◌∙◌}
use mathlib.Core.Logic.{inl, inr}
use mathlib.Core.Bool.{Bool, true, false, cond, not, ◌&&◌, false≢true, true≢false}
use mathlib.Core.List.{List, [], ◌∷◌, ◌++◌}
use lib.Dec.{eqb, ltb}
use lib.ListN.{length, get_or}
use borrow.Author.Tests.{ltb-true}
use Rattle.sets.proofs.Finite.{not_both, and_under}
use Rattle.theory.specs.Formula.{Formula}
use Rattle.theory.specs.Meaning.{from_first, holds}
use Rattle.theory.specs.Terms.{Terms, Effect, formula}
use Rattle.theory.specs.Moment.{Relations, Moment, graph, affect, affect_all, first}
use Rattle.theory.specs.Keeper.{Call, Answer, record_of, last, last_moment, target, keeper_holds, judge}
use Rattle.theory.specs.Strangers.{Circle, WithoutReach, Separate, AgreeWithin, Enough, Outside, SameWithin, BothOutside}
use Rattle.theory.specs.Fit.{Good}
use Rattle.theory.proofs.Unfolding.{reach_spelled}
use Rattle.theory.proofs.Good.{small, only_out}
use Rattle.theory.proofs.CallByTests.{unnamed, named, granted, answered, counted, made_by, judged, makes_counted, judge_lent}
use Rattle.theory.proofs.Within.{In, Twin, holds_within}
use Rattle.theory.proofs.Separate.{made_edge}

module _ (T : Terms) (S : Circle) where
  -- ---- moments that agree inside S

  abbrev pub Agree : Moment → Moment → Type 0
  Agree M N = (l a b : ℕ) → In T.members S a → In T.members S b → graph T M l a b ≡ graph T N l a b

  by_label : (l : ℕ) {x y p q : Bool} → (ltb l T.relations ≡ true → x ≡ y) → p ≡ q → cond (ltb l T.relations) x p ≡ cond (ltb l T.relations) y q
  by_label l {x} {y} {p} {q} h e = go (ltb l T.relations) h
    where
      go : (c : Bool) → (c ≡ true → x ≡ y) → cond c x p ≡ cond c y q
      go true h = h refl
      go false h = e

  pub agree_first : (R Q : Relations) → AgreeWithin T S R Q → Agree (first R) (first Q)
  agree_first R Q h l a b ai bi = by_label l (λ e. h l a b (ltb-true l T.relations e) ai.0 bi.0 ai.1 bi.1) refl

  affect_all_cong : (u v : ℕ) (es : List Effect) (R Q : Relations) (k a b : ℕ) → R k a b ≡ Q k a b → affect_all u v es R k a b ≡ affect_all u v es Q k a b
  unfolding affect_all
  affect_all_cong u v [] R Q k a b e = e
  affect_all_cong u v (f ∷ es) R Q k a b e =
      affect_all_cong u v es (affect u v f R) (affect u v f Q) k a b
      (ap (cond (eqb k f.relation && eqb a (cond f.back v u) && eqb b (cond f.back u v)) f.adds) e)

  module _ (M N : Moment) (al : Agree M N) where
    edge_agrees : (l a b : ℕ) → In T.members S a → In T.members S b → ltb l T.relations ≡ true → M.edge l a b ≡ N.edge l a b
    edge_agrees l a b ai bi e = rw e at (al l a b ai bi)

    -- The same call makes moments that agree.
    agree_same : (c : Call) (g : Bool) → Agree (made_by T M c g) (made_by T N c g)
    agree_same c true l a b ai bi =
        by_label l (λ e. affect_all_cong c.from c.to (T.effects c.event) M.edge N.edge l a b (edge_agrees l a b ai bi e)) refl
    agree_same c false l a b ai bi = by_label l (edge_agrees l a b ai bi) refl

    -- Two calls with their ends outside S do too, whichever they are.
    agree_outside : (c d : Call) → Outside S c → Outside S d → (g h : Bool) → Agree (made_by T M c g) (made_by T N d h)
    agree_outside c d p q g h l a b ai bi =
        untouched M c p g ∙ by_label l (edge_agrees l a b ai bi) refl ∙ sym (untouched N d q h)
      where
        untouched : (M : Moment) (c : Call) → Outside S c → (g : Bool) → graph T (made_by T M c g) l a b ≡ graph T (first M.edge) l a b
        untouched M c o g = elim (made_edge T S M c g (o.0 ∙ sym o.1) l a b) [
          | inl e ↦ e
          | inr e ↦ absurd (not_both (S a) ai.1 (e.0 ∙ o.0))
        ]

-- ---- records that do

pub data Parallel (T : Terms) (S : Circle) : List Moment → List Moment → Type 0 where
  done : Parallel T S [] []
  more : {M N : Moment} {Ms Ns : List Moment} → Agree T S M N → Parallel T S Ms Ns → Parallel T S (M ∷ Ms) (N ∷ Ns)

module _ (T : Terms) (S : Circle) where
  same_length : {Ms Ns : List Moment} → Parallel T S Ms Ns → length Ms ≡ length Ns
  same_length done = refl
  same_length (more a rest) = ap suc (same_length rest)

  agree_at : (D : Moment) {Ms Ns : List Moment} → Parallel T S Ms Ns → (i : ℕ) → Agree T S (get_or Ms i D) (get_or Ns i D)
  agree_at D done i = λ l a b _ _. refl
  agree_at D (more a rest) zero = a
  agree_at D (more a rest) (suc i) = agree_at D rest i

  pub parallel_append : {Ms Ns As Bs : List Moment} → Parallel T S Ms Ns → Parallel T S As Bs → Parallel T S (Ms ++ As) (Ns ++ Bs)
  parallel_append done new = new
  parallel_append (more a rest) new = more a (parallel_append rest new)

  module _ (Ms Ns : List Moment) (al : Parallel T S Ms Ns) where
    same_last : last Ms ≡ last Ns
    same_last = ap (λ i. i - 1) (same_length al)

    agree_last : Agree T S (last_moment Ms) (last_moment Ns)
    agree_last =
        subst (λ i. Agree T S (last_moment Ms) (get_or Ns i (first (λ k a b. false)))) same_last (agree_at (first (λ k a b. false)) al (last Ms))

    -- ---- two calls outside S that make a moment in both runs or in neither

    pub parallel_outside : (c d : Call) → BothOutside T S Ms Ns c d → Parallel T S (judge T from_first Ms c).1 (judge T from_first Ns d).1
    parallel_outside c d o =
        subst₂ (λ (r s : Answer × List Moment). Parallel T S r.1 s.1) (sym (judged T from_first Ms c)) (sym (judged T from_first Ns d))
        (go (counted T c (granted T from_first Ms c)) (counted T d (granted T from_first Ns d)) (sym (makes_counted T Ms c) ∙ o.both ∙ makes_counted T Ns d))
      where
        go : (x y : Bool) → x ≡ y →
            Parallel T S (cond x (made_by T (last_moment Ms) c (granted T from_first Ms c) ∷ []) []) (cond y (made_by T (last_moment Ns) d (granted T from_first Ns d) ∷ []) [])
        go true true e = more (agree_outside T S (last_moment Ms) (last_moment Ns) agree_last c d o.left o.right (granted T from_first Ms c) (granted T from_first Ns d)) done
        go false false e = done
        go true false e = absurd (true≢false e)
        go false true e = absurd (false≢true e)

    -- ---- the same call inside S

    module _ (good : Good T) (without : WithoutReach T) (apart : Separate T S Ms) (apart' : Separate T S Ns) where
      twin : Twin T.members S (record_of T Ms) (record_of T Ns)
      twin = record { left = apart; right = apart'; agree = agree_at (first (λ k a b. false)) al }

      policy_within : (c : Call) → c.event < T.events → In T.members S c.from → In T.members S c.to →
          keeper_holds T from_first Ms (T.policy c.event) (target c.to) c.from ≡ keeper_holds T from_first Ns (T.policy c.event) (target c.to) c.from
      policy_within c l u v =
          let n : T.policy c.event < T.entries = good.policy_exists c.event l in
          holds_within T.members from_first S (record_of T Ms) (record_of T Ns) twin (formula T (T.policy c.event))
          (reach_spelled T.entry (λ x (f : Formula). ⊥) (T.policy c.event) (λ k kl e. without k (omega arith) e))
          (last Ms) (target c.to) c.from u
          (λ x p. rw (only_out 0 (formula T (T.policy c.event)) (good.policy_free c.event l) x (small T good (T.policy c.event) n x p) p) v)
          ∙ ap (λ i. holds T.members from_first (record_of T Ns) (formula T (T.policy c.event)) i (target c.to) c.from) same_last

      same_granted : (c : Call) → S c.from ≡ true → S c.to ≡ true → granted T from_first Ms c ≡ granted T from_first Ns c
      same_granted c u v =
          and_under (not (unnamed T c)) _ _ (λ e. let n = named T c e in policy_within c n.0 (n.1, u) (n.2, v))

      pub parallel_inside : (c d : Call) → Enough c → Enough d → SameWithin S c d →
          ((judge T from_first Ms c).0 ≡ (judge T from_first Ns d).0) × Parallel T S (judge T from_first Ms c).1 (judge T from_first Ns d).1
      parallel_inside c d ce de sm =
          subst₂ (λ (r s : Answer × List Moment). (r.0 ≡ s.0) × Parallel T S r.1 s.1) (sym (judged T from_first Ms c))
          (sym (judged T from_first Ns c) ∙ judge_lent T from_first Ns sm.look sm.event sm.from sm.to ce de)
          (go (granted T from_first Ms c) (granted T from_first Ns c) (same_granted c sm.inside.0 sm.inside.1))
        where
          one : (g x : Bool) → Parallel T S (cond x (made_by T (last_moment Ms) c g ∷ []) []) (cond x (made_by T (last_moment Ns) c g ∷ []) [])
          one g true = more (agree_same T S (last_moment Ms) (last_moment Ns) agree_last c g) done
          one g false = done

          go : (g h : Bool) → g ≡ h → (answered T c g ≡ answered T c h)
              × Parallel T S (cond (counted T c g) (made_by T (last_moment Ms) c g ∷ []) []) (cond (counted T c h) (made_by T (last_moment Ns) c h ∷ []) [])
          go g h e = rw (sym e) (refl, one g (counted T c g))
