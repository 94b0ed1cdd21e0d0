-- That no edge ever joins S to the rest follows from moment 0 and from where each call has its ends: effects and event
-- edges join only the two ends of a call.
use Prim.Native.Nat.{ℕ, zero, suc, ◌+◌, ◌-◌, ◌<◌}
use mathlib.Core.Path.{◌≡◌, refl, sym, ap, subst, ◌∙◌}
use mathlib.Core.Logic.{◌⊎◌, inl, inr}
use mathlib.Core.Bool.{Bool, true, false, cond, ◌&&◌, false≢true}
use mathlib.Core.List.{List, [], ◌∷◌, ◌++◌}
use lib.Dec.{eqb, ltb}
use borrow.Author.Tests.{eqb-true, ltb-true, lt-ltb}
use Rattle.sets.proofs.Finite.{and_left, and_right}
use Rattle.theory.specs.Meaning.{Graph, from_first}
use Rattle.theory.specs.Terms.{Terms, Effect}
use Rattle.theory.specs.Moment.{Relations, Moment, event_edge, graph, affect, affect_all, first}
use Rattle.theory.specs.Keeper.{Call, Answer, record_of, last, last_moment, judge, keep, keep_all, keeper}
use Rattle.theory.specs.Strangers.{Circle, Separate, SeparateFirst, OneSided}
use Rattle.theory.proofs.CallByTests.{granted, counted, made_by, judged}

module _ (T : Terms) (S : Circle) where
  -- ---- the edges of a moment that a call from u to v makes

  -- Both on u's side.
  abbrev Beside : (u a b : ℕ) → Type 0
  Beside u a b = (S a ≡ S u) × (S b ≡ S u)

  ends : (x : Bool) (u v a b : ℕ) → S u ≡ S v → x && eqb a u && eqb b v ≡ true → Beside u a b
  ends x u v a b s e =
      (ap S (eqb-true a u (and_right x (eqb a u) (and_left (x && eqb a u) (eqb b v) e))), ap S (eqb-true b v (and_right (x && eqb a u) (eqb b v) e)) ∙ sym s)

  none_or : (c : Bool) {A : Type 0} → (c ≡ true → A) → (c ≡ false) ⊎ A
  none_or true h = inr (h refl)
  none_or false h = inl refl

  affected : (u v : ℕ) → S u ≡ S v → (es : List Effect) (R : Relations) (k a b : ℕ) → (affect_all u v es R k a b ≡ R k a b) ⊎ Beside u a b
  unfolding affect_all
  affected u v s [] R k a b = inl refl
  affected u v s (e ∷ es) R k a b = go (affected u v s es (affect u v e R) k a b) (eqb k e.relation && eqb a (cond e.back v u) && eqb b (cond e.back u v)) refl
    where
      side : (c : Bool) → (S (cond c v u) ≡ S u) × (S (cond c v u) ≡ S (cond c u v))
      side true = (sym s, sym s)
      side false = (refl, s)

      go : (affect_all u v es (affect u v e R) k a b ≡ affect u v e R k a b) ⊎ Beside u a b →
          (c : Bool) → (eqb k e.relation && eqb a (cond e.back v u) && eqb b (cond e.back u v)) ≡ c →
          (affect_all u v es (affect u v e R) k a b ≡ R k a b) ⊎ Beside u a b
      go ih true t =
          let z = ends (eqb k e.relation) (cond e.back v u) (cond e.back u v) a b (side e.back).1 t in
          inr (z.0 ∙ (side e.back).0, z.1 ∙ (side e.back).0)
      go (inl p) false t = inl (p ∙ rw t)
      go (inr p) false t = inr p

  -- It is an edge of the relations before, or between members beside the ends.
  pub made_edge : (M : Moment) (c : Call) (g : Bool) → S c.from ≡ S c.to → (l a b : ℕ) →
      (graph T (made_by T M c g) l a b ≡ graph T (first M.edge) l a b) ⊎ Beside c.from a b
  made_edge M c g s l a b = go g (ltb l T.relations)
    where
      go : (g x : Bool) →
          (cond x ((made_by T M c g).edge l a b) (event_edge T.events (made_by T M c g).event (l - T.relations) a b) ≡ cond x (M.edge l a b) false)
          ⊎ Beside c.from a b
      go true true = affected c.from c.to s (T.effects c.event) M.edge l a b
      go false true = inl refl
      go true false = none_or _ (ends (eqb (l - T.relations) c.event) c.from c.to a b s)
      go false false = none_or _ (ends (eqb (l - T.relations) (T.events + c.event)) c.from c.to a b s)

  -- ---- moments

  -- No edge of the moment joins S to the rest.
  abbrev Apart : Moment → Type 0
  Apart M = (l a b : ℕ) → a < T.members → b < T.members → graph T M l a b ≡ true → S a ≡ S b

  apart_made : (M : Moment) (c : Call) (g : Bool) → S c.from ≡ S c.to → Apart M → Apart (made_by T M c g)
  apart_made M c g s p l a b al bl e = go (made_edge M c g s l a b)
    where
      still : (x : Bool) → cond x (M.edge l a b) false ≡ true → cond x (M.edge l a b) (event_edge T.events M.event (l - T.relations) a b) ≡ true
      still true z = z
      still false z = absurd (false≢true z)

      go : (graph T (made_by T M c g) l a b ≡ graph T (first M.edge) l a b) ⊎ Beside c.from a b → S a ≡ S b
      go (inl q) = p l a b al bl (still (ltb l T.relations) (sym q ∙ e))
      go (inr q) = q.0 ∙ sym q.1

  -- A moment without event edge.
  apart_first : (R : Relations) → SeparateFirst T S R → Apart (first R)
  apart_first R p l a b al bl = go (ltb l T.relations) refl
    where
      go : (c : Bool) → ltb l T.relations ≡ c → cond c (R l a b) false ≡ true → S a ≡ S b
      go true z e = p l a b (ltb-true l T.relations z) al bl e
      go false z e = absurd (false≢true e)

  -- ---- records

  separate_none : Separate T S []
  separate_none i = apart_first (λ k a b. false) (λ k a b _ _ _ e. absurd (false≢true e))

  separate_one : (M : Moment) → Apart M → Separate T S (M ∷ [])
  separate_one M p zero = p
  separate_one M p (suc i) = separate_none i

  separate_append : (Ms Ns : List Moment) → Separate T S Ms → Separate T S Ns → Separate T S (Ms ++ Ns)
  separate_append [] Ns p q i = q i
  separate_append (M ∷ Ms) Ns p q zero = p zero
  separate_append (M ∷ Ms) Ns p q (suc i) = separate_append Ms Ns (λ j. p (suc j)) q i

  pub separate_keep : (Ms : List Moment) (c : Call) → S c.from ≡ S c.to → Separate T S Ms → Separate T S (keep T from_first Ms c).1
  unfolding keep
  separate_keep Ms c s p =
      separate_append Ms (judge T from_first Ms c).1 p
      (subst (λ (r : Answer × List Moment). Separate T S r.1) (sym (judged T from_first Ms c)) (go (counted T c (granted T from_first Ms c))))
    where
      go : (b : Bool) → Separate T S (cond b (made_by T (last_moment Ms) c (granted T from_first Ms c) ∷ []) [])
      go true = separate_one _ (apart_made (last_moment Ms) c (granted T from_first Ms c) s (p (last Ms)))
      go false = separate_none

  pub separate_start : (R : Relations) → SeparateFirst T S R → Separate T S (first R ∷ [])
  separate_start R p = separate_one (first R) (apart_first R p)

  separate_all : (cs : List Call) (Ms : List Moment) → OneSided S cs → Separate T S Ms → Separate T S (keep_all T from_first Ms cs).1
  unfolding keep_all
  separate_all [] Ms o p = p
  separate_all (c ∷ cs) Ms o p = separate_all cs (keep T from_first Ms c).1 o.1 (separate_keep Ms c o.0 p)

  -- What a designer can check: no first edge joins S to the rest, and each call has both ends on
  -- one side. Then no edge ever does.
  pub separate_first : (R : Relations) → SeparateFirst T S R → (cs : List Call) → OneSided S cs → Separate T S (keeper T R cs).1
  separate_first R p cs o = separate_all cs (first R ∷ []) o (separate_start R p)

  -- Moment 0 stays at the head of the list.
  begins : (cs : List Call) (M : Moment) (Ms : List Moment) → record_of T (keep_all T from_first (M ∷ Ms) cs).1 0 ≡ graph T M
  unfolding keep_all keep
  begins [] M Ms = refl
  begins (c ∷ cs) M Ms = begins cs M (Ms ++ (judge T from_first (M ∷ Ms) c).1)

  pub separate_began : (R : Relations) (cs : List Call) → Separate T S (keeper T R cs).1 → SeparateFirst T S R
  separate_began R cs p k a b kl al bl e =
      p 0 k a b al bl (ap (λ (G : Graph). G k a b) (begins cs (first R) []) ∙ rw (lt-ltb k T.relations kl) e)
