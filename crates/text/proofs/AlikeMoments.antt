-- Terms that are alike decide alike and make the same moments, from every state.
use Prim.Native.Nat.{ℕ, zero, suc, ◌≤◌, ◌<◌}
use native.Mathlib.Omega.{arith}
use mathlib.Core.Path.{◌≡◌, refl, ap, ◌∙◌}
use mathlib.Core.Bool.{Bool, true, false, cond}
use lib.Dec.{eqb}
use Rattle.theory.specs.Formula.{number, below}
use Rattle.theory.specs.Meaning.{Graph, alone}
use Rattle.theory.specs.Columns.{standing, member}
use Rattle.theory.specs.Terms.{Terms, formula, Alike}
use Rattle.theory.specs.Moment.{Moment, graph, affect_all}
use Rattle.theory.specs.Moment.Event.{happened}
use Rattle.theory.specs.Tables.{Tables, holds_now, store, prev_step, prev_tables, since_tables, State, decide_now, made, advance}
use Rattle.theory.specs.Fit.{Good}
use Rattle.theory.proofs.AlikeTerms.{met, met-is, below_agree, same_number, same_formula, since_met}

module _ (T U : Terms) (a : Alike T U) (good : Good T) where
  abbrev W : Terms
  W = met T U

  decide_met : (S : State) (j u v : ℕ) → j < T.events → decide_now T S j u v ≡ decide_now W S j u v
  decide_met S j u v l =
      ap (λ φ. holds_now T.members (graph T S.now) S.table φ (alone 0 v) u)
      (same_formula T U a (T.policy j) (good.policy_exists j l) ∙ ap (formula W) (a.policy j l))

  prev_step_met : (G : Graph) (n : ℕ) → n < T.entries → (X : Tables) → prev_step T G n X ≡ prev_step W G n X
  prev_step_met G n l X =
      let e : T.entry n ≡ W.entry n = a.entry n l in
      let s : number T.entry n ≡ number W.entry n = same_number T U a n (omega arith) in
      let f : below T.entry n ≡ below W.entry n = below_agree T.entry W.entry n (λ k h. a.entry k (omega arith)) in
      let φ : formula T n ≡ formula W n = same_formula T U a n l in
      λ d. cond (eqb (e d).op 6) (store (s d) (λ i b. holds_now T.members G X (f d (e d).a) (standing (φ d) i b) (member (φ d) i)) X) X

  prev_met : (G : Graph) (n : ℕ) → n ≤ T.entries → (X : Tables) → prev_tables T G n X ≡ prev_tables W G n X
  unfolding prev_tables
  prev_met G zero l X = refl
  prev_met G (suc n) l X = prev_met G n (omega arith) (prev_step T G n X) ∙ ap (prev_tables W G n) (prev_step_met G n l X)

  made_met : (M : Moment) (g : Bool) (j u v : ℕ) → j < T.events → made T M g j u v ≡ made W M g j u v
  made_met M true j u v l = λ d. record { edge = affect_all u v (a.effects j l d) M.edge; event = happened j u v }
  made_met M false j u v l = refl

  advance_met : (S : State) (M : Moment) → advance T S M ≡ advance W S M
  unfolding advance
  advance_met S M =
      let G : Graph = graph T S.now in
      let P : prev_tables T G T.entries S.table ≡ prev_tables W G T.entries S.table = prev_met G T.entries (omega arith) S.table in
      let Q = since_met T U a (graph T M) (prev_tables W G T.entries S.table) T.entries (omega arith) in
      (λ d. record { now = M; table = since_tables T (graph T M) T.entries (P d) })
      ∙ (λ d. record { now = M; table = Q d })

  pub decide_alike : (S : State) (j u v : ℕ) → j < T.events → decide_now T S j u v ≡ decide_now U S j u v
  decide_alike S j u v l = decide_met S j u v l ∙ ap (λ X. decide_now X S j u v) (met-is T U a)

  pub made_alike : (M : Moment) (g : Bool) (j u v : ℕ) → j < T.events → made T M g j u v ≡ made U M g j u v
  made_alike M g j u v l = made_met M g j u v l ∙ ap (λ X. made X M g j u v) (met-is T U a)

  pub advance_alike : (S : State) (M : Moment) → advance T S M ≡ advance U S M
  advance_alike S M = advance_met S M ∙ ap (λ X. advance X S M) (met-is T U a)
