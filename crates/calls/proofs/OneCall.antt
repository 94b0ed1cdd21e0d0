-- One call over memory that holds what the keeper's list says: the answer is the keeper's, and the memory
-- holds what the list then says.
use Prim.Native.Nat.{ℕ, ◌≤◌, ◌<◌}
use native.Mathlib.Omega.{arith}
use mathlib.Core.Path.{◌≡◌, refl, ap, ap₂, ◌∙◌, subst}
use mathlib.Core.List.{List, [], ◌∷◌, ◌++◌, append-nil}
use mathlib.Core.Bool.{Bool, true, false, cond, not, ◌&&◌, ◌||◌, and-false}
use lib.Dec.{ltb, leb}
use lib.ListN.{length, drop}
use borrow.Author.Tests.{le-ltb, ltb-true, ltb-false, le-leb, lt-leb}
use Rattle.sets.proofs.Finite.{and_left, and_right}
use Rattle.theory.specs.Meaning.{Starts}
use Rattle.theory.specs.Terms.{Terms}
use Rattle.theory.specs.Moment.{Moment}
use Rattle.theory.specs.Keeper.{Answer, target, last_moment, keeper_holds, judge, keep}
use Rattle.theory.specs.Keeper.Verdict.{grant, deny}
use Rattle.theory.specs.Keeper.Answer.{decided, refused}
use Rattle.theory.specs.Limits.{scratch_words}
use Rattle.memory.specs.Layout.{terms_words, state_words, terms_of, state_of, words_of}
use Rattle.memory.specs.Checks.{good_memory}
use Rattle.theory.specs.Tables.{named, decide_now, made, advance}
use Rattle.theory.specs.Fit.{Good}
use Rattle.calls.specs.Monitor.{answer, granted, moves, state_after}
use Rattle.calls.specs.Agreement.{LentCall, fed, leaves}
use Rattle.theory.proofs.RunInvariant.{Kept, decide_kept, advance_kept}
use Rattle.memory.proofs.Inside.{made_inside, state_inside}
use Rattle.calls.proofs.MemoryInvariant.{Held, held_words}

-- The keeper's test of a call is the monitor's.
unnamed : (T : Terms) (j u v : ℕ) → (leb T.events j || leb T.members u || leb T.members v) ≡ not (named T j u v)
unnamed T j u v =
    ap₂ ◌||◌ (ap₂ ◌||◌ (at_least T.events j) (at_least T.members u)) (at_least T.members v)
    ∙ go (ltb j T.events) (ltb u T.members) (ltb v T.members)
  where
    at_least : (n k : ℕ) → leb n k ≡ not (ltb k n)
    at_least n k = by (ltb k n) refl
      where
        by : (c : Bool) → ltb k n ≡ c → leb n k ≡ not c
        by true e = lt-leb n k (ltb-true k n e)
        by false e = le-leb n k (ltb-false k n e)

    go : (a b c : Bool) → (not a || not b || not c) ≡ not (a && (b && c))
    go true true c = refl
    go true false c = refl
    go false b c = refl

-- One call over memory that holds what the keeper's list says.
module _ (terms : List ℕ) (long_terms : terms_words ≤ length terms) (fine : Good (terms_of terms)) (good_terms : good_memory terms ≡ true)
    (s₀ : Starts) (m₀ m : List ℕ) (long : state_words ≤ length m₀) (Ms : List Moment) (h : Held (terms_of terms) s₀ fine m₀ m Ms) (c : LentCall)
  where
    abbrev T : Terms
    T = terms_of terms

    abbrev given : Answer
    given = answer terms m c.scratch c.event c.from c.to

    abbrev short : Bool
    short = ltb (length c.scratch) scratch_words

    abbrev known : Bool
    known = named T c.event c.from c.to

    abbrev allowed : Bool
    allowed = decide_now T (state_of m) c.event c.from c.to

    given_is : given ≡ cond short (refused 6 0) (cond (not known) (refused 9 0) (decided (cond allowed grant deny)))
    unfolding answer
    given_is = rw (le-ltb (length terms) terms_words long_terms, le-ltb (length m) state_words (omega (arith, h.long)), good_terms, h.good)

    abbrev holding : Bool
    holding = keeper_holds T s₀ Ms (T.policy c.event) (target c.to) c.from

    -- The moment that a verdict may make, by the keeper and by the monitor.
    abbrev kept : Bool → Moment
    kept g = made T (last_moment Ms) g c.event c.from c.to

    abbrev now : Bool → Moment
    now g = made T (state_of m).now g c.event c.from c.to

    judge-is : judge T s₀ Ms (fed c)
        ≡ cond short (refused 6 0, []) (cond (not known) (refused 9 0, [])
        (cond (not holding) (decided deny, cond (not c.look && T.kept c.event) (kept false ∷ []) [])
        (cond c.look (decided grant, []) (decided grant, kept true ∷ []))))
    unfolding judge
    judge-is = rw (unnamed T c.event c.from c.to)

    -- What makes no moment leaves the memory, and so does a look.
    stays : (not c.look && moves (T.kept c.event) given) ≡ false → leaves terms m c ≡ m
    unfolding state_after
    stays e = go c.look e
      where
        go : (l : Bool) → (not l && moves (T.kept c.event) given) ≡ false → cond l m (state_after terms m c.scratch c.event c.from c.to) ≡ m
        go true e = refl
        go false e = rw e

    goes : moves (T.kept c.event) given ≡ true → c.look ≡ false → leaves terms m c ≡ words_of T (advance T (state_of m) (now (granted given))) ++ drop state_words m
    unfolding state_after
    goes e l = rw (l, e)

    abbrev InStep : Type 0
    InStep = (given ≡ (keep T s₀ Ms (fed c)).0) × Held T s₀ fine m₀ (leaves terms m c) (keep T s₀ Ms (fed c)).1

    -- No moment is made.
    still : (x : Answer) → given ≡ x → judge T s₀ Ms (fed c) ≡ (x, []) → (not c.look && moves (T.kept c.event) given) ≡ false → InStep
    unfolding keep
    still x e k s = rw (k, stays s, append-nil Ms) (e, h)

    module _ (s : short ≡ false) (n : known ≡ true) where
      event_known : c.event < T.events
      event_known = ltb-true c.event T.events (and_left (ltb c.event T.events) _ n)

      from_known : c.from < T.members
      from_known = ltb-true c.from T.members (and_left (ltb c.from T.members) _ (and_right (ltb c.event T.events) _ n))

      to_known : c.to < T.members
      to_known = ltb-true c.to T.members (and_right (ltb c.from T.members) _ (and_right (ltb c.event T.events) _ n))

      decides : allowed ≡ holding
      decides = decide_kept T fine s₀ (state_of m) Ms h.kept c.event c.from c.to event_known from_known to_known

      moved : (g : Bool) → Held T s₀ fine m₀ (words_of T (advance T (state_of m) (now g)) ++ drop state_words m) (Ms ++ (kept g ∷ []))
      unfolding advance
      moved g =
          held_words T s₀ fine m₀ m long h.long h.further (advance T (state_of m) (now g)) (Ms ++ (kept g ∷ []))
          (subst (λ (M : Moment). Kept T s₀ (advance T (state_of m) (now g)) (Ms ++ (made T M g c.event c.from c.to ∷ []))) h.kept.now
          (advance_kept T fine s₀ (state_of m) Ms h.kept (now g)))
          (made_inside T fine (state_of m).now (state_inside T m h.good) g c.event c.from c.to event_known from_known to_known)

      -- The moment of a verdict is made.
      onward : (x : Answer) → given ≡ x → judge T s₀ Ms (fed c) ≡ (x, kept (granted x) ∷ []) → moves (T.kept c.event) x ≡ true → c.look ≡ false → InStep
      unfolding keep
      onward x e k g l = rw (k, goes (ap (moves (T.kept c.event)) e ∙ g) l, ap granted e) (e, moved (granted x))

      by_grant : given ≡ decided grant → holding ≡ true → (l : Bool) → c.look ≡ l → InStep
      by_grant e p true l = still (decided grant) e (judge-is ∙ rw (s, n, p, l)) (rw l)
      by_grant e p false l = onward (decided grant) e (judge-is ∙ rw (s, n, p, l)) refl l

      by_kept : given ≡ decided deny → holding ≡ false → c.look ≡ false → (k : Bool) → T.kept c.event ≡ k → InStep
      by_kept e p l true k = onward (decided deny) e (judge-is ∙ rw (s, n, p, l, k)) k l
      by_kept e p l false k = still (decided deny) e (judge-is ∙ rw (s, n, p, l, k)) (rw (l, e, k))

      by_denial : given ≡ decided deny → holding ≡ false → (l : Bool) → c.look ≡ l → InStep
      by_denial e p true l = still (decided deny) e (judge-is ∙ rw (s, n, p, l)) (rw l)
      by_denial e p false l = by_kept e p l (T.kept c.event) refl

      by_policy : (p : Bool) → holding ≡ p → InStep
      by_policy true p = by_grant (given_is ∙ rw (s, n, decides, p)) p c.look refl
      by_policy false p = by_denial (given_is ∙ rw (s, n, decides, p)) p c.look refl

    unmoved : {x : Answer} → given ≡ x → moves (T.kept c.event) x ≡ false → (not c.look && moves (T.kept c.event) given) ≡ false
    unmoved e q = rw (e, q) (and-false (not c.look))

    by_name : short ≡ false → (n : Bool) → known ≡ n → InStep
    by_name s true n = by_policy s n holding refl
    by_name s false n =
        let e : given ≡ refused 9 0 = given_is ∙ rw (s, n) in
        still (refused 9 0) e (judge-is ∙ rw (s, n)) (unmoved e refl)

    by_scratch : (s : Bool) → short ≡ s → InStep
    by_scratch true s =
        let e : given ≡ refused 6 0 = given_is ∙ rw s in
        still (refused 6 0) e (judge-is ∙ rw s) (unmoved e refl)
    by_scratch false s = by_name s known refl

    -- The keeper's answer, and the invariant again.
    pub step : (given ≡ (keep T s₀ Ms (fed c)).0) × Held T s₀ fine m₀ (leaves terms m c) (keep T s₀ Ms (fed c)).1
    step = by_scratch short refl
