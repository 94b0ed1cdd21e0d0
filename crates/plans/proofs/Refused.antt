-- What is returned when a plan is not ruled upon, or an entry not told (docs/SCOPE.md, Plans and Refusals): each number
-- is given exactly when its line of the table fits, with line 0, nothing else is ever given, and scratch is left as
-- lent.
use Prim.Native.Nat.{ℕ, ◌≤◌}
use mathlib.Core.Path.{◌≡◌, refl, subst}
use mathlib.Core.List.{List}
use mathlib.Core.Bool.{Bool, true, false, cond, not, ◌&&◌, ◌||◌, and-false}
use lib.Dec.{ltb}
use lib.ListN.{length}
use borrow.Author.Tests.{lt-ltb, le-ltb, ltb-true, ltb-false}
use Rattle.sets.proofs.Finite.{or_left, or_right, not_both}
use Rattle.theory.specs.Fit.{every}
use Rattle.memory.specs.Layout.{terms_words, state_words, terms_of, state_of}
use Rattle.memory.specs.Checks.{good_memory, good_state}
use Rattle.memory.specs.Outcome.{askable}
use Rattle.calls.specs.Telling.{Telling, paired, holds_at, tells}
use Rattle.calls.specs.Telling.Telling.{holds, fails, refused}
use Rattle.plans.specs.Game.{Ruling, game_tests, known_tests, game_words}
use Rattle.plans.specs.Game.Ruling.{accept, reject, refuse}
use Rattle.plans.specs.Plans.{accepted, ruling, scratch_after_ruling}
use Rattle.plans.specs.Refused.{Sound, Unasked, PlanRefusal, TellingRefusal}
use Rattle.plans.proofs.Reasons.{why_unasked, is_unasked, why_no_game, is_no_game, is_game, why_unknown, is_unknown}

-- ---- plans

module _ (terms state scratch plan : List ℕ) (planner rival goal u v : ℕ) where
  abbrev given : Ruling
  given = ruling terms state scratch plan planner rival goal u v

  abbrev Why : ℕ → Type 0
  Why = PlanRefusal terms state scratch plan planner rival goal u v

  abbrev gamed : Bool
  gamed = every (game_tests (terms_of terms) plan planner rival goal)

  abbrev known : Bool
  known = every (known_tests (terms_of terms) plan planner rival u v)

  -- What a ruling says of the memory and the plan.
  abbrev Said : Ruling → Type 0
  Said accept = Unit {0}
  Said reject = Unit {0}
  Said (refuse n l) = (l ≡ 0) × Why n

  said_verdict : (d : Bool) → Said (cond d accept reject)
  said_verdict true = tt
  said_verdict false = tt

  abbrev by_known : Ruling
  by_known = cond (not known) (refuse 9 0) (cond (accepted terms state plan planner rival goal u v) accept reject)

  abbrev by_state : Ruling
  by_state = cond (not (good_state (terms_of terms) state)) (refuse 8 0) (cond (not gamed) (refuse 14 0) by_known)

  says : Said given
  unfolding ruling
  says =
      by_length (ltb (length terms) terms_words) refl (ltb (length state) state_words) refl (ltb (length scratch) game_words) refl
    where
      known_or : Sound terms state → game_words ≤ length scratch → gamed ≡ true → (c : Bool) → known ≡ c →
          Said (cond (not c) (refuse 9 0) (cond (accepted terms state plan planner rival goal u v) accept reject))
      known_or m s g true q = said_verdict (accepted terms state plan planner rival goal u v)
      known_or m s g false q = (
        refl,
        PlanRefusal.unknown m s
            (λ h. not_both gamed g (is_no_game (terms_of terms) plan planner rival goal h))
            (why_unknown (terms_of terms) plan planner rival u v q),
      )

      game_or : Sound terms state → game_words ≤ length scratch → (c : Bool) → gamed ≡ c →
          Said (cond (not c) (refuse 14 0) by_known)
      game_or m s true q = known_or m s q known refl
      game_or m s false q = (refl, PlanRefusal.no_game m s (why_no_game (terms_of terms) plan planner rival goal q))

      state_or : terms_words ≤ length terms → state_words ≤ length state → game_words ≤ length scratch → good_memory terms ≡ true →
          (c : Bool) → good_state (terms_of terms) state ≡ c → Said (cond (not c) (refuse 8 0) (cond (not gamed) (refuse 14 0) by_known))
      state_or tl sl cl g true q =
          game_or (record { terms_long = tl; state_long = sl; terms_good = g; state_good = q }) cl gamed refl
      state_or tl sl cl g false q = (refl, PlanRefusal.bad_state tl sl cl g q)

      terms_or : terms_words ≤ length terms → state_words ≤ length state → game_words ≤ length scratch →
          (c : Bool) → good_memory terms ≡ c → Said (cond (not c) (refuse 7 0) by_state)
      terms_or tl sl cl true q = state_or tl sl cl q (good_state (terms_of terms) state) refl
      terms_or tl sl cl false q = (refl, PlanRefusal.bad_terms tl sl cl q)

      by_length : (a : Bool) → ltb (length terms) terms_words ≡ a → (b : Bool) → ltb (length state) state_words ≡ b →
          (c : Bool) → ltb (length scratch) game_words ≡ c →
          Said (cond (a || (b || c)) (refuse 6 0) (cond (not (good_memory terms)) (refuse 7 0) by_state))
      by_length true a b _ c _ = (refl, PlanRefusal.short_terms (ltb-true (length terms) terms_words a))
      by_length false a true b c _ = (refl, PlanRefusal.short_state (ltb-true (length state) state_words b))
      by_length false a false b true c = (refl, PlanRefusal.short_scratch (ltb-true (length scratch) game_words c))
      by_length false a false b false c =
          terms_or (ltb-false (length terms) terms_words a) (ltb-false (length state) state_words b)
          (ltb-false (length scratch) game_words c) (good_memory terms) refl

  abbrev short : Bool
  short = ltb (length terms) terms_words || (ltb (length state) state_words || ltb (length scratch) game_words)

  long : terms_words ≤ length terms → state_words ≤ length state → game_words ≤ length scratch → short ≡ false
  long tl sl cl =
      rw (le-ltb (length terms) terms_words tl, le-ltb (length state) state_words sl, le-ltb (length scratch) game_words cl)

  because : (n : ℕ) → Why n → given ≡ refuse n 0
  unfolding ruling
  because n (PlanRefusal.short_terms h) = rw (lt-ltb (length terms) terms_words h)
  because n (PlanRefusal.short_state h) =
      let q : short ≡ true =
      or_right (ltb (length terms) terms_words) _ (or_left _ (ltb (length scratch) game_words) (lt-ltb (length state) state_words h)) in
      rw q
  because n (PlanRefusal.short_scratch h) =
      let q : short ≡ true =
      or_right (ltb (length terms) terms_words) _ (or_right (ltb (length state) state_words) _ (lt-ltb (length scratch) game_words h)) in
      rw q
  because n (PlanRefusal.bad_terms tl sl cl g) = rw (long tl sl cl, g)
  because n (PlanRefusal.bad_state tl sl cl g s) = rw (long tl sl cl, g, s)
  because n (PlanRefusal.no_game m cl h) =
      rw (long m.terms_long m.state_long cl, m.terms_good, m.state_good, is_no_game (terms_of terms) plan planner rival goal h)
  because n (PlanRefusal.unknown m cl g h) =
      rw (
        long m.terms_long m.state_long cl,
        m.terms_good,
        m.state_good,
        is_game (terms_of terms) plan planner rival goal g,
        is_unknown (terms_of terms) plan planner rival u v h,
      )

  as_lent : (n l : ℕ) → given ≡ refuse n l → scratch_after_ruling scratch given ≡ scratch
  unfolding scratch_after_ruling
  as_lent n l e = rw e

-- ---- telling an entry

module _ (terms state : List ℕ) (n u v : ℕ) where
  abbrev Because : ℕ → Type 0
  Because = TellingRefusal terms state n u v

  -- What is told says this of the memory and the entry.
  abbrev Tells : Telling → Type 0
  Tells holds = Unit {0}
  Tells fails = Unit {0}
  Tells (refused k l) = (l ≡ 0) × Because k

  abbrev by_pair : Telling
  by_pair = cond (not (paired (terms_of terms) u v)) (refused 9 0) (cond (holds_at (terms_of terms) (state_of state) n u v) holds fails)

  abbrev by_entry : Telling
  by_entry = cond (not (good_state (terms_of terms) state)) (refused 8 0) (cond (not (askable (terms_of terms) n)) (refused 14 0) by_pair)

  told : Tells (tells terms state n u v)
  unfolding tells
  told = by_length (ltb (length terms) terms_words) refl (ltb (length state) state_words) refl
    where
      verdict : (d : Bool) → Tells (cond d holds fails)
      verdict true = tt
      verdict false = tt

      pair_or : Sound terms state → askable (terms_of terms) n ≡ true → (a : Bool) → ltb u (terms_of terms).members ≡ a →
          (b : Bool) → ltb v (terms_of terms).members ≡ b →
          Tells (cond (not (a && b)) (refused 9 0) (cond (holds_at (terms_of terms) (state_of state) n u v) holds fails))
      pair_or m q true a true b = verdict (holds_at (terms_of terms) (state_of state) n u v)
      pair_or m q true a false b = (
        refl,
        TellingRefusal.no_second m (λ h. not_both (askable (terms_of terms) n) q (is_unasked (terms_of terms) n h))
            (ltb-false v (terms_of terms).members b),
      )
      pair_or m q false a b _ = (
        refl,
        TellingRefusal.no_first m (λ h. not_both (askable (terms_of terms) n) q (is_unasked (terms_of terms) n h))
            (ltb-false u (terms_of terms).members a),
      )

      entry_or : Sound terms state → (c : Bool) → askable (terms_of terms) n ≡ c → Tells (cond (not c) (refused 14 0) by_pair)
      entry_or m true q = pair_or m q (ltb u (terms_of terms).members) refl (ltb v (terms_of terms).members) refl
      entry_or m false q = (refl, TellingRefusal.unasked m (why_unasked (terms_of terms) n q))

      state_or : terms_words ≤ length terms → state_words ≤ length state → good_memory terms ≡ true →
          (c : Bool) → good_state (terms_of terms) state ≡ c →
          Tells (cond (not c) (refused 8 0) (cond (not (askable (terms_of terms) n)) (refused 14 0) by_pair))
      state_or tl sl g true q =
          entry_or (record { terms_long = tl; state_long = sl; terms_good = g; state_good = q }) (askable (terms_of terms) n) refl
      state_or tl sl g false q = (refl, TellingRefusal.bad_state tl sl g q)

      terms_or : terms_words ≤ length terms → state_words ≤ length state → (c : Bool) → good_memory terms ≡ c →
          Tells (cond (not c) (refused 7 0) by_entry)
      terms_or tl sl true q = state_or tl sl q (good_state (terms_of terms) state) refl
      terms_or tl sl false q = (refl, TellingRefusal.bad_terms tl sl q)

      by_length : (a : Bool) → ltb (length terms) terms_words ≡ a → (b : Bool) → ltb (length state) state_words ≡ b →
          Tells (cond (a || b) (refused 6 0) (cond (not (good_memory terms)) (refused 7 0) by_entry))
      by_length true a b _ = (refl, TellingRefusal.short_terms (ltb-true (length terms) terms_words a))
      by_length false a true b = (refl, TellingRefusal.short_state (ltb-true (length state) state_words b))
      by_length false a false b =
          terms_or (ltb-false (length terms) terms_words a) (ltb-false (length state) state_words b) (good_memory terms) refl

  -- Memory and entry pass.
  asked : ¬ Unasked (terms_of terms) n → askable (terms_of terms) n ≡ true
  asked h = go (askable (terms_of terms) n) refl
    where
      go : (c : Bool) → askable (terms_of terms) n ≡ c → askable (terms_of terms) n ≡ true
      go true e = e
      go false e = absurd (h (why_unasked (terms_of terms) n e))

  so_told : (k : ℕ) → Because k → tells terms state n u v ≡ refused k 0
  unfolding tells
  so_told k (TellingRefusal.short_terms h) = rw (lt-ltb (length terms) terms_words h)
  so_told k (TellingRefusal.short_state h) =
      let q : (ltb (length terms) terms_words || ltb (length state) state_words) ≡ true =
      or_right (ltb (length terms) terms_words) _ (lt-ltb (length state) state_words h) in
      rw q
  so_told k (TellingRefusal.bad_terms tl sl g) =
      rw (le-ltb (length terms) terms_words tl, le-ltb (length state) state_words sl, g)
  so_told k (TellingRefusal.bad_state tl sl g s) =
      rw (le-ltb (length terms) terms_words tl, le-ltb (length state) state_words sl, g, s)
  so_told k (TellingRefusal.unasked m h) =
      rw (
        le-ltb (length terms) terms_words m.terms_long,
        le-ltb (length state) state_words m.state_long,
        m.terms_good,
        m.state_good,
        is_unasked (terms_of terms) n h,
      )
  so_told k (TellingRefusal.no_first m a h) =
      rw (
        le-ltb (length terms) terms_words m.terms_long,
        le-ltb (length state) state_words m.state_long,
        m.terms_good,
        m.state_good,
        asked a,
        le-ltb u (terms_of terms).members h,
      )
  so_told k (TellingRefusal.no_second m a h) =
      rw (
        le-ltb (length terms) terms_words m.terms_long,
        le-ltb (length state) state_words m.state_long,
        m.terms_good,
        m.state_good,
        asked a,
        le-ltb v (terms_of terms).members h,
      ) (simp and-false)

-- A plan is refused with number n and a line exactly when the line is 0 and a reason for n fits; then scratch is left
-- as lent.
pub plan_refused_only : (terms state scratch plan : List ℕ) (planner rival goal u v n l : ℕ) →
    (ruling terms state scratch plan planner rival goal u v ≡ refuse n l →
    (l ≡ 0) × PlanRefusal terms state scratch plan planner rival goal u v n
    × (scratch_after_ruling scratch (ruling terms state scratch plan planner rival goal u v) ≡ scratch))
    × (PlanRefusal terms state scratch plan planner rival goal u v n →
    ruling terms state scratch plan planner rival goal u v ≡ refuse n 0)
plan_refused_only terms state scratch plan planner rival goal u v n l = (
  (λ e.
      let s = subst (Said terms state scratch plan planner rival goal u v) e (says terms state scratch plan planner rival goal u v) in
      (s.0, s.1, as_lent terms state scratch plan planner rival goal u v n l e)),
  because terms state scratch plan planner rival goal u v n,
)

-- The same of telling an entry, which writes nothing.
pub telling_refused_only : (terms state : List ℕ) (n u v k l : ℕ) →
    (tells terms state n u v ≡ refused k l → (l ≡ 0) × TellingRefusal terms state n u v k)
    × (TellingRefusal terms state n u v k → tells terms state n u v ≡ refused k 0)
telling_refused_only terms state n u v k l = (
  (λ e. subst (Tells terms state n u v) e (told terms state n u v)),
  so_told terms state n u v k,
)
