-- What is returned when nothing is decided (docs/SCOPE.md, Refusals), as far as no text is read: each number is given
-- exactly when its line of the table fits, with line 0, nothing else is ever given, and all memory is left as lent.
use Prim.Native.Nat.{ℕ, ◌≤◌}
use mathlib.Core.Path.{◌≡◌, refl, subst}
use mathlib.Core.Logic.{◌⊎◌, inl, inr}
use mathlib.Core.List.{List}
use mathlib.Core.Bool.{Bool, true, false, cond, not, ◌&&◌, ◌||◌, true≢false, and-false}
use lib.Dec.{ltb}
use lib.ListN.{length}
use borrow.Author.Tests.{lt-ltb, le-ltb, ltb-true, ltb-false}
use Rattle.sets.proofs.Finite.{or_left, or_right, or_cases}
use Rattle.theory.specs.Keeper.{Answer}
use Rattle.theory.specs.Keeper.Verdict.{grant, deny}
use Rattle.theory.specs.Keeper.Answer.{decided, done, refused}
use Rattle.theory.specs.Limits.{scratch_words}
use Rattle.memory.specs.Layout.{terms_words, state_words, terms_of, state_of}
use Rattle.memory.specs.Checks.{good_memory, good_state, good_relations}
use Rattle.theory.specs.Tables.{named, decide_now}
use Rattle.calls.specs.Refused.{Long, Refusal, OpeningRefusal}
use Rattle.calls.specs.Refused.Refusal.{short_terms, short_state, short_scratch, bad_terms, bad_state, no_event, no_initiator, no_target}
use Rattle.calls.specs.Monitor.{answer, state_after, scratch_after, opened_state}
use Rattle.memory.specs.Outcome.{Outcome, opens}
use Rattle.memory.specs.Outcome.Outcome.{passed, refused as refusedOutcome}

neither : (a b : Bool) → (a || b) ≡ false → (a ≡ false) × (b ≡ false)
neither true b e = absurd (true≢false e)
neither false b e = (refl, e)

not_all : (a b : Bool) → (a && b) ≡ false → (a ≡ false) ⊎ (b ≡ false)
not_all true b e = inr e
not_all false b e = inl refl

module _ (terms state scratch : List ℕ) (j u v : ℕ) where
  abbrev given : Answer
  given = answer terms state scratch j u v

  abbrev short : Bool
  short = ltb (length terms) terms_words || (ltb (length state) state_words || ltb (length scratch) scratch_words)

  long_enough : short ≡ false → Long terms state scratch
  long_enough e =
      let t = neither (ltb (length terms) terms_words) _ e in
      let s = neither (ltb (length state) state_words) _ t.1 in
      record {
        terms_long = ltb-false (length terms) terms_words t.0;
        state_long = ltb-false (length state) state_words s.0;
        scratch_long = ltb-false (length scratch) scratch_words s.1;
      }

  not_short : Long terms state scratch → short ≡ false
  not_short l = rw (le-ltb (length terms) terms_words l.terms_long, le-ltb (length state) state_words l.state_long, le-ltb (length scratch) scratch_words l.scratch_long)

  why_short : short ≡ true → Refusal terms state scratch j u v 6
  why_short e = terms_or (or_cases (ltb (length terms) terms_words) _ e)
    where
      state_or : (ltb (length state) state_words ≡ true) ⊎ (ltb (length scratch) scratch_words ≡ true) → Refusal terms state scratch j u v 6
      state_or (inl q) = short_state (ltb-true (length state) state_words q)
      state_or (inr q) = short_scratch (ltb-true (length scratch) scratch_words q)

      terms_or : (ltb (length terms) terms_words ≡ true) ⊎ ((ltb (length state) state_words || ltb (length scratch) scratch_words) ≡ true) →
          Refusal terms state scratch j u v 6
      terms_or (inl q) = short_terms (ltb-true (length terms) terms_words q)
      terms_or (inr q) = state_or (or_cases (ltb (length state) state_words) _ q)

  why_unnamed : Long terms state scratch → good_memory terms ≡ true → good_state (terms_of terms) state ≡ true →
      named (terms_of terms) j u v ≡ false → Refusal terms state scratch j u v 9
  why_unnamed l g s e = event_or (not_all (ltb j (terms_of terms).events) _ e)
    where
      member_or : (ltb u (terms_of terms).members ≡ false) ⊎ (ltb v (terms_of terms).members ≡ false) → Refusal terms state scratch j u v 9
      member_or (inl q) = no_initiator l g s (ltb-false u (terms_of terms).members q)
      member_or (inr q) = no_target l g s (ltb-false v (terms_of terms).members q)

      event_or : (ltb j (terms_of terms).events ≡ false) ⊎ ((ltb u (terms_of terms).members && ltb v (terms_of terms).members) ≡ false) →
          Refusal terms state scratch j u v 9
      event_or (inl q) = no_event l g s (ltb-false j (terms_of terms).events q)
      event_or (inr q) = member_or (not_all (ltb u (terms_of terms).members) _ q)

  -- What an answer says of the memory.
  abbrev Said : Answer → Type 0
  Said (decided d) = Unit {0}
  Said done = Unit {0}
  Said (refused n l) = (l ≡ 0) × Refusal terms state scratch j u v n

  says : Said given
  unfolding answer
  says = by_length short refl
    where
      verdict : Answer
      verdict = decided (cond (decide_now (terms_of terms) (state_of state) j u v) grant deny)

      by_name : Long terms state scratch → good_memory terms ≡ true → good_state (terms_of terms) state ≡ true →
          (c : Bool) → named (terms_of terms) j u v ≡ c → Said (cond (not c) (refused 9 0) verdict)
      by_name L g s true q = tt
      by_name L g s false q = (refl, why_unnamed L g s q)

      by_state : Long terms state scratch → good_memory terms ≡ true → (c : Bool) → good_state (terms_of terms) state ≡ c →
          Said (cond (not c) (refused 8 0) (cond (not (named (terms_of terms) j u v)) (refused 9 0) verdict))
      by_state L g true q = by_name L g q (named (terms_of terms) j u v) refl
      by_state L g false q = (refl, bad_state L g q)

      by_terms : Long terms state scratch → (c : Bool) → good_memory terms ≡ c →
          Said (cond (not c) (refused 7 0) (cond (not (good_state (terms_of terms) state)) (refused 8 0)
          (cond (not (named (terms_of terms) j u v)) (refused 9 0) verdict)))
      by_terms L true q = by_state L q (good_state (terms_of terms) state) refl
      by_terms L false q = (refl, bad_terms L q)

      by_length : (c : Bool) → short ≡ c →
          Said (cond c (refused 6 0) (cond (not (good_memory terms)) (refused 7 0) (cond (not (good_state (terms_of terms) state)) (refused 8 0)
          (cond (not (named (terms_of terms) j u v)) (refused 9 0) verdict))))
      by_length true q = (refl, why_short q)
      by_length false q = by_terms (long_enough q) (good_memory terms) refl

  because : (n : ℕ) → Refusal terms state scratch j u v n → given ≡ refused n 0
  unfolding answer
  because n (short_terms h) = rw (lt-ltb (length terms) terms_words h)
  because n (short_state h) =
      let q : short ≡ true = or_right (ltb (length terms) terms_words) _ (or_left _ (ltb (length scratch) scratch_words) (lt-ltb (length state) state_words h)) in
      rw q
  because n (short_scratch h) =
      let q : short ≡ true = or_right (ltb (length terms) terms_words) _ (or_right (ltb (length state) state_words) _ (lt-ltb (length scratch) scratch_words h)) in
      rw q
  because n (bad_terms l g) = rw (not_short l, g)
  because n (bad_state l g s) = rw (not_short l, g, s)
  because n (no_event l g s h) = rw (not_short l, g, s, le-ltb j (terms_of terms).events h)
  because n (no_initiator l g s h) = rw (not_short l, g, s, le-ltb u (terms_of terms).members h) (simp and-false)
  because n (no_target l g s h) = rw (not_short l, g, s, le-ltb v (terms_of terms).members h) (simp and-false)

  unmoved : (n l : ℕ) → given ≡ refused n l →
      (state_after terms state scratch j u v ≡ state) × (scratch_after terms state scratch j u v ≡ scratch)
  unfolding state_after scratch_after
  unmoved n l e = (rw e, rw e)

module _ (terms state : List ℕ) where
  -- What an opening says of the memory.
  pub record Opens : Type 0 where
    pub terms_long : terms_words ≤ length terms
    pub state_long : state_words ≤ length state
    pub terms_good : good_memory terms ≡ true
    pub relations_good : good_relations (terms_of terms) state ≡ true

  abbrev OpeningSaid : Outcome → Type 0
  OpeningSaid passed = Opens
  OpeningSaid (refusedOutcome n l) = (l ≡ 0) × OpeningRefusal terms state n

  opening_says : OpeningSaid (opens terms state)
  unfolding opens
  opening_says = by_terms_length (ltb (length terms) terms_words) refl
    where
      by_relations : terms_words ≤ length terms → state_words ≤ length state → good_memory terms ≡ true →
          (c : Bool) → good_relations (terms_of terms) state ≡ c → OpeningSaid (cond (not c) (refusedOutcome 8 0) passed)
      by_relations tl sl g true q = record { terms_long = tl; state_long = sl; terms_good = g; relations_good = q }
      by_relations tl sl g false q = (refl, OpeningRefusal.bad_relations tl sl g q)

      by_terms : terms_words ≤ length terms → state_words ≤ length state → (c : Bool) → good_memory terms ≡ c →
          OpeningSaid (cond (not c) (refusedOutcome 7 0) (cond (not (good_relations (terms_of terms) state)) (refusedOutcome 8 0) passed))
      by_terms tl sl true q = by_relations tl sl q (good_relations (terms_of terms) state) refl
      by_terms tl sl false q = (refl, OpeningRefusal.bad_terms tl sl q)

      rest : Outcome
      rest = cond (not (good_memory terms)) (refusedOutcome 7 0) (cond (not (good_relations (terms_of terms) state)) (refusedOutcome 8 0) passed)

      by_state_length : terms_words ≤ length terms → (c : Bool) → ltb (length state) state_words ≡ c → OpeningSaid (cond c (refusedOutcome 6 0) rest)
      by_state_length tl true q = (refl, OpeningRefusal.short_state (ltb-true (length state) state_words q))
      by_state_length tl false q = by_terms tl (ltb-false (length state) state_words q) (good_memory terms) refl

      by_terms_length : (c : Bool) → ltb (length terms) terms_words ≡ c → OpeningSaid (cond (c || ltb (length state) state_words) (refusedOutcome 6 0) rest)
      by_terms_length true q = (refl, OpeningRefusal.short_terms (ltb-true (length terms) terms_words q))
      by_terms_length false q = by_state_length (ltb-false (length terms) terms_words q) (ltb (length state) state_words) refl

  pub opened_says : opens terms state ≡ passed → Opens
  opened_says e = subst OpeningSaid e opening_says

  opening_because : (n : ℕ) → OpeningRefusal terms state n → opens terms state ≡ refusedOutcome n 0
  unfolding opens
  opening_because n (OpeningRefusal.short_terms h) = rw (lt-ltb (length terms) terms_words h)
  opening_because n (OpeningRefusal.short_state h) =
      let q : (ltb (length terms) terms_words || ltb (length state) state_words) ≡ true =
      or_right (ltb (length terms) terms_words) _ (lt-ltb (length state) state_words h) in
      rw q
  opening_because n (OpeningRefusal.bad_terms tl sl g) = rw (le-ltb (length terms) terms_words tl, le-ltb (length state) state_words sl, g)
  opening_because n (OpeningRefusal.bad_relations tl sl g r) = rw (le-ltb (length terms) terms_words tl, le-ltb (length state) state_words sl, g, r)

  failed_unmoved : (n l : ℕ) → opens terms state ≡ refusedOutcome n l → opened_state terms state ≡ state
  unfolding opened_state
  failed_unmoved n l e = rw e

-- A look or a request is refused with number n and a line exactly when the line is 0 and a reason for n fits;
-- then all memory is left as lent.
pub refused_only : (terms state scratch : List ℕ) (j u v n l : ℕ) →
    (answer terms state scratch j u v ≡ refused n l →
    (l ≡ 0) × Refusal terms state scratch j u v n
    × (state_after terms state scratch j u v ≡ state) × (scratch_after terms state scratch j u v ≡ scratch))
    × (Refusal terms state scratch j u v n → answer terms state scratch j u v ≡ refused n 0)
refused_only terms state scratch j u v n l = (
  (λ e.
      let s = subst (Said terms state scratch j u v) e (says terms state scratch j u v) in
      let m = unmoved terms state scratch j u v n l e in
      (s.0, s.1, m.0, m.1)),
  because terms state scratch j u v n,
)

-- The same of an opening.
pub failed_only : (terms state : List ℕ) (n l : ℕ) →
    (opens terms state ≡ refusedOutcome n l → (l ≡ 0) × OpeningRefusal terms state n × (opened_state terms state ≡ state))
    × (OpeningRefusal terms state n → opens terms state ≡ refusedOutcome n 0)
failed_only terms state n l = (
  (λ e.
      let s = subst (OpeningSaid terms state) e (opening_says terms state) in
      (s.0, s.1, failed_unmoved terms state n l e)),
  opening_because terms state n,
)
