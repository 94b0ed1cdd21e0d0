-- Each refusal of new terms is given exactly under its condition, and then the second state is as lent.
use Prim.Native.Nat.{ℕ}
use mathlib.Core.Path.{◌≡◌, refl, sym, subst}
use mathlib.Core.List.{List}
use mathlib.Core.Bool.{Bool, true, false, cond, not, ◌&&◌, ◌||◌}
use lib.Dec.{ltb}
use lib.ListN.{length}
use borrow.Author.Tests.{ltb-true, ltb-false}
use Rattle.theory.specs.Terms.{same_size}
use Rattle.memory.specs.Layout.{terms_words, state_words, terms_of}
use Rattle.memory.specs.Checks.{good_memory, good_state}
use Rattle.memory.specs.Outcome.{Outcome, revises}
use Rattle.memory.specs.Outcome.Outcome.{passed, refused}
use Rattle.memory.proofs.Outcomes as outcomes
use Rattle.calls.specs.Revising.{revised_state}
use Rattle.calls.specs.Refused.{LongToRevise, RevisionRefusal}
use Rattle.calls.specs.Refused.RevisionRefusal.{short_old, short_state, short_new, short_second, bad_old, bad_new, bad_state, other_size}

module _ (old state new second : List ℕ) where
  abbrev Told : Outcome → Type 0
  Told passed = Unit {0}
  Told (refused n l) = (l ≡ 0) × RevisionRefusal old state new second n

  revision_told : Told (revises old state new second)
  unfolding revises
  revision_told =
      by_length (ltb (length old) terms_words) refl (ltb (length state) state_words) refl (ltb (length new) terms_words) refl (ltb (length second) state_words) refl
    where
      by_size : LongToRevise old state new second → good_memory old ≡ true → good_memory new ≡ true → good_state (terms_of old) state ≡ true →
          (c : Bool) → same_size (terms_of old) (terms_of new) ≡ c → Told (cond (not c) (refused 13 0) passed)
      by_size L g h s true q = tt
      by_size L g h s false q = (refl, other_size L g h s q)

      by_state : LongToRevise old state new second → good_memory old ≡ true → good_memory new ≡ true → (c : Bool) → good_state (terms_of old) state ≡ c →
          Told (cond (not c) (refused 8 0) (cond (not (same_size (terms_of old) (terms_of new))) (refused 13 0) passed))
      by_state L g h true q = by_size L g h q (same_size (terms_of old) (terms_of new)) refl
      by_state L g h false q = (refl, bad_state L g h q)

      by_terms : LongToRevise old state new second → (c : Bool) → good_memory old ≡ c → (d : Bool) → good_memory new ≡ d →
          Told (cond (not (c && d)) (refused 7 0) (cond (not (good_state (terms_of old) state)) (refused 8 0) (cond (not (same_size (terms_of old) (terms_of new))) (refused 13 0) passed)))
      by_terms L true g true h = by_state L g h (good_state (terms_of old) state) refl
      by_terms L true g false h = (refl, bad_new L h)
      by_terms L false g d h = (refl, bad_old L g)

      rest : Outcome
      rest = cond (not (good_memory old && good_memory new)) (refused 7 0) (cond (not (good_state (terms_of old) state)) (refused 8 0) (cond (not (same_size (terms_of old) (terms_of new))) (refused 13 0) passed))

      by_length : (a : Bool) → ltb (length old) terms_words ≡ a → (b : Bool) → ltb (length state) state_words ≡ b → (c : Bool) → ltb (length new) terms_words ≡ c →
          (d : Bool) → ltb (length second) state_words ≡ d → Told (cond (a || (b || (c || d))) (refused 6 0) rest)
      by_length true p b q c r d s = (refl, short_old (ltb-true (length old) terms_words p))
      by_length false p true q c r d s = (refl, short_state (ltb-true (length state) state_words q))
      by_length false p false q true r d s = (refl, short_new (ltb-true (length new) terms_words r))
      by_length false p false q false r true s = (refl, short_second (ltb-true (length second) state_words s))
      by_length false p false q false r false s =
          by_terms (record {
            old_long = ltb-false (length old) terms_words p;
            state_long = ltb-false (length state) state_words q;
            new_long = ltb-false (length new) terms_words r;
            second_long = ltb-false (length second) state_words s;
          }) (good_memory old) refl (good_memory new) refl

  because : (n : ℕ) → RevisionRefusal old state new second n → revises old state new second ≡ refused n 0
  because n (short_old h) = sym (outcomes.revise_short_old old state new second h)
  because n (short_state h) = sym (outcomes.revise_short_state old state new second h)
  because n (short_new h) = sym (outcomes.revise_short_new old state new second h)
  because n (short_second h) = sym (outcomes.revise_short_second old state new second h)
  because n (bad_old l h) = sym (outcomes.revise_bad_old old state new second l.old_long l.state_long l.new_long l.second_long h)
  because n (bad_new l h) = sym (outcomes.revise_bad_new old state new second l.old_long l.state_long l.new_long l.second_long h)
  because n (bad_state l g h s) = sym (outcomes.revise_bad_state old state new second l.old_long l.state_long l.new_long l.second_long g h s)
  because n (other_size l g h s z) = sym (outcomes.revise_other_size old state new second l.old_long l.state_long l.new_long l.second_long g h s z)

  unmoved : (n l : ℕ) → revises old state new second ≡ refused n l → revised_state old state new second ≡ second
  unfolding revised_state
  unmoved n l e = rw e

  -- New terms are refused with number n and a line exactly when the line is 0 and a reason for n fits;
  -- then the second state is as lent.
  pub revision_refused_only : (n l : ℕ) →
      (revises old state new second ≡ refused n l → (l ≡ 0) × RevisionRefusal old state new second n × (revised_state old state new second ≡ second))
      × (RevisionRefusal old state new second n → revises old state new second ≡ refused n 0)
  revision_refused_only n l = (
    (λ e. let s = subst Told e revision_told in (s.0, s.1, unmoved n l e)),
    because n,
  )
