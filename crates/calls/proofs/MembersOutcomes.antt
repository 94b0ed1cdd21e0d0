-- The ways through what a renumbering gives and leaves, and what a pass says.
use Prim.Native.Nat.{ℕ, ◌≤◌, ◌<◌}
use mathlib.Core.Path.{◌≡◌, refl, sym, ap}
use mathlib.Core.Bool.{Bool, true, false, cond, not, ◌||◌, true≢false}
use mathlib.Core.List.{List, ◌++◌}
use lib.Dec.{ltb}
use lib.ListN.{length, drop}
use borrow.Author.Tests.{lt-ltb, le-ltb, ltb-false}
use Rattle.sets.proofs.Finite.{or_right}
use Rattle.memory.specs.Layout.{terms_words, state_words, terms_of}
use Rattle.memory.specs.Checks.{good_memory, good_state}
use Rattle.memory.specs.Outcome.{Outcome, has_passed, checks}
use Rattle.memory.specs.Outcome.Outcome.{passed, refused}
use Rattle.memory.proofs.Outcomes.{Checked}
use Rattle.theory.specs.NewNumbers.{renumbers}
use Rattle.calls.specs.Renumbering.{renumbering, renumbered_words, renumbered_state}

module _ (terms state numbers second : List ℕ) where
  abbrev Given : Outcome
  Given = renumbering terms state numbers second

  pub short_second : length second < state_words → refused 6 0 ≡ Given
  unfolding renumbering
  short_second l = rw (or_right (ltb (length terms) terms_words) (ltb (length state) state_words || ltb (length second) state_words)
      (or_right (ltb (length state) state_words) (ltb (length second) state_words) (lt-ltb (length second) state_words l)))

  module _ (ls : state_words ≤ length second) where
    -- What fails a check fails a renumbering.
    pub unchecked : (n l : ℕ) → refused n l ≡ checks terms state → refused n l ≡ Given
    unfolding renumbering checks
    unchecked n l e =
        go (ltb (length terms) terms_words) (ltb (length state) state_words) (ltb (length second) state_words) (le-ltb (length second) state_words ls)
        (good_memory terms) (good_state (terms_of terms) state) (renumbers (terms_of terms).members numbers) e
      where
        go : (a b c : Bool) → c ≡ false → (g s m : Bool) →
            refused n l ≡ cond (a || b) (refused 6 0) (cond (not g) (refused 7 0) (cond (not s) (refused 8 0) passed)) →
            refused n l ≡ cond (a || (b || c)) (refused 6 0) (cond (not g) (refused 7 0) (cond (not s) (refused 8 0) (cond (not m) (refused 15 0) passed)))
        go true b c z g s m e = e
        go false true c z g s m e = e
        go false false true z g s m e = absurd (true≢false z)
        go false false false z false s m e = e
        go false false false z true false m e = e
        go false false false z true true m e = absurd (true≢false (sym (ap has_passed e)))

    module _ (c : Checked terms state) where
      pub wrong_numbers : renumbers (terms_of terms).members numbers ≡ false → refused 15 0 ≡ Given
      unfolding renumbering
      wrong_numbers e =
          rw (
            le-ltb (length terms) terms_words c.long_terms,
            le-ltb (length state) state_words c.long_state,
            le-ltb (length second) state_words ls,
            c.good_terms,
            c.good-state,
            e,
          )

      pub right_numbers : renumbers (terms_of terms).members numbers ≡ true → passed ≡ Given
      unfolding renumbering
      right_numbers e =
          rw (
            le-ltb (length terms) terms_words c.long_terms,
            le-ltb (length state) state_words c.long_state,
            le-ltb (length second) state_words ls,
            c.good_terms,
            c.good-state,
            e,
          )

  -- What is known where the members are renumbered.
  pub record Renumbered : Type 0 where
    pub checked : Checked terms state
    pub long_second : state_words ≤ length second
    pub right : renumbers (terms_of terms).members numbers ≡ true

  pub renumbered_says : Given ≡ passed → Renumbered
  unfolding renumbering
  renumbered_says e =
      go (ltb (length terms) terms_words) refl (ltb (length state) state_words) refl (ltb (length second) state_words) refl
      (good_memory terms) refl (good_state (terms_of terms) state) refl (renumbers (terms_of terms).members numbers) refl (ap has_passed (sym e))
    where
      go : (a : Bool) → ltb (length terms) terms_words ≡ a → (b : Bool) → ltb (length state) state_words ≡ b →
          (c : Bool) → ltb (length second) state_words ≡ c → (g : Bool) → good_memory terms ≡ g →
          (s : Bool) → good_state (terms_of terms) state ≡ s → (n : Bool) → renumbers (terms_of terms).members numbers ≡ n →
          true ≡ has_passed (cond (a || (b || c)) (refused 6 0) (cond (not g) (refused 7 0) (cond (not s) (refused 8 0) (cond (not n) (refused 15 0) passed)))) → Renumbered
      go true _ _ _ _ _ _ _ _ _ _ _ z = absurd (true≢false z)
      go false _ true _ _ _ _ _ _ _ _ _ z = absurd (true≢false z)
      go false _ false _ true _ _ _ _ _ _ _ z = absurd (true≢false z)
      go false _ false _ false _ false _ _ _ _ _ z = absurd (true≢false z)
      go false _ false _ false _ true _ false _ _ _ z = absurd (true≢false z)
      go false _ false _ false _ true _ true _ false _ z = absurd (true≢false z)
      go false a false b false c true g true s true n z = record {
        checked = record {
          long_terms = ltb-false (length terms) terms_words a;
          long_state = ltb-false (length state) state_words b;
          good_terms = g;
          good-state = s;
        };
        long_second = ltb-false (length second) state_words c;
        right = n;
      }

  -- What it leaves, by what it gives.
  pub second_kept : (n l : ℕ) → refused n l ≡ Given → second ≡ renumbered_state terms state numbers second
  unfolding renumbered_state
  second_kept n l e = rw (sym e)

  pub second_filled : passed ≡ Given → renumbered_words (terms_of terms) numbers state ++ drop state_words second ≡ renumbered_state terms state numbers second
  unfolding renumbered_state
  second_filled e = rw (sym e)
