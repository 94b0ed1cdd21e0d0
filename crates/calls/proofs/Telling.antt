-- The ways through what telling an entry gives.
use Prim.Native.Nat.{ℕ}
use mathlib.Core.Path.{◌≡◌, refl, sym, ap, ◌∙◌}
use mathlib.Core.Bool.{Bool, true, false, cond, not, ◌||◌, true≢false}
use mathlib.Core.List.{List}
use lib.Dec.{ltb}
use lib.ListN.{length}
use borrow.Author.Tests.{le-ltb}
use Rattle.memory.specs.Layout.{terms_words, state_words, terms_of, state_of}
use Rattle.memory.specs.Checks.{good_memory, good_state}
use Rattle.memory.specs.Outcome.{has_passed, askable, entry_checks}
use Rattle.memory.specs.Outcome.Outcome.{passed, refused as refusedOutcome}
use Rattle.memory.proofs.Outcomes.{Checked}
use Rattle.calls.specs.Telling.{Telling, affirms, paired, holds_at, tells}
use Rattle.calls.specs.Telling.Telling.{holds, fails, refused}

module _ (terms state : List ℕ) (n u v : ℕ) where
  -- What fails a check is told so.
  pub untold : (k l : ℕ) → refusedOutcome k l ≡ entry_checks terms state n → refused k l ≡ tells terms state n u v
  unfolding entry_checks tells
  untold k l e =
      go (ltb (length terms) terms_words || ltb (length state) state_words) (good_memory terms)
      (good_state (terms_of terms) state) (askable (terms_of terms) n) e
    where
      rest : Telling
      rest =
          cond (not (paired (terms_of terms) u v)) (refused 9 0)
          (cond (holds_at (terms_of terms) (state_of state) n u v) holds fails)

      go : (a g s r : Bool) →
          refusedOutcome k l ≡ cond a (refusedOutcome 6 0) (cond (not g) (refusedOutcome 7 0) (cond (not s) (refusedOutcome 8 0)
          (cond (not r) (refusedOutcome 14 0) passed))) →
          refused k l ≡ cond a (refused 6 0) (cond (not g) (refused 7 0) (cond (not s) (refused 8 0)
          (cond (not r) (refused 14 0) rest)))
      go true g s r e = cc
      go false false s r e = cc
      go false true false r e = cc
      go false true true false e = cc
      go false true true true e = absurd (true≢false (sym (ap has_passed e)))

  module _ (c : Checked terms state) (a : askable (terms_of terms) n ≡ true) where
    told_is : tells terms state n u v
        ≡ cond (not (paired (terms_of terms) u v)) (refused 9 0)
        (cond (holds_at (terms_of terms) (state_of state) n u v) holds fails)
    unfolding tells
    told_is =
        rw (
          le-ltb (length terms) terms_words c.long_terms,
          le-ltb (length state) state_words c.long_state,
          c.good_terms,
          c.good-state,
          a,
        )

    pub told_unpaired : paired (terms_of terms) u v ≡ false → refused 9 0 ≡ tells terms state n u v
    told_unpaired e = sym (told_is ∙ rw e)

    pub told : paired (terms_of terms) u v ≡ true →
        {d r : Bool} → r ≡ d → r ≡ holds_at (terms_of terms) (state_of state) n u v → cond d holds fails ≡ tells terms state n u v
    told p q e = ap (λ (x : Bool). cond x holds fails) (sym q ∙ e) ∙ sym (told_is ∙ rw p)

    -- So it is affirmed exactly where the entry holds.
    pub told_holds : paired (terms_of terms) u v ≡ true →
        affirms (tells terms state n u v) ≡ holds_at (terms_of terms) (state_of state) n u v
    told_holds p =
        let d : Bool = holds_at (terms_of terms) (state_of state) n u v in
        sym (ap affirms (told p {d = d} {r = d} refl refl)) ∙ go d
      where
        go : (d : Bool) → affirms (cond d holds fails) ≡ d
        go true = refl
        go false = refl
