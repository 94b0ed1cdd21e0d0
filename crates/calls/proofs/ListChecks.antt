-- The checks of a set list: they are those of a request less 9, and what a pass says of the memory.
use Prim.Native.Nat.{ℕ, ◌≤◌, ◌<◌}
use mathlib.Core.Path.{◌≡◌, refl, sym, ap, ◌∙◌}
use mathlib.Core.Bool.{Bool, true, false, cond, false≢true}
use mathlib.Core.List.{List}
use lib.Dec.{ltb}
use lib.ListN.{length}
use borrow.Author.Tests.{lt-ltb, le-ltb, ltb-true, ltb-false}
use Rattle.theory.specs.Keeper.Answer.{refused}
use Rattle.theory.specs.Limits.{scratch_words}
use Rattle.memory.specs.Layout.{terms_of}
use Rattle.memory.specs.Outcome.{Outcome, has_passed, checks}
use Rattle.memory.specs.Outcome.Outcome.{passed, refused as refusedOutcome}
use Rattle.memory.specs.TableIndex.{Indexed}
use Rattle.memory.proofs.Outcomes.{Checked, passed_checked}
use Rattle.calls.specs.Monitor.{answer}
use Rattle.calls.specs.SetList.{list_checks}
use Rattle.calls.specs.private.Listing.{MemoryPassed}
use Rattle.calls.proofs.Answers.{short_scratch, unchecked}

module _ (terms state scratch : List ℕ) where
  pub list_short : length scratch < scratch_words → refusedOutcome 6 0 ≡ list_checks terms state scratch
  unfolding list_checks
  list_short l = rw (lt-ltb (length scratch) scratch_words l)

  pub list_checked : scratch_words ≤ length scratch → checks terms state ≡ list_checks terms state scratch
  unfolding list_checks
  list_checked l = rw (le-ltb (length scratch) scratch_words l)

  -- A pass says that the scratch is long enough, and that terms and state pass.
  pub list_passed : passed ≡ list_checks terms state scratch → (scratch_words ≤ length scratch) × Checked terms state
  unfolding list_checks
  list_passed e = go (ltb (length scratch) scratch_words) refl e
    where
      go : (b : Bool) → ltb (length scratch) scratch_words ≡ b → passed ≡ cond b (refusedOutcome 6 0) (checks terms state) →
          (scratch_words ≤ length scratch) × Checked terms state
      go true s e = absurd (false≢true (sym (ap has_passed e)))
      go false s e = (ltb-false (length scratch) scratch_words s, passed_checked terms state e)

  -- And with the table index, all that a request asks of the memory.
  pub list_ready : (index : List ℕ) → passed ≡ list_checks terms state scratch → Indexed (terms_of terms) index → MemoryPassed terms index state scratch
  list_ready index e indexed =
      let p = list_passed e in
      let k : Checked terms state = p.1 in
      record {
        long_terms = k.long_terms;
        good_terms = k.good_terms;
        indexed = indexed;
        long_state = k.long_state;
        good-state = k.good-state;
        long_scratch = p.0;
      }

  -- What fails a list's check fails each single request by the same number and line.
  pub refused_alike : (n l : ℕ) → list_checks terms state scratch ≡ refusedOutcome n l → (j u v : ℕ) → answer terms state scratch j u v ≡ refused n l
  unfolding list_checks
  refused_alike n l e j u v = go (ltb (length scratch) scratch_words) refl e
    where
      number_at : Outcome → ℕ
      number_at passed = 0
      number_at (refusedOutcome n l) = n

      line_at : Outcome → ℕ
      line_at passed = 0
      line_at (refusedOutcome n l) = l

      go : (b : Bool) → ltb (length scratch) scratch_words ≡ b → cond b (refusedOutcome 6 0) (checks terms state) ≡ refusedOutcome n l → answer terms state scratch j u v ≡ refused n l
      go true s e = sym (short_scratch terms state scratch j u v (ltb-true (length scratch) scratch_words s)) ∙ (λ i. refused (number_at (e i)) (line_at (e i)))
      go false s e = sym (unchecked terms state scratch j u v (ltb-false (length scratch) scratch_words s) n l (sym e))
