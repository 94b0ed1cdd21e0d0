-- A set list is single requests one after another: what its result, its answers and its refusals tell.
use Prim.Native.Nat.{ℕ, zero, suc, ◌+◌, ◌≤◌, ◌<◌}
use native.Mathlib.Omega.{arith}
use mathlib.Core.Path.{◌≡◌, refl, sym, ap, ap₂}
use mathlib.Core.Logic.{inl, inr}
use mathlib.Core.Bool.{Bool, true, false}
use mathlib.Core.List.{List, [], ◌∷◌}
use lib.ListN.{length, get_or}
use Rattle.theory.specs.Keeper.Answer.{refused}
use Rattle.theory.specs.Limits.{scratch_words}
use Rattle.theory.specs.Tables.{named, decide_now}
use Rattle.memory.specs.Layout.{terms_of, state_of}
use Rattle.memory.specs.Outcome.Outcome.{passed, refused as refusedOutcome}
use Rattle.memory.proofs.Outcomes.{Checked}
use Rattle.calls.specs.Monitor.{answer, state_after, scratch_after}
use Rattle.calls.specs.SetList.{answer_number, singly, list_checks, listed, left, ones, Plain, blank}
use Rattle.calls.specs.SetList.Listing.{counted, refused as refusedList}
use Rattle.calls.specs.declared.Record.{Record}
use Rattle.calls.proofs.Answers.{unnamed, judged}
use Rattle.calls.proofs.ListChecks.{list_passed, refused_alike}
use Rattle.calls.proofs.OneByOne.{one_granted, after_checked, after_scratch}

module _ (terms : List ℕ) where
  counts_ones : (state scratch : List ℕ) (rs : List Record) → (singly terms state scratch rs).grants ≡ ones (singly terms state scratch rs).records
  unfolding singly ones
  counts_ones state scratch [] = refl
  counts_ones state scratch (r ∷ rs) =
      ap₂ ◌+◌ (sym (one_granted terms state scratch r.event r.from r.to))
      (counts_ones (state_after terms state scratch r.event r.from r.to) (scratch_after terms state scratch r.event r.from r.to) rs)

  plain_number : (state scratch : List ℕ) → Checked terms state → scratch_words ≤ length scratch → (j u v : ℕ) → Plain (answer_number (answer terms state scratch j u v))
  plain_number state scratch k l j u v = by_name (named (terms_of terms) j u v) refl
    where
      by_verdict : named (terms_of terms) j u v ≡ true → (d : Bool) → d ≡ decide_now (terms_of terms) (state_of state) j u v → Plain (answer_number (answer terms state scratch j u v))
      by_verdict n true e = inr (inl (sym (ap answer_number (judged terms state scratch j u v l k n refl e))))
      by_verdict n false e = inl (sym (ap answer_number (judged terms state scratch j u v l k n refl e)))

      by_name : (n : Bool) → named (terms_of terms) j u v ≡ n → Plain (answer_number (answer terms state scratch j u v))
      by_name true n = by_verdict n (decide_now (terms_of terms) (state_of state) j u v) refl
      by_name false n = inr (inr (sym (ap answer_number (unnamed terms state scratch j u v l k n))))

  plain_answers : (state scratch : List ℕ) → Checked terms state → scratch_words ≤ length scratch → (rs : List Record) (i : ℕ) → i < length rs →
      Plain (get_or (singly terms state scratch rs).records i blank).answer
  unfolding singly
  plain_answers state scratch k l [] i b = absurd (omega (arith, b))
  plain_answers state scratch k l (r ∷ rs) zero b = plain_number state scratch k l r.event r.from r.to
  plain_answers state scratch k l (r ∷ rs) (suc i) b =
      plain_answers (state_after terms state scratch r.event r.from r.to) (scratch_after terms state scratch r.event r.from r.to)
      (after_checked terms state scratch r.event r.from r.to k)
      (omega (arith, l, after_scratch terms state scratch r.event r.from r.to l)) rs i (omega (arith, b))

module _ (terms state scratch : List ℕ) (rs : List Record) where
  -- Where the checks pass, a set list leaves what single requests one after another leave, counts their grants, which
  -- are the answers 1, and no record gets 6, 7 or 8.
  pub as_single_requests : list_checks terms state scratch ≡ passed →
      (left terms state scratch rs ≡ singly terms state scratch rs)
      × (listed terms state scratch rs ≡ counted (ones (left terms state scratch rs).records))
      × ((i : ℕ) → i < length rs → Plain (get_or (left terms state scratch rs).records i blank).answer)
  unfolding left listed
  as_single_requests e =
      let p = list_passed terms state scratch (sym e) in
      rw e (refl, ap counted (counts_ones terms state scratch rs), plain_answers terms state scratch p.1 p.0 rs)

  -- Where a check fails, the list is refused by its number and line, all memory is as lent, and every single
  -- request would be refused alike.
  pub refused_whole : (n l : ℕ) → list_checks terms state scratch ≡ refusedOutcome n l →
      (listed terms state scratch rs ≡ refusedList n l)
      × (left terms state scratch rs ≡ record { records = rs; grants = 0; state = state; scratch = scratch })
      × ((j u v : ℕ) → answer terms state scratch j u v ≡ refused n l)
  unfolding left listed
  refused_whole n l e = rw e (refl, refl, refused_alike terms state scratch n l e)
