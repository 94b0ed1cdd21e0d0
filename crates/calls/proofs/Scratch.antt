-- Only whether scratch is long enough counts: with any two scratches that are enough a call, a set list and a
-- whole run give and leave the same.
use Prim.Native.Nat.{ℕ, ◌+◌, ◌≤◌}
use native.Mathlib.Omega.{arith}
use mathlib.Core.Path.{◌≡◌, refl, ap, ap₂, ◌∙◌}
use mathlib.Core.Bool.{Bool, true, false, cond}
use mathlib.Core.List.{List, [], ◌∷◌, ◌++◌}
use lib.ListN.{length, drop}
use borrow.Author.Tests.{le-ltb}
use Rattle.theory.specs.Keeper.{Answer}
use Rattle.theory.specs.Limits.{scratch_words}
use Rattle.theory.specs.Tables.{made, advance}
use Rattle.memory.specs.Layout.{state_words, terms_of, state_of, words_of}
use Rattle.memory.specs.Outcome.{has_passed, revises}
use Rattle.calls.specs.Renumbering.{renumbering}
use Rattle.calls.specs.Monitor.{answer, granted, moves, state_after, scratch_after}
use Rattle.calls.specs.Agreement.{LentStep, SameSteps, Lent, with_state, in_use, in_use_by, leaves, answers_in, outcome_in, serve_steps}
use Rattle.calls.specs.Agreement.SameSteps.{none, calls, set_lists, new_terms, new_numbers}
use Rattle.calls.specs.SetList.{Run, filled, singly, list_checks, listing, listed, left}
use Rattle.calls.specs.declared.Record.{Record}
use Rattle.calls.proofs.OneByOne.{after_scratch}

module _ (terms : List ℕ) where
  same_answer : (state small large : List ℕ) → scratch_words ≤ length small → scratch_words ≤ length large → (j u v : ℕ) →
      answer terms state small j u v ≡ answer terms state large j u v
  unfolding answer
  same_answer state small large s l j u v = rw (le-ltb (length small) scratch_words s, le-ltb (length large) scratch_words l)

  -- Requests and looks: every answer and state with the least scratch is the one got with any larger.
  pub any_scratch_call : (state small large : List ℕ) → scratch_words ≤ length small → scratch_words ≤ length large → (j u v : ℕ) →
      (answer terms state small j u v ≡ answer terms state large j u v) × (state_after terms state small j u v ≡ state_after terms state large j u v)
  unfolding state_after
  any_scratch_call state small large s l j u v =
      let same = same_answer state small large s l j u v in (
        same,
        ap (λ (a : Answer). cond (moves ((terms_of terms).kept j) a)
            (words_of (terms_of terms) (advance (terms_of terms) (state_of state) (made (terms_of terms) (state_of state).now (granted a) j u v)) ++ drop state_words state)
            state) same,
      )

  -- The same of single requests one after another: records, grants and state.
  abbrev Same : Run → Run → Type 0
  Same x y = (x.records ≡ y.records) × (x.grants ≡ y.grants) × (x.state ≡ y.state)

  singly_same : (rs : List Record) (state small large : List ℕ) → scratch_words ≤ length small → scratch_words ≤ length large →
      Same (singly terms state small rs) (singly terms state large rs)
  unfolding singly
  singly_same [] state small large s l = (refl, refl, refl)
  singly_same (r ∷ rs) state small large s l =
      let now = any_scratch_call state small large s l r.event r.from r.to in
      let small' : List ℕ = scratch_after terms state small r.event r.from r.to in
      let large' : List ℕ = scratch_after terms state large r.event r.from r.to in
      let later = singly_same rs (state_after terms state large r.event r.from r.to) small' large'
      (omega (arith, s, after_scratch terms state small r.event r.from r.to s))
      (omega (arith, l, after_scratch terms state large r.event r.from r.to l)) in
      let before : List ℕ → Run = λ (m : List ℕ). singly terms m small' rs in (
        ap₂ (λ (a : Answer) (qs : List Record). filled r a ∷ qs) now.0 (ap (λ m. (before m).records) now.1 ∙ later.0),
        ap₂ (λ (a : Answer) n. cond (granted a) 1 0 + n) now.0 (ap (λ m. (before m).grants) now.1 ∙ later.1),
        ap (λ m. (before m).state) now.1 ∙ later.2,
      )

  same_checks : (state small large : List ℕ) → scratch_words ≤ length small → scratch_words ≤ length large →
      list_checks terms state small ≡ list_checks terms state large
  unfolding list_checks
  same_checks state small large s l = rw (le-ltb (length small) scratch_words s, le-ltb (length large) scratch_words l)

  -- Set lists: result, records and state.
  pub any_scratch_list : (state small large : List ℕ) → scratch_words ≤ length small → scratch_words ≤ length large → (rs : List Record) →
      (listed terms state small rs ≡ listed terms state large rs)
      × ((left terms state small rs).records ≡ (left terms state large rs).records)
      × ((left terms state small rs).state ≡ (left terms state large rs).state)
  unfolding listed left
  any_scratch_list state small large s l rs =
      let e = same_checks state small large s l in
      let q = singly_same rs state small large s l in
      rw e (
        ap (listing (list_checks terms state large)) q.1,
        go (has_passed (list_checks terms state large)) (λ (x : Run). x.records) refl q.0,
        go (has_passed (list_checks terms state large)) (λ (x : Run). x.state) refl q.2,
      )
    where
      unmoved : List ℕ → Run
      unmoved sc = record { records = rs; grants = 0; state = state; scratch = sc }

      go : {A : Type 0} (b : Bool) (f : Run → A) → f (unmoved small) ≡ f (unmoved large) →
          f (singly terms state small rs) ≡ f (singly terms state large rs) →
          f (cond b (singly terms state small rs) (unmoved small)) ≡ f (cond b (singly terms state large rs) (unmoved large))
      go true f p q = q
      go false f p q = p

-- Whole runs: two lists of steps that differ only in scratches that are enough give the same answers, and leave the
-- same memory in use, word for word.
pub any_scratch : (ss ts : List LentStep) → SameSteps ss ts → (L : Lent) → serve_steps L ss ≡ serve_steps L ts
unfolding serve_steps
any_scratch [] [] none L = refl
any_scratch _ _ (calls look j u v small large s l ss ts rest) L =
    let now = any_scratch_call L.terms L.state small large s l j u v in
    let m : List ℕ = leaves L.terms L.state (record { look = look; event = j; from = u; to = v; scratch = large }) in
    ap₂ (λ (a : Answer) (x : List ℕ). (a ∷ (serve_steps (with_state L (cond look L.state x)) ss).0, (serve_steps (with_state L (cond look L.state x)) ss).1)) now.0 now.1
    ∙ ap (λ (later : List Answer × Lent). (answer L.terms L.state large j u v ∷ later.0, later.1)) (any_scratch ss ts rest (with_state L m))
any_scratch _ _ (set_lists rs small large s l ss ts rest) L =
    let now = any_scratch_list L.terms L.state small large s l rs in
    let m : List ℕ = (left L.terms L.state large rs).state in
    let answers : List Answer = answers_in (listed L.terms L.state large rs) (left L.terms L.state large rs).records in
    ap₂ (λ (told : List Answer) (x : List ℕ). (told ++ (serve_steps (with_state L x) ss).0, (serve_steps (with_state L x) ss).1)) (ap₂ answers_in now.0 now.1) now.2
    ∙ ap (λ (later : List Answer × Lent). (answers ++ later.0, later.1)) (any_scratch ss ts rest (with_state L m))
any_scratch _ _ (new_terms new second ss ts rest) L =
    ap (λ (later : List Answer × Lent). (outcome_in (revises L.terms L.state new second) ∷ later.0, later.1)) (any_scratch ss ts rest (in_use L new second))
any_scratch _ _ (new_numbers numbers second ss ts rest) L =
    ap (λ (later : List Answer × Lent). (outcome_in (renumbering L.terms L.state numbers second) ∷ later.0, later.1)) (any_scratch ss ts rest (in_use_by L numbers second))
