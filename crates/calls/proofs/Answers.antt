-- The ways through what a call gives and an opening gives: one law for each, and what a verdict
-- and an opening say of the memory.
use Prim.Native.Nat.{ℕ, ◌≤◌, ◌<◌}
use mathlib.Core.Path.{◌≡◌, refl, sym, ap, ◌∙◌}
use mathlib.Core.Bool.{Bool, true, false, cond, not, ◌||◌, true≢false}
use mathlib.Core.List.{List, ◌++◌}
use lib.Dec.{ltb}
use lib.ListN.{length, drop, replicate}
use borrow.Author.Tests.{lt-ltb, le-ltb, ltb-false}
use Rattle.sets.proofs.Finite.{or_right}
use Rattle.theory.specs.Terms.{Terms}
use Rattle.theory.specs.Keeper.{Answer}
use Rattle.theory.specs.Keeper.Verdict.{grant, deny}
use Rattle.theory.specs.Keeper.Answer.{decided, done, refused}
use Rattle.theory.specs.Limits.{scratch_words}
use Rattle.memory.specs.Layout.{terms_words, state_words, terms_of, state_of, words_of}
use Rattle.memory.specs.Checks.{good_memory, good_state}
use Rattle.theory.specs.Tables.{named, opening, decide_now, made, advance, revised}
use Rattle.calls.specs.Revising.{revised_state}
use Rattle.memory.specs.Outcome.{has_passed, checks, opens, revises}
use Rattle.calls.specs.Monitor.{answer, granted, is_decided, moves, state_after, scratch_after, opened_state}
use Rattle.memory.specs.Outcome.Outcome.{passed, refused as refusedOutcome}
use Rattle.memory.proofs.Outcomes.{Checked}

-- Whether the call names an event and two members.
module _ (T : Terms) (j u v e n : ℕ) (events : e ≡ T.events) (members : n ≡ T.members) where
  pub names_to : j < e → u < n → ltb v n ≡ named T j u v
  names_to l k = rw (sym events, sym members, lt-ltb j e l, lt-ltb u n k)

  pub names_no_from : j < e → n ≤ u → ltb u n ≡ named T j u v
  names_no_from l k = rw (sym events, sym members, lt-ltb j e l, le-ltb u n k)

  pub names_no_event : e ≤ j → ltb j e ≡ named T j u v
  names_no_event l = rw (sym events, le-ltb j e l)

-- What makes a moment is a verdict.
pub moves_decided : (kept : Bool) (a : Answer) → moves kept a ≡ true → is_decided a ≡ true
moves_decided kept (decided d) e = refl
moves_decided kept done e = e
moves_decided kept (refused n l) e = e

module _ (terms state scratch : List ℕ) (j u v : ℕ) where
  abbrev Given : Answer
  Given = answer terms state scratch j u v

  pub short_scratch : length scratch < scratch_words → refused 6 0 ≡ Given
  unfolding answer
  short_scratch l = rw (or_right (ltb (length terms) terms_words) (ltb (length state) state_words || ltb (length scratch) scratch_words)
      (or_right (ltb (length state) state_words) (ltb (length scratch) scratch_words) (lt-ltb (length scratch) scratch_words l)))

  module _ (ls : scratch_words ≤ length scratch) where
    -- What fails a check fails a call.
    pub unchecked : (n l : ℕ) → refusedOutcome n l ≡ checks terms state → refused n l ≡ Given
    unfolding answer checks
    unchecked n l e =
        go (ltb (length terms) terms_words) (ltb (length state) state_words) (ltb (length scratch) scratch_words) (le-ltb (length scratch) scratch_words ls)
        (good_memory terms) (good_state (terms_of terms) state) (named (terms_of terms) j u v) e
      where
        rest : Answer
        rest = decided (cond (decide_now (terms_of terms) (state_of state) j u v) grant deny)

        go : (a b c : Bool) → c ≡ false → (g s m : Bool) →
            refusedOutcome n l ≡ cond (a || b) (refusedOutcome 6 0) (cond (not g) (refusedOutcome 7 0) (cond (not s) (refusedOutcome 8 0) passed)) →
            refused n l ≡ cond (a || (b || c)) (refused 6 0) (cond (not g) (refused 7 0) (cond (not s) (refused 8 0) (cond (not m) (refused 9 0) rest)))
        go true b c z g s m e = cc
        go false true c z g s m e = cc
        go false false true z g s m e = absurd (true≢false z)
        go false false false z false s m e = cc
        go false false false z true false m e = cc
        go false false false z true true m e = absurd (true≢false (sym (ap has_passed e)))

    pub unnamed : Checked terms state → named (terms_of terms) j u v ≡ false → refused 9 0 ≡ Given
    unfolding answer
    unnamed c e =
        rw (
          le-ltb (length terms) terms_words c.long_terms,
          le-ltb (length state) state_words c.long_state,
          le-ltb (length scratch) scratch_words ls,
          c.good_terms,
          c.good-state,
          e,
        )

    pub judged : Checked terms state → named (terms_of terms) j u v ≡ true → {d r : Bool} → r ≡ d → r ≡ decide_now (terms_of terms) (state_of state) j u v →
        decided (cond d grant deny) ≡ Given
    unfolding answer
    judged c m q e =
        ap (λ (x : Bool). decided (cond x grant deny)) (sym q ∙ e)
        ∙ rw (
          le-ltb (length terms) terms_words c.long_terms,
          le-ltb (length state) state_words c.long_state,
          le-ltb (length scratch) scratch_words ls,
          c.good_terms,
          c.good-state,
          m,
        )

  -- A call that gets a verdict has passed the checks, has scratch, and names an event and members.
  pub record Decided : Type 0 where
    pub checked : Checked terms state
    pub long_scratch : scratch_words ≤ length scratch
    pub names : named (terms_of terms) j u v ≡ true

  pub decided_says : is_decided Given ≡ true → Decided
  unfolding answer
  decided_says e =
      go (ltb (length terms) terms_words) refl (ltb (length state) state_words) refl (ltb (length scratch) scratch_words) refl
      (good_memory terms) refl (good_state (terms_of terms) state) refl (named (terms_of terms) j u v) refl e
    where
      go : (a : Bool) → ltb (length terms) terms_words ≡ a → (b : Bool) → ltb (length state) state_words ≡ b →
          (c : Bool) → ltb (length scratch) scratch_words ≡ c → (g : Bool) → good_memory terms ≡ g →
          (s : Bool) → good_state (terms_of terms) state ≡ s → (n : Bool) → named (terms_of terms) j u v ≡ n →
          is_decided (cond (a || (b || c)) (refused 6 0) (cond (not g) (refused 7 0) (cond (not s) (refused 8 0) (cond (not n) (refused 9 0)
          (decided (cond (decide_now (terms_of terms) (state_of state) j u v) grant deny)))))) ≡ true → Decided
      go true _ _ _ _ _ _ _ _ _ _ _ z = absurd (true≢false (sym z))
      go false _ true _ _ _ _ _ _ _ _ _ z = absurd (true≢false (sym z))
      go false _ false _ true _ _ _ _ _ _ _ z = absurd (true≢false (sym z))
      go false _ false _ false _ false _ _ _ _ _ z = absurd (true≢false (sym z))
      go false _ false _ false _ true _ false _ _ _ z = absurd (true≢false (sym z))
      go false _ false _ false _ true _ true _ false _ z = absurd (true≢false (sym z))
      go false a false b false c true g true s true n z = record {
        checked = record {
          long_terms = ltb-false (length terms) terms_words a;
          long_state = ltb-false (length state) state_words b;
          good_terms = g;
          good-state = s;
        };
        long_scratch = ltb-false (length scratch) scratch_words c;
        names = n;
      }

  pub verdict_says : {a : Answer} → a ≡ Given → is_decided a ≡ true → Decided
  verdict_says p e = decided_says (ap is_decided (sym p) ∙ e)

  -- What a request leaves, by its answer.
  pub state_kept : moves ((terms_of terms).kept j) Given ≡ false → state ≡ state_after terms state scratch j u v
  unfolding state_after
  state_kept e = rw e

  pub scratch_kept : moves ((terms_of terms).kept j) Given ≡ false → scratch ≡ scratch_after terms state scratch j u v
  unfolding scratch_after
  scratch_kept e = rw e

  pub state_moved : {m : List ℕ} {g : Bool} {a : Answer} → moves ((terms_of terms).kept j) Given ≡ true → a ≡ Given → g ≡ granted a →
      m ≡ words_of (terms_of terms) (advance (terms_of terms) (state_of state) (made (terms_of terms) (state_of state).now g j u v)) ++ drop state_words state →
      m ≡ state_after terms state scratch j u v
  unfolding state_after
  state_moved e p q h =
      h ∙ ap (λ (c : Bool). words_of (terms_of terms) (advance (terms_of terms) (state_of state) (made (terms_of terms) (state_of state).now c j u v)) ++ drop state_words state)
      (q ∙ ap granted p)
      ∙ rw e

  pub scratch_cleared : {m : List ℕ} → moves ((terms_of terms).kept j) Given ≡ true → m ≡ replicate scratch_words 0 ++ drop scratch_words scratch → m ≡ scratch_after terms state scratch j u v
  unfolding scratch_after
  scratch_cleared e h = rw e h

module _ (terms state : List ℕ) where
  pub open_kept : (n l : ℕ) → refusedOutcome n l ≡ opens terms state → state ≡ opened_state terms state
  unfolding opened_state
  open_kept n l e = rw (sym e)

  pub open_done : passed ≡ opens terms state →
      words_of (terms_of terms) (opening (terms_of terms) (state_of state).now.edge) ++ drop state_words state ≡ opened_state terms state
  unfolding opened_state
  open_done e = rw (sym e)

module _ (old state new second : List ℕ) where
  pub revise_kept : (n l : ℕ) → refusedOutcome n l ≡ revises old state new second → second ≡ revised_state old state new second
  unfolding revised_state
  revise_kept n l e = rw (sym e)

  pub revise_done : passed ≡ revises old state new second →
      words_of (terms_of new) (revised (terms_of old) (state_of state) (terms_of new)) ++ drop state_words second ≡ revised_state old state new second
  unfolding revised_state
  revise_done e = rw (sym e)
