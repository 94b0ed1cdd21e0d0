-- Single requests one after another: one more at the end, what is left of memory that has passed the
-- checks, and what the numbers tell.
use Prim.Native.Nat.{ℕ, ◌+◌, ◌<◌, ◌≤◌, ◌^◌}
use native.Mathlib.Nat.{zero-add, add-zero, add_assoc}
use native.Mathlib.Omega.{arith}
use mathlib.Core.Path.{◌≡◌, refl, sym, ap, ◌∙◌}
use mathlib.Core.Bool.{Bool, true, false, cond, not, ◌||◌}
use mathlib.Core.List.{List, [], ◌∷◌, ◌++◌}
use lib.Dec.{eqb, ltb, lit<}
use lib.ListN.{length, drop, replicate, length-append, length-drop, length-replicate}
use borrow.Author.Tests.{ltb-true}
use Rattle.sets.proofs.Finite.{and_left, and_right}
use Rattle.theory.specs.Terms.{Terms}
use Rattle.theory.specs.Moment.{Moment}
use Rattle.theory.specs.Keeper.{Answer}
use Rattle.theory.specs.Keeper.Verdict.{grant, deny}
use Rattle.theory.specs.Keeper.Answer.{decided, refused}
use Rattle.theory.specs.Limits.{scratch_words}
use Rattle.theory.specs.Tables.{named, decide_now, made, advance}
use Rattle.memory.specs.Layout.{terms_words, state_words, terms_of, state_of, words_of}
use Rattle.memory.specs.Checks.{good_memory, good_state}
use Rattle.memory.proofs.Outcomes.{Checked}
use Rattle.memory.proofs.Accepted.{good}
use Rattle.memory.proofs.Inside.{made_inside, state_inside}
use Rattle.memory.proofs.Words.{length_words}
use Rattle.calls.specs.Monitor.{answer, granted, moves, state_after, scratch_after}
use Rattle.calls.specs.SetList.{answer_number, filled, Run, singly, gain_of}
use Rattle.calls.specs.Agreement.{answer_in}
use Rattle.calls.specs.private.Listing.{MemoryPassed}
use Rattle.calls.specs.declared.Record.{Record}
use Rattle.calls.proofs.LayoutKept.{advance_good}
use Rattle.calls.proofs.Answers.{moves_decided, decided_says}

module _ (t : List ℕ) where
  -- What one record more makes of a run.
  abbrev pub more : Run → Record → Run
  more R z = record {
    records = R.records ++ (filled z (answer t R.state R.scratch z.event z.from z.to) ∷ []);
    grants = R.grants + cond (granted (answer t R.state R.scratch z.event z.from z.to)) 1 0;
    state = state_after t R.state R.scratch z.event z.from z.to;
    scratch = scratch_after t R.state R.scratch z.event z.from z.to;
  }

  pub singly_more : (st sc : List ℕ) (rs : List Record) (z : Record) → singly t st sc (rs ++ (z ∷ [])) ≡ more (singly t st sc rs) z
  unfolding singly
  singly_more st sc [] z =
      let a : Answer = answer t st sc z.event z.from z.to in
      ap (λ (k : ℕ). record {
        records = filled z a ∷ [];
        grants = k;
        state = state_after t st sc z.event z.from z.to;
        scratch = scratch_after t st sc z.event z.from z.to;
      }) (add-zero (cond (granted a) 1 0) ∙ sym (zero-add (cond (granted a) 1 0)))
  singly_more st sc (r ∷ rs) z =
      let a : Answer = answer t st sc r.event r.from r.to in
      let later : Run = singly t (state_after t st sc r.event r.from r.to) (scratch_after t st sc r.event r.from r.to) rs in
      ap (λ (R : Run). record { records = filled r a ∷ R.records; grants = cond (granted a) 1 0 + R.grants; state = R.state; scratch = R.scratch })
      (singly_more (state_after t st sc r.event r.from r.to) (scratch_after t st sc r.event r.from r.to) rs z)
      ∙ ap (λ (k : ℕ). record {
        records = filled r a ∷ (more later z).records;
        grants = k;
        state = (more later z).state;
        scratch = (more later z).scratch;
      }) (sym (add_assoc (cond (granted a) 1 0) later.grants (cond (granted (answer t later.state later.scratch z.event z.from z.to)) 1 0)))

  module _ (st sc : List ℕ) (j u v : ℕ) where
    -- What holds of both verdicts and of the four refusals holds of every answer.
    each_answer : (P : Answer → Type 0) → P (refused 6 0) → P (refused 7 0) → P (refused 8 0) → P (refused 9 0) → P (decided grant) → P (decided deny) →
        P (answer t st sc j u v)
    unfolding answer
    each_answer P six seven eight nine one nil =
        go (ltb (length t) terms_words || (ltb (length st) state_words || ltb (length sc) scratch_words)) (good_memory t) (good_state (terms_of t) st) (named (terms_of t) j u v)
        (decide_now (terms_of t) (state_of st) j u v)
      where
        go : (s g k n d : Bool) →
            P (cond s (refused 6 0) (cond (not g) (refused 7 0) (cond (not k) (refused 8 0) (cond (not n) (refused 9 0) (decided (cond d grant deny))))))
        go true g k n d = six
        go false false k n d = seven
        go false true false n d = eight
        go false true true false d = nine
        go false true true true true = one
        go false true true true false = nil

    -- A number of 1 is a grant.
    pub one_granted : gain_of (answer_number (answer t st sc j u v)) ≡ cond (granted (answer t st sc j u v)) 1 0
    unfolding gain_of
    one_granted = each_answer (λ a. ◌≡◌ {A = ℕ} (cond (eqb (answer_number a) 1) 1 0) (cond (granted a) 1 0)) refl refl refl refl refl refl

    pub number_small : answer_number (answer t st sc j u v) < 2 ^ 32
    number_small = each_answer (λ a. answer_number a < 2 ^ 32) (lit< tt) (lit< tt) (lit< tt) (lit< tt) (lit< tt) (lit< tt)

    -- A number tells its answer.
    pub answer_back : answer_in (answer_number (answer t st sc j u v)) ≡ answer t st sc j u v
    answer_back = each_answer (λ a. answer_in (answer_number a) ≡ a) refl refl refl refl refl refl

    -- The moment that it makes, if it makes one.
    abbrev moment : Moment
    moment = made (terms_of t) (state_of st).now (granted (answer t st sc j u v)) j u v

    -- A request keeps the layout, of every state that keeps it.
    pub after_good : good_memory t ≡ true → good_state (terms_of t) st ≡ true → good_state (terms_of t) (state_after t st sc j u v) ≡ true
    unfolding state_after
    after_good gt gs = go (moves ((terms_of t).kept j) (answer t st sc j u v)) refl
      where
        go : (b : Bool) → moves ((terms_of t).kept j) (answer t st sc j u v) ≡ b →
            good_state (terms_of t) (cond b (words_of (terms_of t) (advance (terms_of t) (state_of st) moment) ++ drop state_words st) st) ≡ true
        go true e =
            let n = (decided_says t st sc j u v (moves_decided ((terms_of t).kept j) (answer t st sc j u v) e)).names in
            let T : Terms = terms_of t in
            advance_good T (good t gt) st gs moment
            (made_inside T (good t gt) (state_of st).now (state_inside T st gs) (granted (answer t st sc j u v)) j u v
            (ltb-true j T.events (and_left (ltb j T.events) _ n))
            (ltb-true u T.members (and_left (ltb u T.members) _ (and_right (ltb j T.events) _ n)))
            (ltb-true v T.members (and_right (ltb u T.members) _ (and_right (ltb j T.events) _ n)))) (drop state_words st)
        go false e = gs

    -- And the lengths.
    pub after_long : state_words ≤ length st → length (state_after t st sc j u v) ≡ length st
    unfolding state_after
    after_long l = go (moves ((terms_of t).kept j) (answer t st sc j u v))
      where
        go : (b : Bool) → length (cond b (words_of (terms_of t) (advance (terms_of t) (state_of st) moment) ++ drop state_words st) st) ≡ length st
        go true =
            length-append (words_of (terms_of t) (advance (terms_of t) (state_of st) moment)) (drop state_words st)
            ∙ omega (arith, l, length_words (terms_of t) (advance (terms_of t) (state_of st) moment), length-drop state_words st)
        go false = refl

    pub after_scratch : scratch_words ≤ length sc → length (scratch_after t st sc j u v) ≡ length sc
    unfolding scratch_after
    after_scratch l = go (moves ((terms_of t).kept j) (answer t st sc j u v))
      where
        go : (b : Bool) → length (cond b (replicate scratch_words 0 ++ drop scratch_words sc) sc) ≡ length sc
        go true =
            let z : List ℕ = replicate scratch_words 0 in
            length-append z (drop scratch_words sc) ∙ omega (arith, l, length-replicate {A = ℕ} scratch_words 0, length-drop scratch_words sc)
        go false = refl

    -- What a step gives and leaves is what a request does.
    abbrev pub AsRequest : ℕ → List ℕ → List ℕ → Type 0
    AsRequest k st' sc' =
        (k ≡ answer_number (answer t st sc j u v)) × (st' ≡ state_after t st sc j u v) × (sc' ≡ scratch_after t st sc j u v)

    module _ (index : List ℕ) (p : MemoryPassed t index st sc) where
      checked : Checked t st
      checked = record { long_terms = p.long_terms; long_state = p.long_state; good_terms = p.good_terms; good-state = p.good-state }

    -- So a request leaves memory that has passed the checks as memory that passes them.
    pub after_checked : Checked t st → Checked t (state_after t st sc j u v)
    after_checked k = record {
      long_terms = k.long_terms;
      long_state = omega (arith, k.long_state, after_long k.long_state);
      good_terms = k.good_terms;
      good-state = after_good k.good_terms k.good-state;
    }

    pub after_passed : (index : List ℕ) → MemoryPassed t index st sc → MemoryPassed t index (state_after t st sc j u v) (scratch_after t st sc j u v)
    after_passed index p = record {
      long_terms = p.long_terms;
      good_terms = p.good_terms;
      indexed = p.indexed;
      long_state = (after_checked (checked index p)).long_state;
      good-state = (after_checked (checked index p)).good-state;
      long_scratch = omega (arith, p.long_scratch, after_scratch p.long_scratch);
    }
