-- Two memories that pass the checks, with alike terms and the same named words of state, answer alike whatever is asked
-- of them, also where no record is.
use Prim.Native.Nat.{ℕ, ◌+◌, ◌≤◌, ◌<◌}
use native.Mathlib.Omega.{arith}
use mathlib.Core.Path.{◌≡◌, refl, sym, ap, ap₂, subst, ◌∙◌}
use mathlib.Core.Bool.{Bool, true, false, cond, not, ◌&&◌, ◌||◌}
use mathlib.Core.List.{List, [], ◌∷◌, ◌++◌}
use lib.Dec.{ltb}
use lib.ListN.{length, get_or, drop, replicate, length-append, get_or-append}
use borrow.Author.Tests.{le-ltb, ltb-true}
use Rattle.sets.proofs.Finite.{and_left}
use Rattle.theory.specs.Terms.{Terms, same_size, Alike}
use Rattle.theory.specs.Keeper.{Answer}
use Rattle.theory.specs.Keeper.Verdict.{grant, deny}
use Rattle.theory.specs.Keeper.Answer.{decided, refused}
use Rattle.theory.specs.Limits.{scratch_words}
use Rattle.theory.specs.NewNumbers.{renumbers}
use Rattle.theory.specs.MembersRenumbered.{state_by}
use Rattle.theory.specs.Tables.{named, State, decide_now, made, advance, revised}
use Rattle.theory.proofs.AlikeTerms.{alike_refl, size_alike, revised_alike}
use Rattle.theory.proofs.Size.{same_members, same_relations, same_events}
use Rattle.memory.specs.Layout.{terms_words, state_words, terms_of, state_of, words_of}
use Rattle.memory.specs.Outcome.{Outcome, has_passed, revises}
use Rattle.memory.specs.Checks.{good_memory}
use Rattle.memory.specs.Outcome.Outcome.{passed, refused as refusedOutcome}
use Rattle.memory.proofs.Accepted.{good}
use Rattle.memory.proofs.Front.{state_cong}
use Rattle.memory.proofs.Words.{length_words}
use Rattle.memory.proofs.Outcomes.{Checked, check_passed, Revisable, passed_revisable}
use Rattle.calls.specs.Monitor.{answer, granted, moves, state_after, scratch_after}
use Rattle.calls.specs.SetList.{Run, filled, singly, list_checks, listing, listed, left}
use Rattle.calls.specs.SetList.Listing.{counted}
use Rattle.calls.specs.Agreement.{LentCall, LentStep, leaves, answers_in, outcome_in, Lent, with_state, in_use, in_use_by, serve_steps}
use Rattle.calls.specs.Revising.{revised_state}
use Rattle.calls.specs.Renumbering.{renumbering, renumbered_words, renumbered_state}
use Rattle.calls.specs.Agreement.LentStep.{once, set_list, revise, renumber}
use Rattle.calls.specs.declared.Record.{Record}
use Rattle.calls.proofs.Answers.{moves_decided, decided_says}
use Rattle.calls.proofs.LayoutKept.{revised_good}
use Rattle.calls.proofs.OneByOne.{after_checked}
use Rattle.calls.proofs.MembersOutcomes.{renumbered_says}
use Rattle.calls.proofs.MembersLater.{second_good, second_long}
use Rattle.text.proofs.AlikeWords.{state_alike, numbered_alike}
use Rattle.text.proofs.AlikeMoments.{decide_alike, made_alike, advance_alike}

pub record Twins (m s m' s' : List ℕ) : Type 0 where
  pub checked : Checked m s
  pub other : Checked m' s'
  pub like : Alike (terms_of m) (terms_of m')
  pub words : (i : ℕ) → i < state_words → get_or s i 0 ≡ get_or s' i 0

-- ---- one call

module _ (sc : List ℕ) (j u v : ℕ) where
  -- What memory that passes the checks answers.
  abbrev given : Terms → State → Answer
  given T S = cond (ltb (length sc) scratch_words) (refused 6 0) (cond (not (named T j u v)) (refused 9 0) (decided (cond (decide_now T S j u v) grant deny)))

  answer-is : (m s : List ℕ) → Checked m s → answer m s sc j u v ≡ given (terms_of m) (state_of s)
  unfolding answer
  answer-is m s c = rw (le-ltb (length m) terms_words c.long_terms, le-ltb (length s) state_words c.long_state, c.good_terms, c.good-state)

  -- A call that names no event or no member makes no moment.
  unmoved : (m s : List ℕ) → Checked m s → named (terms_of m) j u v ≡ false → (k : Bool) → moves k (answer m s sc j u v) ≡ false
  unmoved m s c n k = ap (moves k) (answer-is m s c) ∙ rw n (go (ltb (length sc) scratch_words))
    where
      go : (b : Bool) → moves k (cond b (refused 6 0) (refused 9 0)) ≡ false
      go true = refl
      go false = refl

  module _ (m s m' s' : List ℕ) (t : Twins m s m' s') where
    abbrev T : Terms
    T = terms_of m

    abbrev U : Terms
    U = terms_of m'

    same_state : state_of s ≡ state_of s'
    same_state = state_cong s s' t.words

    same_named : named T j u v ≡ named U j u v
    same_named = λ d. ltb j (t.like.events d) && (ltb u (t.like.members d) && ltb v (t.like.members d))

    event_known : named T j u v ≡ true → j < T.events
    event_known n = ltb-true j T.events (and_left (ltb j T.events) _ n)

    same_decision : named T j u v ≡ true → decide_now T (state_of s) j u v ≡ decide_now U (state_of s') j u v
    same_decision n =
        decide_alike T U t.like (good m t.checked.good_terms) (state_of s) j u v (event_known n) ∙ ap (λ S. decide_now U S j u v) same_state

    same_given : (b : Bool) → named T j u v ≡ b → given T (state_of s) ≡ given U (state_of s')
    same_given true n =
        λ d. cond (ltb (length sc) scratch_words) (refused 6 0) (cond (not (same_named d)) (refused 9 0) (decided (cond (same_decision n d) grant deny)))
    same_given false n = let k : named U j u v ≡ false = sym same_named ∙ n in rw (n, k)

    same_answer : answer m s sc j u v ≡ answer m' s' sc j u v
    same_answer = answer-is m s t.checked ∙ same_given (named T j u v) refl ∙ sym (answer-is m' s' t.other)

    same_moves : moves (T.kept j) (answer m s sc j u v) ≡ moves (U.kept j) (answer m' s' sc j u v)
    same_moves = go (named T j u v) refl
      where
        go : (b : Bool) → named T j u v ≡ b → moves (T.kept j) (answer m s sc j u v) ≡ moves (U.kept j) (answer m' s' sc j u v)
        go true n = λ d. moves (t.like.kept j (event_known n) d) (same_answer d)
        go false n = unmoved m s t.checked n (T.kept j) ∙ sym (unmoved m' s' t.other (sym same_named ∙ n) (U.kept j))

    same_scratch : scratch_after m s sc j u v ≡ scratch_after m' s' sc j u v
    unfolding scratch_after
    same_scratch = ap (λ (b : Bool). cond b (replicate scratch_words 0 ++ drop scratch_words sc) sc) same_moves

    -- The states at the moment that a verdict makes.
    abbrev left_at : Bool → State
    left_at g = advance T (state_of s) (made T (state_of s).now g j u v)

    abbrev right_at : Bool → State
    right_at g = advance U (state_of s') (made U (state_of s').now g j u v)

    moved : named T j u v ≡ true → (g : Bool) → words_of T (left_at g) ≡ words_of U (right_at g)
    moved n g =
        let fine = good m t.checked.good_terms in
        state_alike T U t.like (left_at g)
        ∙ ap (words_of U) (advance_alike T U t.like fine (state_of s) (made T (state_of s).now g j u v)
        ∙ ap (advance U (state_of s)) (made_alike T U t.like fine (state_of s).now g j u v (event_known n))
        ∙ ap (λ (S : State). advance U S (made U S.now g j u v)) same_state)

    same_words : (i : ℕ) → i < state_words → get_or (state_after m s sc j u v) i 0 ≡ get_or (state_after m' s' sc j u v) i 0
    unfolding state_after
    same_words i l = rw (sym same_moves, sym same_answer) (go (moves (T.kept j) (answer m s sc j u v)) refl)
      where
        g : Bool
        g = granted (answer m s sc j u v)

        go : (b : Bool) → moves (T.kept j) (answer m s sc j u v) ≡ b →
            get_or (cond b (words_of T (left_at g) ++ drop state_words s) s) i 0 ≡ get_or (cond b (words_of U (right_at g) ++ drop state_words s') s') i 0
        go true e =
            let S : State = left_at g in
            let S' : State = right_at g in
            let n = (decided_says m s sc j u v (moves_decided (T.kept j) (answer m s sc j u v) e)).names in
            get_or-append (words_of T S) (drop state_words s) 0 i (omega (arith, length_words T S))
            ∙ ap (λ w. get_or w i 0) (moved n g)
            ∙ sym (get_or-append (words_of U S') (drop state_words s') 0 i (omega (arith, length_words U S')))
        go false e = t.words i l

    after_twins : Twins m (state_after m s sc j u v) m' (state_after m' s' sc j u v)
    after_twins = record {
      checked = after_checked m s sc j u v t.checked;
      other = after_checked m' s' sc j u v t.other;
      like = t.like;
      words = same_words;
    }

-- ---- set lists

module _ (m m' : List ℕ) where
  -- Records, count and scratch are the same, and the states are twins.
  record SameRun (x y : Run) : Type 0 where
    pub records : x.records ≡ y.records
    pub grants : x.grants ≡ y.grants
    pub states : Twins m x.state m' y.state
    pub scratch : x.scratch ≡ y.scratch

  same_run : (rs : List Record) (s s' sc : List ℕ) → Twins m s m' s' → SameRun (singly m s sc rs) (singly m' s' sc rs)
  unfolding singly
  same_run [] s s' sc t = record { records = refl; grants = refl; states = t; scratch = refl }
  same_run (r ∷ rs) s s' sc t =
      let j : ℕ = r.event in
      let u : ℕ = r.from in
      let v : ℕ = r.to in
      let a : answer m s sc j u v ≡ answer m' s' sc j u v = same_answer sc j u v m s m' s' t in
      let x : List ℕ = state_after m s sc j u v in
      let y : List ℕ = state_after m' s' sc j u v in
      let later : SameRun (singly m x (scratch_after m s sc j u v) rs) (singly m' y (scratch_after m' s' sc j u v) rs) =
      subst (λ z. SameRun (singly m x (scratch_after m s sc j u v) rs) (singly m' y z rs)) (same_scratch sc j u v m s m' s' t)
      (same_run rs x y (scratch_after m s sc j u v) (after_twins sc j u v m s m' s' t)) in
      record {
        records = ap₂ {C = List Record} (λ b qs. filled r b ∷ qs) a later.records;
        grants = ap₂ {C = ℕ} (λ b n. cond (granted b) 1 0 + n) a later.grants;
        states = later.states;
        scratch = later.scratch;
      }

  -- What a set list answers, and the states that it leaves.
  same_list : (sc : List ℕ) (rs : List Record) (s s' : List ℕ) → Twins m s m' s' →
      (answers_in (listed m s sc rs) (left m s sc rs).records ≡ answers_in (listed m' s' sc rs) (left m' s' sc rs).records)
      × Twins m (left m s sc rs).state m' (left m' s' sc rs).state
  unfolding listed left list_checks
  same_list sc rs s s' t =
      rw (sym (check_passed m s t.checked), sym (check_passed m' s' t.other)) (go (ltb (length sc) scratch_words))
    where
      r : SameRun (singly m s sc rs) (singly m' s' sc rs)
      r = same_run rs s s' sc t

      -- What the checks give where the scratch is short, and where it is not.
      check : Bool → Outcome
      check b = cond b (refusedOutcome 6 0) passed

      after : (m s : List ℕ) → Bool → Run
      after m s b = cond (has_passed (check b)) (singly m s sc rs) (record { records = rs; grants = 0; state = s; scratch = sc })

      go : (b : Bool) →
          (answers_in (listing (check b) (singly m s sc rs).grants) (after m s b).records
          ≡ answers_in (listing (check b) (singly m' s' sc rs).grants) (after m' s' b).records)
          × Twins m (after m s b).state m' (after m' s' b).state
      go true = (refl, t)
      go false = (ap₂ {C = List Answer} (λ n qs. answers_in (counted n) qs) r.grants r.records, r.states)

-- ---- new terms

module _ (m s m' s' : List ℕ) (t : Twins m s m' s') (new second : List ℕ) where
  abbrev Before : Terms
  Before = terms_of m

  abbrev Before' : Terms
  Before' = terms_of m'

  abbrev New : Terms
  New = terms_of new

  -- What is left of the checks where terms and state pass.
  abbrev offer : Bool → Outcome
  offer z =
      cond (ltb (length new) terms_words || ltb (length second) state_words) (refusedOutcome 6 0)
      (cond (not (good_memory new)) (refusedOutcome 7 0) (cond (not z) (refusedOutcome 13 0) passed))

  revises-is : (m s : List ℕ) → Checked m s → revises m s new second ≡ offer (same_size (terms_of m) New)
  unfolding revises
  revises-is m s c =
      rw (le-ltb (length m) terms_words c.long_terms, le-ltb (length s) state_words c.long_state, c.good_terms, c.good-state)

  same_revises : revises m s new second ≡ revises m' s' new second
  same_revises = revises-is m s t.checked ∙ ap offer (size_alike Before Before' t.like New) ∙ sym (revises-is m' s' t.other)

  same_revised : revised_state m s new second ≡ revised_state m' s' new second
  unfolding revised_state
  same_revised =
      ap (λ (o : Outcome). cond (has_passed o) (words_of New (revised Before (state_of s) New) ++ drop state_words second) second) same_revises
      ∙ ap (λ (S : State). cond (has_passed (revises m' s' new second)) (words_of New S ++ drop state_words second) second)
      (revised_alike Before Before' t.like (state_of s) New ∙ ap (λ (S : State). revised Before' S New) (state_cong s s' t.words))

  -- The second state passes the checks under the new terms.
  begun_checked : passed ≡ revises m s new second → Checked new (revised_state m s new second)
  unfolding revised_state
  begun_checked e =
      let r : Revisable m s new second = passed_revisable m s new second e in
      let S : State = revised Before (state_of s) New in
      let w : List ℕ = words_of New S in
      rw (sym e) (record {
        long_terms = r.long_new;
        long_state = omega (arith, length-append w (drop state_words second), length_words New S);
        good_terms = r.good_new;
        good-state = revised_good Before New (good m t.checked.good_terms) (good new r.good_new) (same_members Before New r.same) (same_relations Before New r.same) (same_events Before New r.same) s
            t.checked.good-state (drop state_words second);
      })

  abbrev TwinLent : Lent → Lent → Type 0
  TwinLent L K = Twins L.terms L.state K.terms K.state

  -- The memory in use afterwards.
  same_in_use : (b b' : List ℕ) →
      TwinLent (in_use (record { terms = m; state = s; before = b }) new second) (in_use (record { terms = m'; state = s'; before = b' }) new second)
  same_in_use b b' = go (revises m s new second) refl (revises m' s' new second) (sym same_revises)
    where
      go : (o : Outcome) → revises m s new second ≡ o → (o' : Outcome) → o' ≡ revises m s new second →
          TwinLent (cond (has_passed o) (record { terms = new; state = revised_state m s new second; before = second }) (record { terms = m; state = s; before = b }))
          (cond (has_passed o') (record { terms = new; state = revised_state m' s' new second; before = second }) (record { terms = m'; state = s'; before = b' }))
      go passed e o' e' =
          let k : Checked new (revised_state m s new second) = begun_checked (sym e) in
          rw (e' ∙ e) (record {
            checked = k;
            other = subst (Checked new) same_revised k;
            like = alike_refl New;
            words = λ i _. ap (λ (w : List ℕ). get_or w i 0) same_revised;
          })
      go (refusedOutcome n l) e o' e' = rw (e' ∙ e) t

-- ---- new numbers

module _ (m s m' s' : List ℕ) (t : Twins m s m' s') (numbers second : List ℕ) where
  -- What is left of the checks where terms and state pass.
  abbrev told_by : ℕ → Outcome
  told_by N = cond (ltb (length second) state_words) (refusedOutcome 6 0) (cond (not (renumbers N numbers)) (refusedOutcome 15 0) passed)

  numbers-is : (m s : List ℕ) → Checked m s → renumbering m s numbers second ≡ told_by (terms_of m).members
  unfolding renumbering
  numbers-is m s c =
      rw (le-ltb (length m) terms_words c.long_terms, le-ltb (length s) state_words c.long_state, c.good_terms, c.good-state)

  same_renumbering : renumbering m s numbers second ≡ renumbering m' s' numbers second
  same_renumbering = numbers-is m s t.checked ∙ ap told_by t.like.members ∙ sym (numbers-is m' s' t.other)

  same_renumbered : renumbered_state m s numbers second ≡ renumbered_state m' s' numbers second
  unfolding renumbered_state
  same_renumbered =
      ap (λ (o : Outcome). cond (has_passed o) (renumbered_words (terms_of m) numbers s ++ drop state_words second) second) same_renumbering
      ∙ ap (λ (w : List ℕ). cond (has_passed (renumbering m' s' numbers second)) (w ++ drop state_words second) second)
      (numbered_alike (terms_of m) (terms_of m') t.like numbers (state_of s)
      ∙ ap (λ (S : State). words_of (terms_of m') (state_by (terms_of m') numbers S)) (state_cong s s' t.words))

  -- The second state passes the checks.
  numbered_checked : renumbering m s numbers second ≡ passed → Checked m (renumbered_state m s numbers second)
  numbered_checked e =
      record {
        long_terms = t.checked.long_terms;
        long_state = omega (arith, second_long m s numbers second e, (renumbered_says m s numbers second e).long_second);
        good_terms = t.checked.good_terms;
        good-state = second_good m s numbers second e;
      }

  -- The memory in use afterwards.
  same_in_use_by : (b b' : List ℕ) →
      let L : Lent = in_use_by (record { terms = m; state = s; before = b }) numbers second in
      let K : Lent = in_use_by (record { terms = m'; state = s'; before = b' }) numbers second in
      Twins L.terms L.state K.terms K.state
  same_in_use_by b b' = go (renumbering m s numbers second) refl (renumbering m' s' numbers second) (sym same_renumbering)
    where
      after : List ℕ → List ℕ → List ℕ → Outcome → Lent
      after n w c o = cond (has_passed o) (record { terms = n; state = renumbered_state n w numbers second; before = second }) (record { terms = n; state = w; before = c })

      go : (o : Outcome) → renumbering m s numbers second ≡ o → (o' : Outcome) → o' ≡ renumbering m s numbers second →
          Twins (after m s b o).terms (after m s b o).state (after m' s' b' o').terms (after m' s' b' o').state
      go passed e o' e' =
          let k : Checked m (renumbered_state m s numbers second) = numbered_checked e in
          rw (e' ∙ e) (record {
            checked = k;
            other = record {
              long_terms = t.other.long_terms;
              long_state = subst (λ (w : List ℕ). state_words ≤ length w) same_renumbered k.long_state;
              good_terms = t.other.good_terms;
              good-state = second_good m' s' numbers second (sym same_renumbering ∙ e);
            };
            like = t.like;
            words = λ i _. ap (λ (w : List ℕ). get_or w i 0) same_renumbered;
          })
      go (refusedOutcome n l) e o' e' = rw (e' ∙ e) t

-- ---- any list of steps

module _ (m m' : List ℕ) where
  leaves_twins : (c : LentCall) (s s' : List ℕ) → Twins m s m' s' → Twins m (leaves m s c) m' (leaves m' s' c)
  leaves_twins c s s' t = go c.look
    where
      go : (l : Bool) → Twins m (cond l s (state_after m s c.scratch c.event c.from c.to)) m' (cond l s' (state_after m' s' c.scratch c.event c.from c.to))
      go true = t
      go false = after_twins c.scratch c.event c.from c.to m s m' s' t

pub same_steps : (ss : List LentStep) (L K : Lent) → Twins L.terms L.state K.terms K.state → (serve_steps L ss).0 ≡ (serve_steps K ss).0
unfolding serve_steps
same_steps [] L K t = refl
same_steps (once c ∷ ss) L K t =
    ap₂ ◌∷◌ (same_answer c.scratch c.event c.from c.to L.terms L.state K.terms K.state t)
    (same_steps ss (with_state L (leaves L.terms L.state c)) (with_state K (leaves K.terms K.state c)) (leaves_twins L.terms K.terms c L.state K.state t))
same_steps (set_list sc rs ∷ ss) L K t =
    let r = same_list L.terms K.terms sc rs L.state K.state t in
    ap₂ ◌++◌ r.0 (same_steps ss (with_state L (left L.terms L.state sc rs).state) (with_state K (left K.terms K.state sc rs).state) r.1)
same_steps (revise new second ∷ ss) L K t =
    ap₂ ◌∷◌ (ap outcome_in (same_revises L.terms L.state K.terms K.state t new second))
    (same_steps ss (in_use L new second) (in_use K new second) (same_in_use L.terms L.state K.terms K.state t new second L.before K.before))
same_steps (renumber numbers second ∷ ss) L K t =
    ap₂ ◌∷◌ (ap outcome_in (same_renumbering L.terms L.state K.terms K.state t numbers second))
    (same_steps ss (in_use_by L numbers second) (in_use_by K numbers second)
    (same_in_use_by L.terms L.state K.terms K.state t numbers second L.before K.before))
