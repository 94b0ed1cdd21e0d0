-- Memory and the same memory renumbered: renumbered steps over the second get the answers of the first, whether
-- or not it is true of a record.
use Prim.Native.Nat.{ℕ, ◌≤◌, ◌<◌}
use native.Mathlib.Omega.{arith}
use mathlib.Core.Path.{◌≡◌, refl, sym, ap, ap₂, subst, ◌∙◌}
use mathlib.Core.Bool.{Bool, true, false, cond, not}
use mathlib.Core.List.{List, [], ◌∷◌, ◌++◌, map}
use lib.Dec.{ltb}
use lib.ListN.{length, drop, take, length-append, length-drop}
use lib.Seq.{take_at}
use borrow.Author.Tests.{le-ltb, lt-ltb, ltb-true, ltb-false}
use Rattle.sets.proofs.Finite.{and_left, and_right}
use Rattle.theory.specs.Formula.{number, columns}
use Rattle.theory.specs.Columns.{inside, word_under, bit_under}
use Rattle.theory.specs.Terms.{Terms, formula}
use Rattle.theory.specs.Moment.{Moment}
use Rattle.theory.specs.Keeper.{Answer}
use Rattle.theory.specs.Keeper.Verdict.{grant, deny}
use Rattle.theory.specs.Keeper.Answer.{decided, refused}
use Rattle.theory.specs.Limits.{scratch_words}
use Rattle.theory.specs.Tables.{State, named, decide_now, made, advance}
use Rattle.memory.specs.Layout.{terms_words, state_words, terms_of, state_of, table_columns, words_of}
use Rattle.memory.specs.Checks.{good_memory, good_state, Inside}
use Rattle.memory.specs.Outcome.{Outcome, has_passed, checks}
use Rattle.memory.specs.Outcome.Outcome.{passed, refused as refusedOutcome}
use Rattle.calls.specs.Monitor.{answer, granted, is_decided, moves, state_after, scratch_after}
use Rattle.calls.specs.SetList.{Run, singly, list_checks, answer_number, listing, listed, left}
use Rattle.calls.specs.Agreement.{leaves, LentStep, KeepsTerms, Lent, answer_in, answers_in, serve_steps}
use Rattle.calls.specs.Agreement.LentStep.{once, set_list, revise, renumber}
use Rattle.calls.specs.declared.Record.{Record}
use Rattle.theory.proofs.Unfolding.{number_lt}
use Rattle.theory.proofs.Past.{past_is}
use Rattle.theory.proofs.MembersPlaces.{under_inside}
use Rattle.memory.proofs.Accepted.{good}
use Rattle.memory.proofs.Inside.{made_inside, state_inside}
use Rattle.memory.proofs.Front.{state_front, good_front}
use Rattle.memory.proofs.Outcomes.{check_passed}
use Rattle.memory.proofs.Words.{length_words, now_back, table_back}
use Rattle.calls.proofs.LayoutKept.{level_good}
use Rattle.calls.proofs.Answers.{moves_decided, decided_says}
use Rattle.calls.proofs.OneByOne.{after_good, after_long}
use Rattle.theory.specs.NewNumbers.{new_number, old_number, renumbers, renumber_moment}
use Rattle.theory.specs.MembersRenumbered.{state_by, Renumbering}
use Rattle.theory.specs.Fit.{Good}
use Rattle.calls.specs.Renumbering.{undo, renumbering, renumbered_words, renumbered_state}
use Rattle.calls.specs.MembersLater.{call_by, record_by, step_by}
use Rattle.theory.proofs.MembersRenumbered.{made_renumbered}
use Rattle.calls.proofs.MembersNumbers.{renumbering as numbered, undo_renumbers}
use Rattle.calls.proofs.MembersCarried.{Matched, decide_matched, advance_matched}
use Rattle.calls.proofs.MembersWords.{inside_renumbered, renumbered_good, renumbered_matched, renumbered_undone}
use Rattle.calls.proofs.MembersOutcomes.{Renumbered, renumbered_says, right_numbers, second_filled}

module _ (N : ℕ) (p q : ℕ → ℕ) (r : Renumbering N p q) where
  pub same_below : (m : ℕ) → ltb (p m) N ≡ ltb m N
  same_below m = go (ltb m N) refl
    where
      go : (c : Bool) → ltb m N ≡ c → ltb (p m) N ≡ c
      go true e = lt-ltb (p m) N (r.new m (ltb-true m N e))
      go false e = stays (ltb (p m) N) refl
        where
          stays : (c : Bool) → ltb (p m) N ≡ c → ltb (p m) N ≡ false
          stays true f = absurd (let l : q (p m) < N = r.old (p m) (ltb-true (p m) N f) in let z = r.back m in let g = ltb-false m N e in omega arith)
          stays false f = f

module _ (T : Terms) (fine : Good T) (p q : ℕ → ℕ) (r : Renumbering T.members p q) where
  named_renumbered : (j u v : ℕ) → named T j (p u) (p v) ≡ named T j u v
  named_renumbered j u v = rw (same_below T.members p q r u, same_below T.members p q r v)

  -- The words of matched states hold matched states.
  matched_words : (S S' : State) → Matched T fine p q r S S' → Inside T S.now → (rest rest' : List ℕ) → good_state T (words_of T S ++ rest) ≡ true →
      Matched T fine p q r (state_of (words_of T S ++ rest)) (state_of (words_of T S' ++ rest'))
  matched_words S S' m i rest rest' g =
      let front : state_words ≤ length (words_of T S) = omega (arith, length_words T S) in
      let front' : state_words ≤ length (words_of T S') = omega (arith, length_words T S') in
      let lev = level_good T fine (words_of T S) (sym (good_front (words_of T S) rest front T fine) ∙ g) in
      rw (state_front (words_of T S) rest front, state_front (words_of T S') rest' front') (record {
        now = now_back T fine S' (subst (Inside T) (sym m.now) (inside_renumbered T fine p q r S.now i)) ∙ m.now ∙ ap (renumber_moment p q) (sym (now_back T fine S i));
        tables = λ n l e i k o.
            let cs : List ℕ = columns (formula T n) in
            let tl = number_lt T.entry n T.entries l e in
            let at : (i k : ℕ) → inside T.members cs i k ≡ true → inside T.members (table_columns T (number T.entry n)) i k ≡ true =
            λ i k. subst (λ d. inside T.members (columns (formula T d)) i k ≡ true) (sym (past_is T n l e)) in
            table_back T fine S' (number T.entry n) i k tl (at i k o) ∙ m.tables n l e i k o
            ∙ sym (table_back T fine S (number T.entry n) (word_under cs q i k) (bit_under cs q i k) tl
            (at (word_under cs q i k) (bit_under cs q i k) (under_inside T.members q r.old cs i k ((fine.entry n l).columns-fit e) o)));
        level = lev;
      })

advance_inside : (T : Terms) (S : State) (M : Moment) → Inside T M → Inside T (advance T S M).now
unfolding advance
advance_inside T S M i = i

-- Memory m, and m' that holds the same renumbered.
module _ (terms : List ℕ) (long_terms : terms_words ≤ length terms) (good_terms : good_memory terms ≡ true)
    (numbers : List ℕ) (ok : renumbers (terms_of terms).members numbers ≡ true)
  where
    abbrev T : Terms
    T = terms_of terms

    abbrev fine : Good T
    fine = good terms good_terms

    abbrev p : ℕ → ℕ
    p = new_number numbers

    abbrev q : ℕ → ℕ
    q = old_number (terms_of terms).members numbers

    abbrev r : Renumbering (terms_of terms).members p q
    r = numbered (terms_of terms).members numbers ok

    pub record Alike (m m' : List ℕ) : Type 0 where
      pub long : state_words ≤ length m
      pub long' : state_words ≤ length m'
      pub is_good : good_state T m ≡ true
      pub is_good' : good_state T m' ≡ true
      pub matched : Matched T fine p q r (state_of m) (state_of m')

    module _ (m m' scratch : List ℕ) (h : Alike m m') (j u v : ℕ) where
      under_named : (n : Bool) {a b : Bool} → (n ≡ true → a ≡ b) →
          ◌≡◌ {A = Answer} (cond (not n) (refused 9 0) (decided (cond a grant deny))) (cond (not n) (refused 9 0) (decided (cond b grant deny)))
      under_named true e = ap (λ (x : Bool). decided (cond x grant deny)) (e refl)
      under_named false e = refl

      same_decision : named T j u v ≡ true → decide_now T (state_of m') j (p u) (p v) ≡ decide_now T (state_of m) j u v
      same_decision n =
          decide_matched T fine p q r (state_of m) (state_of m') h.matched j u v
          (ltb-true j T.events (and_left (ltb j T.events) _ n))
          (ltb-true u T.members (and_left (ltb u T.members) _ (and_right (ltb j T.events) _ n)))
          (ltb-true v T.members (and_right (ltb u T.members) _ (and_right (ltb j T.events) _ n)))

      same_answer : answer terms m' scratch j (p u) (p v) ≡ answer terms m scratch j u v
      unfolding answer
      same_answer =
          rw (
            le-ltb (length terms) terms_words long_terms,
            le-ltb (length m) state_words h.long,
            le-ltb (length m') state_words h.long',
            good_terms,
            h.is_good,
            h.is_good',
            named_renumbered T fine p q r j u v,
          ) (ap (cond (ltb (length scratch) scratch_words) (refused 6 0)) (under_named (named T j u v) same_decision))

      abbrev move : Moment
      move = made T (state_of m).now (granted (answer terms m scratch j u v)) j u v

      same_scratch : scratch_after terms m' scratch j (p u) (p v) ≡ scratch_after terms m scratch j u v
      unfolding scratch_after
      same_scratch = rw same_answer

      same_move : made T (state_of m').now (granted (answer terms m' scratch j (p u) (p v))) j (p u) (p v) ≡ renumber_moment p q move
      same_move =
          ap₂ (λ (M : Moment) (g : Bool). made T M g j (p u) (p v)) h.matched.now (ap granted same_answer)
          ∙ made_renumbered T p q r (state_of m).now (granted (answer terms m scratch j u v)) j u v

      move_inside : is_decided (answer terms m scratch j u v) ≡ true → Inside T move
      move_inside e =
          let n = (decided_says terms m scratch j u v e).names in
          made_inside T fine (state_of m).now (state_inside T m h.is_good) (granted (answer terms m scratch j u v)) j u v
          (ltb-true j T.events (and_left (ltb j T.events) _ n))
          (ltb-true u T.members (and_left (ltb u T.members) _ (and_right (ltb j T.events) _ n)))
          (ltb-true v T.members (and_right (ltb u T.members) _ (and_right (ltb j T.events) _ n)))

      matched_after : Matched T fine p q r (state_of (state_after terms m scratch j u v)) (state_of (state_after terms m' scratch j (p u) (p v)))
      unfolding state_after
      matched_after = rw (same_move, same_answer) (go (moves (T.kept j) (answer terms m scratch j u v)) refl (after_good terms m scratch j u v good_terms h.is_good))
        where
          go : (b : Bool) → moves (T.kept j) (answer terms m scratch j u v) ≡ b →
              good_state T (cond b (words_of T (advance T (state_of m) move) ++ drop state_words m) m) ≡ true →
              Matched T fine p q r
              (state_of (cond b (words_of T (advance T (state_of m) move) ++ drop state_words m) m))
              (state_of (cond b (words_of T (advance T (state_of m') (renumber_moment p q move)) ++ drop state_words m') m'))
          go true e g =
              matched_words T fine p q r (advance T (state_of m) move) (advance T (state_of m') (renumber_moment p q move))
              (advance_matched T fine p q r (state_of m) (state_of m') h.matched move)
              (advance_inside T (state_of m) move (move_inside (moves_decided (T.kept j) (answer terms m scratch j u v) e))) (drop state_words m) (drop state_words m') g
          go false e g = h.matched

      alike_after : Alike (state_after terms m scratch j u v) (state_after terms m' scratch j (p u) (p v))
      alike_after = record {
        long = omega (arith, after_long terms m scratch j u v h.long, h.long);
        long' = omega (arith, after_long terms m' scratch j (p u) (p v) h.long', h.long');
        is_good = after_good terms m scratch j u v good_terms h.is_good;
        is_good' = after_good terms m' scratch j (p u) (p v) good_terms h.is_good';
        matched = matched_after;
      }

    -- ---- set lists, and lists of steps

    abbrev told : List Record → List Answer
    told rs = map (λ (x : Record). answer_in x.answer) rs

    alike_singly : (rs : List Record) (m m' scratch : List ℕ) → Alike m m' →
        (told (singly terms m' scratch (map (record_by numbers) rs)).records ≡ told (singly terms m scratch rs).records)
        × Alike (singly terms m scratch rs).state (singly terms m' scratch (map (record_by numbers) rs)).state
    unfolding singly
    alike_singly [] m m' scratch h = (refl, h)
    alike_singly (x ∷ rs) m m' scratch h =
        let j : ℕ = x.event in
        let u : ℕ = x.from in
        let v : ℕ = x.to in
        let A : List ℕ = state_after terms m scratch j u v in
        let A' : List ℕ = state_after terms m' scratch j (p u) (p v) in
        let B : List ℕ = scratch_after terms m scratch j u v in
        let later = subst (λ (w : List ℕ).
        (told (singly terms A' w (map (record_by numbers) rs)).records ≡ told (singly terms A B rs).records)
        × Alike (singly terms A B rs).state (singly terms A' w (map (record_by numbers) rs)).state) (sym (same_scratch m m' scratch h j u v))
        (alike_singly rs A A' B (alike_after m m' scratch h j u v)) in
        (ap₂ (λ (a : Answer) (l : List Answer). answer_in (answer_number a) ∷ l) (same_answer m m' scratch h j u v) later.0, later.1)

    checked-is : (m : List ℕ) → state_words ≤ length m → good_state T m ≡ true → checks terms m ≡ passed
    checked-is m l g = sym (check_passed terms m (record { long_terms = long_terms; long_state = l; good_terms = good_terms; good-state = g }))

    map_told : (n l : ℕ) (rs : List Record) → map (λ (x : Record). refused n l) (map (record_by numbers) rs) ≡ map (λ (x : Record). refused n l) rs
    map_told n l [] = refl
    map_told n l (x ∷ rs) = ap (λ (xs : List Answer). refused n l ∷ xs) (map_told n l rs)

    alike_list : (scratch : List ℕ) (rs : List Record) (m m' : List ℕ) → Alike m m' →
        (answers_in (listed terms m' scratch (map (record_by numbers) rs)) (left terms m' scratch (map (record_by numbers) rs)).records
        ≡ answers_in (listed terms m scratch rs) (left terms m scratch rs).records)
        × Alike (left terms m scratch rs).state (left terms m' scratch (map (record_by numbers) rs)).state
    unfolding listed left list_checks
    alike_list scratch rs m m' h = rw (checked-is m h.long h.is_good, checked-is m' h.long' h.is_good') (go (ltb (length scratch) scratch_words))
      where
        ran : List ℕ → List Record → Outcome → Run
        ran w xs o = cond (has_passed o) (singly terms w scratch xs) (record { records = xs; grants = 0; state = w; scratch = scratch })

        go : (b : Bool) →
            (answers_in (listing (cond b (refusedOutcome 6 0) passed) (singly terms m' scratch (map (record_by numbers) rs)).grants) (ran m' (map (record_by numbers) rs) (cond b (refusedOutcome 6 0) passed)).records
            ≡ answers_in (listing (cond b (refusedOutcome 6 0) passed) (singly terms m scratch rs).grants) (ran m rs (cond b (refusedOutcome 6 0) passed)).records)
            × Alike (ran m rs (cond b (refusedOutcome 6 0) passed)).state (ran m' (map (record_by numbers) rs) (cond b (refusedOutcome 6 0) passed)).state
        go true = (map_told 6 0 rs, h)
        go false = alike_singly rs m m' scratch h

    alike_leaves : (l : Bool) (a b c d : List ℕ) → Alike a b → Alike c d → Alike (cond l a c) (cond l b d)
    alike_leaves true a b c d h k = h
    alike_leaves false a b c d h k = k

    -- The memory in use, with these terms.
    abbrev in_hand : (m before : List ℕ) → Lent
    in_hand m before = record { terms = terms; state = m; before = before }

    alike_steps : (ss : List LentStep) → KeepsTerms ss → (m m' before before' : List ℕ) → Alike m m' →
        (serve_steps (in_hand m' before') (map (step_by numbers) ss)).0 ≡ (serve_steps (in_hand m before) ss).0
    unfolding serve_steps
    alike_steps [] k m m' before before' h = refl
    alike_steps (once c ∷ ss) k m m' before before' h =
        ap₂ ◌∷◌ (same_answer m m' c.scratch h c.event c.from c.to)
        (alike_steps ss k (leaves terms m c) (leaves terms m' (call_by numbers c)) before before'
        (alike_leaves c.look m m' _ _ h (alike_after m m' c.scratch h c.event c.from c.to)))
    alike_steps (set_list scratch rs ∷ ss) k m m' before before' h =
        let now = alike_list scratch rs m m' h in
        ap₂ ◌++◌ now.0 (alike_steps ss k (left terms m scratch rs).state (left terms m' scratch (map (record_by numbers) rs)).state before before' now.1)
    alike_steps (revise new second ∷ ss) k m m' before before' h = absurd k
    alike_steps (renumber ns second ∷ ss) k m m' before before' h = absurd k

-- ---- the theorems

module _ (terms state numbers second : List ℕ) (e : renumbering terms state numbers second ≡ passed) where
  abbrev known : Renumbered terms state numbers second
  known = renumbered_says terms state numbers second e

  abbrev N : ℕ
  N = (terms_of terms).members

  filled : renumbered_state terms state numbers second ≡ renumbered_words (terms_of terms) numbers state ++ drop state_words second
  filled = sym (second_filled terms state numbers second (sym e))

  front : state_words ≤ length (renumbered_words (terms_of terms) numbers state)
  front = omega (arith, length_words (terms_of terms) (state_by (terms_of terms) numbers (state_of state)))

  pub second_good : good_state (terms_of terms) (renumbered_state terms state numbers second) ≡ true
  second_good =
      rw filled (good_front (renumbered_words (terms_of terms) numbers state) (drop state_words second) front (terms_of terms) (good terms known.checked.good_terms)
      ∙ renumbered_good (terms_of terms) (good terms known.checked.good_terms) numbers known.right state known.checked.long_state known.checked.good-state)

  pub second_long : length (renumbered_state terms state numbers second) ≡ length second
  second_long =
      rw filled (length-append (renumbered_words (terms_of terms) numbers state) (drop state_words second)
      ∙ omega (arith, length_words (terms_of terms) (state_by (terms_of terms) numbers (state_of state)), length-drop state_words second, known.long_second))

  alike : Alike terms known.checked.long_terms known.checked.good_terms numbers known.right state (renumbered_state terms state numbers second)
  alike = record {
    long = known.checked.long_state;
    long' = omega (arith, second_long, known.long_second);
    is_good = known.checked.good-state;
    is_good' = second_good;
    matched = rw (filled, state_front (renumbered_words (terms_of terms) numbers state) (drop state_words second) front)
        (renumbered_matched (terms_of terms) (good terms known.checked.good_terms) numbers known.right state known.checked.long_state known.checked.good-state);
  }

  -- Renumbering the state and all later requests gives the same answers: of every state that is accepted, true of a
  -- record or not, and of every list of requests, looks and set lists, with any numbers and any scratch.
  pub renumbered_answers : (ss : List LentStep) → KeepsTerms ss → (before before' : List ℕ) →
      (serve_steps (record { terms = terms; state = renumbered_state terms state numbers second; before = before' }) (map (step_by numbers) ss)).0
      ≡ (serve_steps (record { terms = terms; state = state; before = before }) ss).0
  renumbered_answers ss k before before' =
      alike_steps terms known.checked.long_terms known.checked.good_terms numbers known.right ss k state (renumbered_state terms state numbers second) before before' alike

  -- Undoing it gives the first state back, word for word, before the further words of the memory that is lent for it.
  pub renumbering_undone : (third : List ℕ) → state_words ≤ length third →
      (renumbering terms (renumbered_state terms state numbers second) (undo N numbers) third ≡ passed)
      × (renumbered_state terms (renumbered_state terms state numbers second) (undo N numbers) third ≡ take state_words state ++ drop state_words third)
  renumbering_undone third long =
      let done : passed ≡ renumbering terms (renumbered_state terms state numbers second) (undo N numbers) third =
      right_numbers terms (renumbered_state terms state numbers second) (undo N numbers) third long
      (record {
        long_terms = known.checked.long_terms;
        long_state = omega (arith, second_long, known.long_second);
        good_terms = known.checked.good_terms;
        good-state = second_good;
      }) (undo_renumbers N numbers known.right) in
      let w : List ℕ = renumbered_words (terms_of terms) (undo N numbers) (renumbered_words (terms_of terms) numbers state) in
      let back : state ≡ w ++ drop state_words state =
      renumbered_undone (terms_of terms) (good terms known.checked.good_terms) numbers known.right state known.checked.long_state known.checked.good-state in
      let size : length w ≡ state_words =
      length_words (terms_of terms) (state_by (terms_of terms) (undo N numbers) (state_of (renumbered_words (terms_of terms) numbers state))) in (
        sym done,
        sym (second_filled terms (renumbered_state terms state numbers second) (undo N numbers) third done)
            ∙ ap (λ (S : State). words_of (terms_of terms) (state_by (terms_of terms) (undo N numbers) S) ++ drop state_words third)
            (ap state_of filled ∙ state_front (renumbered_words (terms_of terms) numbers state) (drop state_words second) front)
            ∙ ap (λ (l : List ℕ). l ++ drop state_words third) (sym (ap (take state_words) back ∙ take_at w (drop state_words state) state_words size)),
      )
