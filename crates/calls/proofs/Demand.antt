-- Demand 3: over any list of calls, set lists, new terms and new numbers the monitor answers as the keeper of the whole
-- record does, and its memory agrees with the keeper's list.
use Prim.Native.Nat.{ℕ, ◌≤◌, ◌<◌}
use native.Mathlib.Omega.{arith}
use mathlib.Core.Path.{◌≡◌, refl, sym, ap, ap₂, ◌∙◌, subst}
use mathlib.Core.List.{List, [], ◌∷◌, ◌++◌, map, append-nil}
use mathlib.Core.Bool.{Bool, true, false, cond, not, ◌||◌, true≢false}
use lib.Dec.{ltb}
use lib.ListN.{length, drop, length-append}
use borrow.Author.Tests.{le-ltb, ltb-true, ltb-false}
use Rattle.theory.specs.Meaning.{Starts, from_first}
use Rattle.theory.specs.Terms.{Terms, same_size, Alike}
use Rattle.theory.specs.Moment.{Relations, Moment, first}
use Rattle.theory.specs.Keeper.{Call, Answer, Book, Step, judge, keep, keep_all, keeper, with_moments, revised_start, revised_book, renumbered_book, keep_step, keep_steps}
use Rattle.theory.specs.Keeper.Step.{call, revise as reviseStep, renumber as renumberStep}
use Rattle.theory.specs.Keeper.Answer.{done, refused}
use Rattle.theory.specs.NewNumbers.{new_number, old_number, renumbers, moment_by}
use Rattle.theory.specs.MembersRenumbered.{state_by}
use Rattle.theory.specs.Limits.{scratch_words}
use Rattle.memory.specs.Layout.{terms_words, state_words, terms_of, state_of, words_of}
use Rattle.memory.specs.Checks.{good_memory}
use Rattle.theory.specs.Tables.{State, opening, revised}
use Rattle.theory.specs.Fit.{Good}
use Rattle.memory.specs.Outcome.{opens, revises}
use Rattle.memory.specs.Outcome.Outcome.{passed, refused as refusedOutcome}
use Rattle.calls.specs.Monitor.{answer, state_after, scratch_after, opened_state}
use Rattle.calls.specs.SetList.{singly, list_checks, listed, left}
use Rattle.calls.specs.Revising.{revised_state}
use Rattle.calls.specs.Renumbering.{renumbering, renumbered_state}
use Rattle.calls.specs.Agreement.{LentCall, fed, fed_all, leaves, serve_all, LentStep, fed_record, offered, fed_steps, KeepsTerms, fed_calls, answer_in, answers_in, outcome_in, Lent, with_state, in_use, in_use_by, serve_steps, Agrees, opened_book, opened}
use Rattle.calls.specs.Agreement.LentStep.{once, set_list, revise, renumber}
use Rattle.calls.specs.declared.Record.{Record}
use Rattle.memory.proofs.Accepted.{good}
use Rattle.theory.proofs.RunInvariant.{Kept, opening_kept}
use Rattle.theory.proofs.AlikeTerms.{alike_refl, alike_sym, good_alike, keep_alike, keep_all_alike, start_alike, size_alike}
use Rattle.theory.proofs.Size.{same_members, same_relations, same_events}
use Rattle.theory.proofs.Revised.{revised_kept}
use Rattle.theory.proofs.MembersRenumbered.{renumbered_kept}
use Rattle.memory.proofs.Inside.{relations_inside, state_inside}
use Rattle.memory.proofs.Outcomes.{Checked, check_passed}
use Rattle.calls.proofs.LayoutKept.{relations_good, inside_size}
use Rattle.calls.proofs.MemoryInvariant.{Held, held_words, agrees}
use Rattle.memory.proofs.Front.{state_front, relations_front}
use Rattle.memory.proofs.Words.{length_words, now_back}
use Rattle.calls.proofs.Refused.{Opens, opened_says}
use Rattle.calls.proofs.OneCall.{step}
use Rattle.calls.proofs.MembersNumbers.{renumbering as numbered}
use Rattle.calls.proofs.MembersWords.{inside_renumbered}
use Rattle.calls.proofs.MembersOutcomes.{short_second, wrong_numbers, right_numbers, second_filled}
use Rattle.calls.proofs.ListChecks.{list_short, list_checked}
use Rattle.calls.proofs.OneByOne.{answer_back, after_scratch}

pub or_false_left : (a b : Bool) → (a || b) ≡ false → a ≡ false
or_false_left false b e = refl
or_false_left true b e = e

pub or_false_right : (a b : Bool) → (a || b) ≡ false → b ≡ false
or_false_right false b e = e
or_false_right true b e = absurd (true≢false e)

-- The keeper of two lists of calls, one after the other.
pub calls_on : (T : Terms) (s : Starts) (Ms : List Moment) (xs ys : List Call) →
    keep_all T s Ms (xs ++ ys) ≡ ((keep_all T s Ms xs).0 ++ (keep_all T s (keep_all T s Ms xs).1 ys).0, (keep_all T s (keep_all T s Ms xs).1 ys).1)
unfolding keep_all
calls_on T s Ms [] ys = refl
calls_on T s Ms (x ∷ xs) ys = ap (λ (k : List Answer × List Moment). ((keep T s Ms x).0 ∷ k.0, k.1)) (calls_on T s (keep T s Ms x).1 xs ys)

-- The keeper of two lists of steps, of which the first is calls.
keep_on : (B : Book) (cs : List Call) (xs : List Step) →
    keep_steps B (map call cs ++ xs)
    ≡ (
      (keep_all B.terms B.start B.moments cs).0 ++ (keep_steps (with_moments B (keep_all B.terms B.start B.moments cs).1) xs).0,
      (keep_steps (with_moments B (keep_all B.terms B.start B.moments cs).1) xs).1,
    )
unfolding keep_steps keep_step keep_all
keep_on B [] xs = refl
keep_on B (c ∷ cs) xs =
    ap (λ (k : List Answer × Book). ((keep B.terms B.start B.moments c).0 ∷ k.0, k.1))
    (keep_on (with_moments B (keep B.terms B.start B.moments c).1) cs xs)

pub keep_calls : (B : Book) (cs : List Call) →
    keep_steps B (map call cs)
    ≡ ((keep_all B.terms B.start B.moments cs).0, with_moments B (keep_all B.terms B.start B.moments cs).1)
unfolding keep_steps keep_step keep_all
keep_calls B [] = refl
keep_calls B (c ∷ cs) =
    ap (λ (k : List Answer × Book). ((keep B.terms B.start B.moments c).0 ∷ k.0, k.1))
    (keep_calls (with_moments B (keep B.terms B.start B.moments c).1) cs)

-- With too little scratch the keeper refuses each request.
keep_short : (T : Terms) (s : Starts) (Ms : List Moment) (n : ℕ) → ltb n scratch_words ≡ true → (rs : List Record) →
    keep_all T s Ms (map (fed_record n) rs) ≡ (map (λ (r : Record). refused 6 0) rs, Ms)
unfolding keep_all keep judge
keep_short T s Ms n h [] = refl
keep_short T s Ms n h (r ∷ rs) =
    let e : keep T s Ms (fed_record n r) ≡ (refused 6 0, Ms) = rw h (ap (λ (Ns : List Moment). (refused 6 0, Ns)) (append-nil Ms)) in
    ap (λ (k : Answer × List Moment). (k.0 ∷ (keep_all T s k.1 (map (fed_record n) rs)).0, (keep_all T s k.1 (map (fed_record n) rs)).1)) e
    ∙ ap (λ (k : List Answer × List Moment). (refused 6 0 ∷ k.0, k.1)) (keep_short T s Ms n h rs)

module _ (terms : List ℕ) (long_terms : terms_words ≤ length terms) (fine : Good (terms_of terms)) (good_terms : good_memory terms ≡ true)
    (s : Starts) (m₀ : List ℕ) (long : state_words ≤ length m₀)
  where
    abbrev T : Terms
    T = terms_of terms

    -- The records of a set list, one after another, over n words of scratch.
    run_records : (rs : List Record) (n : ℕ) (m scratch : List ℕ) (Ms : List Moment) → scratch_words ≤ n → length scratch ≡ n → Held T s fine m₀ m Ms →
        (map (λ (r : Record). answer_in r.answer) (singly terms m scratch rs).records ≡ (keep_all T s Ms (map (fed_record n) rs)).0)
        × Held T s fine m₀ (singly terms m scratch rs).state (keep_all T s Ms (map (fed_record n) rs)).1
    unfolding singly keep_all
    run_records [] n m scratch Ms l e h = (refl, h)
    run_records (r ∷ rs) n m scratch Ms l e h =
        let after : List ℕ = state_after terms m scratch r.event r.from r.to in
        let now = subst (λ (k : ℕ).
        (answer terms m scratch r.event r.from r.to ≡ (keep T s Ms (fed_record k r)).0) × Held T s fine m₀ after (keep T s Ms (fed_record k r)).1) e
        (step terms long_terms fine good_terms s m₀ m long Ms h (record { look = false; event = r.event; from = r.from; to = r.to; scratch = scratch })) in
        let later = run_records rs n after (scratch_after terms m scratch r.event r.from r.to) (keep T s Ms (fed_record n r)).1 l
        (after_scratch terms m scratch r.event r.from r.to (omega (arith, l, e)) ∙ e) now.1 in
        (ap₂ ◌∷◌ (answer_back terms m scratch r.event r.from r.to ∙ now.0) later.0, later.1)

    -- A set list: refused as a whole where the scratch is too short, else its records one after another.
    run_list : (scratch : List ℕ) (rs : List Record) (m : List ℕ) (Ms : List Moment) → Held T s fine m₀ m Ms →
        (answers_in (listed terms m scratch rs) (left terms m scratch rs).records ≡ (keep_all T s Ms (map (fed_record (length scratch)) rs)).0)
        × Held T s fine m₀ (left terms m scratch rs).state (keep_all T s Ms (map (fed_record (length scratch)) rs)).1
    unfolding listed left
    run_list scratch rs m Ms h = go (ltb (length scratch) scratch_words) refl
      where
        go : (b : Bool) → ltb (length scratch) scratch_words ≡ b →
            (answers_in (listed terms m scratch rs) (left terms m scratch rs).records ≡ (keep_all T s Ms (map (fed_record (length scratch)) rs)).0)
            × Held T s fine m₀ (left terms m scratch rs).state (keep_all T s Ms (map (fed_record (length scratch)) rs)).1
        go true z =
            let e : list_checks terms m scratch ≡ refusedOutcome 6 0 = sym (list_short terms m scratch (ltb-true (length scratch) scratch_words z)) in
            rw (e, keep_short T s Ms (length scratch) z rs) (refl, h)
        go false z =
            let l : scratch_words ≤ length scratch = ltb-false (length scratch) scratch_words z in
            let e : list_checks terms m scratch ≡ passed = sym (check_passed terms m (record {
              long_terms = long_terms;
              long_state = omega (arith, long, h.long);
              good_terms = good_terms;
              good-state = h.good;
            }) ∙ list_checked terms m scratch l) in
            rw e (run_records rs (length scratch) m scratch Ms l refl h)

-- ---- any step, over the memory in use

-- The memory in use holds what the book says: its terms are alike the keeper's, and the state is held.
pub record Playing (B : Book) (L : Lent) : Type 0 where
  pub like : Alike B.terms (terms_of L.terms)
  pub long : terms_words ≤ length L.terms
  pub good-memory : good_memory L.terms ≡ true
  pub room : state_words ≤ length L.before
  pub held : Held (terms_of L.terms) B.start (good L.terms good-memory) L.before L.state B.moments

module _ (B : Book) (L : Lent) (p : Playing B L) where
  abbrev U : Terms
  U = terms_of L.terms

  abbrev fine : Good U
  fine = good L.terms p.good-memory

  pub keeper_good : Good B.terms
  keeper_good = good_alike U B.terms (alike_sym p.like) fine

  -- The same terms, another state and list.
  moved_on : (m : List ℕ) (Ms : List Moment) → Held U B.start fine L.before m Ms → Playing (with_moments B Ms) (with_state L m)
  moved_on m Ms h = record { like = p.like; long = p.long; good-memory = p.good-memory; room = p.room; held = h }

  play_once : (c : LentCall) →
      (answer L.terms L.state c.scratch c.event c.from c.to ≡ (keep_step B (call (fed c))).0)
      × Playing (keep_step B (call (fed c))).1 (with_state L (leaves L.terms L.state c))
  unfolding keep_step
  play_once c =
      let now = step L.terms p.long fine p.good-memory B.start L.before L.state p.room B.moments p.held c in
      let same = keep_alike B.terms U p.like keeper_good B.start B.moments (fed c) in (
        now.0 ∙ ap (λ (k : Answer × List Moment). k.0) (sym same),
        moved_on (leaves L.terms L.state c) (keep B.terms B.start B.moments (fed c)).1
            (subst (λ (k : Answer × List Moment). Held U B.start fine L.before (leaves L.terms L.state c) k.1) (sym same) now.1),
      )

  play_list : (scratch : List ℕ) (rs : List Record) →
      let k = keep_all B.terms B.start B.moments (map (fed_record (length scratch)) rs) in
      (answers_in (listed L.terms L.state scratch rs) (left L.terms L.state scratch rs).records ≡ k.0)
      × Playing (with_moments B k.1) (with_state L (left L.terms L.state scratch rs).state)
  play_list scratch rs =
      let cs : List Call = map (fed_record (length scratch)) rs in
      let now = run_list L.terms p.long fine p.good-memory B.start L.before p.room scratch rs L.state B.moments p.held in
      let same = keep_all_alike B.terms U p.like keeper_good B.start B.moments cs in (
        now.0 ∙ ap (λ (k : List Answer × List Moment). k.0) (sym same),
        moved_on (left L.terms L.state scratch rs).state (keep_all B.terms B.start B.moments cs).1
            (subst (λ (k : List Answer × List Moment). Held U B.start fine L.before (left L.terms L.state scratch rs).state k.1) (sym same) now.1),
      )

  -- New terms.
  module _ (new second : List ℕ) where
    abbrev Z : Terms
    Z = terms_of new

    abbrev short : Bool
    short = ltb (length new) terms_words || ltb (length second) state_words

    revises-is : revises L.terms L.state new second
        ≡ cond short (refusedOutcome 6 0) (cond (not (good_memory new)) (refusedOutcome 7 0) (cond (not (same_size B.terms Z)) (refusedOutcome 13 0) passed))
    unfolding revises
    revises-is = rw (
      le-ltb (length L.terms) terms_words p.long,
      le-ltb (length L.state) state_words (omega (arith, p.room, p.held.long)),
      p.good-memory,
      p.held.good,
      size_alike B.terms U p.like Z,
    )

    abbrev K : Answer × Book
    K = keep_step B (reviseStep (offered new second))

    keeps-is : K ≡ cond short (refused 6 0, B) (cond (not (good_memory new)) (refused 7 0, B) (cond (not (same_size B.terms Z)) (refused 13 0, B) (done, revised_book B Z)))
    unfolding keep_step
    keeps-is = refl

    abbrev Played : Type 0
    Played = (outcome_in (revises L.terms L.state new second) ≡ K.0) × Playing K.1 (in_use L new second)

    -- Refused: all is as before.
    stays : (n l : ℕ) → revises L.terms L.state new second ≡ refusedOutcome n l → K ≡ (refused n l, B) → Played
    stays n l e k = rw (e, k) (refl, p)

    -- Done: the new terms and the second state are in use.
    module _ (e : revises L.terms L.state new second ≡ passed) (k : K ≡ (done, revised_book B Z)) (s : short ≡ false) (g : good_memory new ≡ true)
        (z : same_size B.terms Z ≡ true)
      where
        same : same_size U Z ≡ true
        same = sym (size_alike B.terms U p.like Z) ∙ z

        em : U.members ≡ Z.members
        em = same_members U Z same

        er : U.relations ≡ Z.relations
        er = same_relations U Z same

        ee : U.events ≡ Z.events
        ee = same_events U Z same

        room : state_words ≤ length second
        room = ltb-false (length second) state_words (or_false_right (ltb (length new) terms_words) (ltb (length second) state_words) s)

        abbrev S : State
        S = state_of L.state

        abbrev C : Book
        C = record { terms = U; start = B.start; moments = B.moments }

        kept : Kept Z (revised_start B Z) (revised U S Z) B.moments
        kept = subst (λ (r : Starts). Kept Z r (revised U S Z) B.moments) (sym (start_alike B.terms U p.like B.start B.moments Z))
            (revised_kept C S p.held.kept Z (good new g) em er ee)

        held : Held Z (revised_start B Z) (good new g) second (words_of Z (revised U S Z) ++ drop state_words second) B.moments
        unfolding revised
        held = held_words Z (revised_start B Z) (good new g) second second room refl refl (revised U S Z) B.moments kept
            (inside_size U Z em er ee S.now (state_inside U L.state p.held.good))

        begins : Played
        unfolding revised_state
        begins = rw (e, k) (
          refl,
          record {
            like = alike_refl Z;
            long = ltb-false (length new) terms_words (or_false_left (ltb (length new) terms_words) (ltb (length second) state_words) s);
            good-memory = g;
            room = room;
            held = held;
          },
        )

    play_revise : Played
    play_revise = by_length short refl (good_memory new) refl (same_size B.terms Z) refl
      where
        by_length : (s : Bool) → short ≡ s → (g : Bool) → good_memory new ≡ g → (z : Bool) → same_size B.terms Z ≡ z → Played
        by_length true s g gs z zs = stays 6 0 (revises-is ∙ rw s) (keeps-is ∙ rw s)
        by_length false s false g z zs = stays 7 0 (revises-is ∙ rw (s, g)) (keeps-is ∙ rw (s, g))
        by_length false s true g false z = stays 13 0 (revises-is ∙ rw (s, g, z)) (keeps-is ∙ rw (s, g, z))
        by_length false s true g true z = begins (revises-is ∙ rw (s, g, z)) (keeps-is ∙ rw (s, g, z)) s g z

  -- New numbers.
  module _ (numbers second : List ℕ) where
    abbrev N : ℕ
    N = B.terms.members

    checked : Checked L.terms L.state
    checked = record {
      long_terms = p.long;
      long_state = omega (arith, p.room, p.held.long);
      good_terms = p.good-memory;
      good-state = p.held.good;
    }

    abbrev J : Answer × Book
    J = keep_step B (renumberStep numbers (length second))

    numbers_kept : J ≡ cond (ltb (length second) state_words) (refused 6 0, B) (cond (not (renumbers N numbers)) (refused 15 0, B) (done, renumbered_book B numbers))
    unfolding keep_step
    numbers_kept = refl

    abbrev Numbered : Type 0
    Numbered = (outcome_in (renumbering L.terms L.state numbers second) ≡ J.0) × Playing J.1 (in_use_by L numbers second)

    -- Refused: all is as before.
    numbers_stay : (n l : ℕ) → refusedOutcome n l ≡ renumbering L.terms L.state numbers second → J ≡ (refused n l, B) → Numbered
    numbers_stay n l e k = rw (sym e, k) (refl, p)

    -- Done: the second state holds what the renumbered list says.
    module _ (ls : state_words ≤ length second) (k : J ≡ (done, renumbered_book B numbers)) (ok : renumbers N numbers ≡ true) where
      members_same : N ≡ U.members
      members_same = p.like.members

      ok' : renumbers U.members numbers ≡ true
      ok' = subst (λ (n : ℕ). renumbers n numbers ≡ true) members_same ok

      passes : passed ≡ renumbering L.terms L.state numbers second
      passes = right_numbers L.terms L.state numbers second ls checked ok'

      numbered_held : Held U B.start fine second (renumbered_state L.terms L.state numbers second) (map (moment_by N numbers) B.moments)
      numbered_held =
          subst (λ (n : ℕ). Held U B.start fine second (renumbered_state L.terms L.state numbers second) (map (moment_by n numbers) B.moments)) (sym members_same)
          (subst (λ (m : List ℕ). Held U B.start fine second m (map (moment_by U.members numbers) B.moments))
          (second_filled L.terms L.state numbers second passes)
          (held_words U B.start fine second second ls refl refl (state_by U numbers (state_of L.state)) (map (moment_by U.members numbers) B.moments)
          (renumbered_kept U (new_number numbers) (old_number U.members numbers) (numbered U.members numbers ok') fine B.start (state_of L.state) B.moments p.held.kept)
          (inside_renumbered U fine (new_number numbers) (old_number U.members numbers) (numbered U.members numbers ok') (state_of L.state).now
          (state_inside U L.state p.held.good))))

      numbers_begin : Numbered
      numbers_begin = rw (sym passes, k) (
        refl,
        record { like = p.like; long = p.long; good-memory = p.good-memory; room = ls; held = numbered_held },
      )

    play_renumber : Numbered
    play_renumber = by_second (ltb (length second) state_words) refl (renumbers N numbers) refl
      where
        by_second : (s : Bool) → ltb (length second) state_words ≡ s → (z : Bool) → renumbers N numbers ≡ z → Numbered
        by_second true s z zs =
            numbers_stay 6 0 (short_second L.terms L.state numbers second (ltb-true (length second) state_words s)) (numbers_kept ∙ rw s)
        by_second false s false z =
            numbers_stay 15 0
            (wrong_numbers L.terms L.state numbers second (ltb-false (length second) state_words s) checked (subst (λ (n : ℕ). renumbers n numbers ≡ false) p.like.members z))
            (numbers_kept ∙ rw (s, z))
        by_second false s true z = numbers_begin (ltb-false (length second) state_words s) (numbers_kept ∙ rw (s, z)) z

-- A list of steps: one induction.
pub run : (ss : List LentStep) (B : Book) (L : Lent) → Playing B L →
    ((serve_steps L ss).0 ≡ (keep_steps B (fed_steps ss)).0) × Playing (keep_steps B (fed_steps ss)).1 (serve_steps L ss).1
unfolding serve_steps keep_steps fed_steps
run [] B L p = (refl, p)
run (once c ∷ ss) B L p =
    let now = play_once B L p c in
    let later = run ss (keep_step B (call (fed c))).1 (with_state L (leaves L.terms L.state c)) now.1 in
    (ap₂ ◌∷◌ now.0 later.0, later.1)
run (set_list scratch rs ∷ ss) B L p =
    let cs : List Call = map (fed_record (length scratch)) rs in
    let now = play_list B L p scratch rs in
    let later = run ss (with_moments B (keep_all B.terms B.start B.moments cs).1) (with_state L (left L.terms L.state scratch rs).state) now.1 in
    rw (map_map rs, keep_on B cs (fed_steps ss)) (ap₂ ◌++◌ now.0 later.0, later.1)
  where
    map_map : (rs : List Record) → map (λ (r : Record). call (fed_record (length scratch) r)) rs ≡ map call (map (fed_record (length scratch)) rs)
    map_map [] = refl
    map_map (r ∷ rs) = ap (λ (xs : List Step). call (fed_record (length scratch) r) ∷ xs) (map_map rs)
run (revise new second ∷ ss) B L p =
    let now = play_revise B L p new second in
    let later = run ss (keep_step B (reviseStep (offered new second))).1 (in_use L new second) now.1 in
    (ap₂ ◌∷◌ now.0 later.0, later.1)
run (renumber numbers second ∷ ss) B L p =
    let now = play_renumber B L p numbers second in
    let later = run ss (keep_step B (renumberStep numbers (length second))).1 (in_use_by L numbers second) now.1 in
    (ap₂ ◌∷◌ now.0 later.0, later.1)

-- What the memory in use then says of the keeper's list.
pub playing_agrees : (B : Book) (L : Lent) → Playing B L → Agrees (terms_of L.terms) B.start L.before L.state B.moments
playing_agrees B L p = agrees (terms_of L.terms) B.start (good L.terms p.good-memory) L.before L.state B.moments p.room p.held

-- The memory that opening leaves holds what the keeper begins with.
pub opened_held : (terms state : List ℕ) (fine : Good (terms_of terms)) → Opens terms state → opens terms state ≡ passed →
    Held (terms_of terms) from_first fine state (opened_state terms state) (first (state_of state).now.edge ∷ [])
unfolding opened_state opening
opened_held terms state fine o e =
    let T : Terms = terms_of terms in
    let R : Relations = (state_of state).now.edge in
    rw e
    (held_words T from_first fine state state o.state_long refl refl (opening T R) (first R ∷ []) (opening_kept T fine R)
    (record { edges = relations_inside T state o.relations_good; event = tt }))

-- Each R inside the terms is the first relations of some memory, with any further words.
pub all_first_relations : (terms : List ℕ) → terms_words ≤ length terms → good_memory terms ≡ true → (R : Relations) →
    ((k a b : ℕ) → R k a b ≡ true → (k < (terms_of terms).relations) × (a < (terms_of terms).members) × (b < (terms_of terms).members)) → (rest : List ℕ) →
    (opens terms (words_of (terms_of terms) (opening (terms_of terms) R) ++ rest) ≡ passed)
    × ((state_of (words_of (terms_of terms) (opening (terms_of terms) R) ++ rest)).now.edge ≡ R)
unfolding opens opening
all_first_relations terms long g R inside rest =
    let T : Terms = terms_of terms in
    let w : List ℕ = words_of T (opening T R) in
    let front : state_words ≤ length w = omega (arith, length_words T (opening T R)) in
    let fits : state_words ≤ length (w ++ rest) = omega (arith, length-append w rest) in (
      rw (le-ltb (length terms) terms_words long, le-ltb (length (w ++ rest)) state_words fits, g, relations_front w rest front T, relations_good T (good terms g) (opening T R)),
      ap (λ (S : State). S.now.edge) (state_front w rest front)
          ∙ ap (λ (M : Moment). M.edge) (now_back T (good terms g) (opening T R) (record { edges = inside; event = tt })),
    )

pub opened_playing : (terms state : List ℕ) → opens terms state ≡ passed → Playing (opened_book terms state) (opened terms state)
opened_playing terms state e =
    let o : Opens terms state = opened_says terms state e in
    record {
      like = alike_refl (terms_of terms);
      long = o.terms_long;
      good-memory = o.terms_good;
      room = o.state_long;
      held = opened_held terms state (good terms o.terms_good) o e;
    }

-- Demand 3, with set lists, new terms and new numbers. For all memory that opens, and all lists of steps over
-- it, requests, looks, set lists, new terms and new numbers, with any numbers, any scratch and any further
-- memory: the answers are the keeper's of the same steps, the terms in use are alike the keeper's, and the state
-- in use agrees with the keeper's list, each past-time entry judged from its own start. The keeper begins with
-- the relations that stood there.
pub demand_3_steps : (terms state : List ℕ) → opens terms state ≡ passed → (ss : List LentStep) →
    let after = serve_steps (opened terms state) ss in
    let byKeeper = keep_steps (opened_book terms state) (fed_steps ss) in
    (after.0 ≡ byKeeper.0) × Alike byKeeper.1.terms (terms_of after.1.terms)
    × Agrees (terms_of after.1.terms) byKeeper.1.start after.1.before after.1.state byKeeper.1.moments
demand_3_steps terms state e ss =
    let r = run ss (opened_book terms state) (opened terms state) (opened_playing terms state e) in
    (r.0, r.1.like, playing_agrees _ _ r.1)

-- A list of calls is a list of steps.
pub fed_once : (cs : List LentCall) → fed_steps (map once cs) ≡ map call (fed_all cs)
unfolding fed_steps fed_all
fed_once [] = refl
fed_once (c ∷ cs) = ap (λ (ks : List Step). call (fed c) ∷ ks) (fed_once cs)

pub serve_once : (L : Lent) (cs : List LentCall) →
    serve_steps L (map once cs) ≡ ((serve_all L.terms L.state cs).0, with_state L (serve_all L.terms L.state cs).1)
unfolding serve_steps serve_all
serve_once L [] = refl
serve_once L (c ∷ cs) =
    ap (λ (later : List Answer × Lent). (answer L.terms L.state c.scratch c.event c.from c.to ∷ later.0, later.1))
    (serve_once (with_state L (leaves L.terms L.state c)) cs)

-- The steps of a list that keeps the terms are calls.
pub fed_kept : (ss : List LentStep) → KeepsTerms ss → fed_steps ss ≡ map call (fed_calls ss)
unfolding fed_steps fed_calls
fed_kept [] k = refl
fed_kept (once c ∷ ss) k = ap (λ (xs : List Step). call (fed c) ∷ xs) (fed_kept ss k)
fed_kept (set_list scratch rs ∷ ss) k = ap (λ (xs : List Step). map (λ (r : Record). call (fed_record (length scratch) r)) rs ++ xs) (fed_kept ss k) ∙ go rs
  where
    go : (rs : List Record) → map (λ (r : Record). call (fed_record (length scratch) r)) rs ++ map call (fed_calls ss) ≡ map call (map (fed_record (length scratch)) rs ++ fed_calls ss)
    go [] = refl
    go (r ∷ rs) = ap (λ (xs : List Step). call (fed_record (length scratch) r) ∷ xs) (go rs)
fed_kept (revise new second ∷ ss) k = absurd k
fed_kept (renumber numbers second ∷ ss) k = absurd k

-- Demand 3: the same of calls alone, requests and looks.
pub demand_3 : (terms state : List ℕ) → opens terms state ≡ passed → (cs : List LentCall) →
    ((serve_all terms (opened_state terms state) cs).0 ≡ (keeper (terms_of terms) (state_of state).now.edge (fed_all cs)).0)
    × Agrees (terms_of terms) from_first state (serve_all terms (opened_state terms state) cs).1
    (keeper (terms_of terms) (state_of state).now.edge (fed_all cs)).1
demand_3 terms state e cs =
    let B : Book = opened_book terms state in
    let d = demand_3_steps terms state e (map once cs) in
    let x : ((serve_all terms (opened_state terms state) cs).0 ≡ (keep_steps B (map call (fed_all cs))).0)
    × Alike (keep_steps B (map call (fed_all cs))).1.terms (terms_of terms)
    × Agrees (terms_of terms) (keep_steps B (map call (fed_all cs))).1.start state (serve_all terms (opened_state terms state) cs).1 (keep_steps B (map call (fed_all cs))).1.moments =
    rw (serve_once (opened terms state) cs, fed_once cs) at d in
    let y = keep_calls B (fed_all cs) in (
      x.0 ∙ ap (λ (k : List Answer × Book). k.0) y,
      subst (λ (k : List Answer × Book). Agrees (terms_of terms) k.1.start state (serve_all terms (opened_state terms state) cs).1 k.1.moments) y x.2,
    )
