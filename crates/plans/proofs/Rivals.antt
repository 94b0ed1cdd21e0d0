-- The game is the sentence that it stands for, and over memory that holds what the keeper's list says the monitor plays
-- the keeper's game.
use Prim.Native.Nat.{ℕ, zero, suc, ◌≤◌}
use native.Mathlib.Omega.{arith}
use mathlib.Core.Path.{◌≡◌, refl, sym, ap, ap₂, subst, ◌∙◌}
use mathlib.Core.List.{List, [], ◌∷◌}
use mathlib.Core.Bool.{Bool, true, false, cond, not, ◌&&◌, ◌||◌}
use lib.Dec.{ltb}
use lib.ListN.{length, take, drop, replicate, take-append-drop, drop_of_length-le}
use lib.Seq.{length-take-le}
use borrow.Author.Tests.{le-ltb, lt-ltb, ltb-true}
use Rattle.sets.specs.Sets.{all_below}
use Rattle.sets.proofs.Finite.{and_left, and_right, and_both, all_true, all_out, all_cong}
use Rattle.theory.specs.Meaning.{Starts}
use Rattle.theory.specs.Terms.{Terms}
use Rattle.theory.specs.Fit.{every, Good}
use Rattle.theory.specs.Limits.{scratch_words}
use Rattle.theory.specs.Moment.{Moment}
use Rattle.theory.specs.Keeper.{Book, target, keeper_holds}
use Rattle.memory.specs.Layout.{terms_words, state_words, terms_of, state_of}
use Rattle.memory.specs.Checks.{good_memory}
use Rattle.memory.specs.Outcome.{askable}
use Rattle.calls.specs.Telling.{paired}
use Rattle.plans.specs.Game.{Move, whatever, wins, Reply, has_reply, replies, reaches, moves_of, game_tests, known_tests, game_words, keeper_step, keeper_accepts, keeper_rules}
use Rattle.plans.specs.Plans.{stepped, reached_in, accepted, ruling}
use Rattle.plans.specs.Game.Reply.{pass, asks}
use Rattle.plans.specs.Game.Ruling.{accept, reject, refuse}
use Rattle.theory.proofs.Good.{every_at}
use Rattle.theory.proofs.RunInvariant.{Kept, entry_kept}
use Rattle.memory.proofs.Front.{state_front, good_front}
use Rattle.calls.proofs.MemoryInvariant.{Held}
use Rattle.calls.proofs.OneCall.{step}
use Rattle.calls.proofs.Telling.{told_holds}

-- ---- the game is the sentence

module _ {S : Type 0} (stp : S → (j u v : ℕ) → S) (reached : S → Bool) (T : Terms) (planner rival : ℕ) where
  -- Replies that the rival has.
  abbrev pub Has : (ℕ → Reply) → Type 0
  Has r = (k : ℕ) → has_reply T (r k) ≡ true

  abbrev before : Reply → (ℕ → Reply) → ℕ → Reply
  before x r zero = x
  before x r (suc k) = r k

  has_before : (x : Reply) (r : ℕ → Reply) → has_reply T x ≡ true → Has r → Has (before x r)
  has_before x r o os zero = o
  has_before x r o os (suc k) = os k

  one_of : (p : S → Bool) (s : S) → whatever stp reached T planner rival p s ≡ true → (x : Reply) → has_reply T x ≡ true → p (replies stp reached planner rival x s) ≡ true
  one_of p s h pass o = and_left (p s) _ h
  one_of p s h (asks j v) o =
      all_out T.members (λ v. p (stp s j rival v))
      (all_out T.events (λ j. all_below T.members (λ v. p (stp s j rival v))) (and_right (p s) _ h) j
      (ltb-true j T.events (and_left (ltb j T.events) _ o))) v (ltb-true v T.members (and_right (ltb j T.events) _ o))

  each_one : (p : S → Bool) (s : S) → ((x : Reply) → has_reply T x ≡ true → p (replies stp reached planner rival x s) ≡ true) → whatever stp reached T planner rival p s ≡ true
  each_one p s h =
      and_both (p s) _ (h pass refl) (all_true T.events (λ j jl. all_true T.members (λ v vl.
      h (asks j v) (and_both (ltb j T.events) _ (lt-ltb j T.events jl) (lt-ltb v T.members vl)))))

  wins_reaches : (ms : List Move) (s : S) → wins stp reached T planner rival ms s ≡ true → (r : ℕ → Reply) → Has r → reaches stp reached planner rival ms r s ≡ true
  unfolding wins reaches
  wins_reaches [] s h r os = h
  wins_reaches (m ∷ ms) s h r os = go (reached t) h (λ s' h'. wins_reaches ms s' h' (λ k. r (suc k)) (λ k. os (suc k)))
    where
      t : S
      t = stp s m.event planner m.target

      go : (c : Bool) → (c || whatever stp reached T planner rival (wins stp reached T planner rival ms) t) ≡ true →
          ((s' : S) → wins stp reached T planner rival ms s' ≡ true → reaches stp reached planner rival ms (λ k. r (suc k)) s' ≡ true) →
          (c || reaches stp reached planner rival ms (λ k. r (suc k)) (replies stp reached planner rival (r 0) t)) ≡ true
      go true h later = refl
      go false h later = later (replies stp reached planner rival (r 0) t) (one_of (wins stp reached T planner rival ms) t h (r 0) (os 0))

  reaches_wins : (ms : List Move) (s : S) → ((r : ℕ → Reply) → Has r → reaches stp reached planner rival ms r s ≡ true) → wins stp reached T planner rival ms s ≡ true
  unfolding wins reaches
  reaches_wins [] s h = h (λ k. pass) (λ k. refl)
  reaches_wins (m ∷ ms) s h = go (reached t) (λ x o r os. h (before x r) (has_before x r o os)) (reaches_wins ms)
    where
      t : S
      t = stp s m.event planner m.target

      go : (c : Bool) → ((x : Reply) → has_reply T x ≡ true → (r : ℕ → Reply) → Has r →
          (c || reaches stp reached planner rival ms r (replies stp reached planner rival x t)) ≡ true) →
          ((s' : S) → ((r : ℕ → Reply) → Has r → reaches stp reached planner rival ms r s' ≡ true) → wins stp reached T planner rival ms s' ≡ true) →
          (c || whatever stp reached T planner rival (wins stp reached T planner rival ms) t) ≡ true
      go true h later = refl
      go false h later = each_one (wins stp reached T planner rival ms) t (λ x o. later (replies stp reached planner rival x t) (λ r os. h x o r os))

  -- A plan wins exactly when, whatever the rival replies, the goal is reached after one of the planner's moves.
  pub whatever_the_rival_does : (ms : List Move) (s : S) →
      (wins stp reached T planner rival ms s ≡ true → (r : ℕ → Reply) → Has r → reaches stp reached planner rival ms r s ≡ true)
      × (((r : ℕ → Reply) → Has r → reaches stp reached planner rival ms r s ≡ true) → wins stp reached T planner rival ms s ≡ true)
  whatever_the_rival_does ms s = (wins_reaches ms s, reaches_wins ms s)

-- ---- two games in step

module _ {S R : Type 0} (f : S → (j u v : ℕ) → S) (p : S → Bool) (g : R → (j u v : ℕ) → R) (q : R → Bool) (T : Terms) (planner rival : ℕ)
    (Rel : S → R → Type 0) (on : (s : S) (r : R) → Rel s r → (j u v : ℕ) → Rel (f s j u v) (g r j u v)) (goal : (s : S) (r : R) → Rel s r → p s ≡ q r)
  where
    pub wins_same : (ms : List Move) (s : S) (r : R) → Rel s r → wins f p T planner rival ms s ≡ wins g q T planner rival ms r
    unfolding wins
    wins_same [] s r h = refl
    wins_same (m ∷ ms) s r h =
        let t : S = f s m.event planner m.target in
        let t' : R = g r m.event planner m.target in
        let k : Rel t t' = on s r h m.event planner m.target in
        ap₂ ◌||◌ (goal t t' k) (ap₂ ◌&&◌ (wins_same ms t t' k)
        (all_cong T.events (λ j jl. all_cong T.members (λ v vl. wins_same ms (f t j rival v) (g t' j rival v) (on t t' k j rival v)))))

-- ---- over memory that holds what the keeper's list says

module _ (terms : List ℕ) (long_terms : terms_words ≤ length terms) (fine : Good (terms_of terms)) (good_terms : good_memory terms ≡ true)
    (s : Starts) (m₀ : List ℕ) (long : state_words ≤ length m₀)
  where
    abbrev T : Terms
    T = terms_of terms

    abbrev at : List Moment → Book
    at Ms = record { terms = T; start = s; moments = Ms }

    -- The named words alone hold it too.
    named_held : (m : List ℕ) (Ms : List Moment) → Held T s fine m₀ m Ms → Held T s fine (take state_words m₀) (take state_words m) Ms
    named_held m Ms h =
        let lm : state_words ≤ length m = omega (arith, h.long) in
        let e : length (take state_words m) ≡ state_words = length-take-le state_words m lm in
        let e₀ : length (take state_words m₀) ≡ state_words = length-take-le state_words m₀ long in
        record {
          long = e ∙ sym e₀;
          further = drop_of_length-le (take state_words m) {i = state_words} (omega arith) ∙ sym (drop_of_length-le (take state_words m₀) {i = state_words} (omega arith));
          good = sym (good_front (take state_words m) (drop state_words m) (omega (arith, e)) T fine) ∙ rw (take-append-drop state_words m) h.good;
          kept = subst (λ S. Kept T s S Ms) (sym (same m lm)) h.kept;
        }
      where
        same : (m : List ℕ) → state_words ≤ length m → state_of (take state_words m) ≡ state_of m
        same m lm =
            sym (state_front (take state_words m) (drop state_words m) (omega (arith, length-take-le state_words m lm)))
            ∙ ap state_of (take-append-drop state_words m)

    -- A goal and a pair that pass the checks.
    module _ (goal u v : ℕ) (asked : askable T goal ≡ true) (pair : paired T u v ≡ true) where
      on : (m : List ℕ) (Ms : List Moment) → Held T s fine (take state_words m₀) m Ms → (j x y : ℕ) →
          Held T s fine (take state_words m₀) (stepped terms m j x y) (keeper_step T s Ms j x y)
      on m Ms h j x y =
          (step terms long_terms fine good_terms s (take state_words m₀) m (omega (arith, length-take-le state_words m₀ long)) Ms h
          (record { look = false; event = j; from = x; to = y; scratch = replicate scratch_words 0 })).1

      -- What is told of the goal is what the keeper reads.
      told : (m : List ℕ) (Ms : List Moment) → Held T s fine (take state_words m₀) m Ms → reached_in terms goal u v m ≡ keeper_holds T s Ms goal (target v) u
      told m Ms h =
          told_holds terms m goal u v (record {
            long_terms = long_terms;
            long_state = omega (arith, h.long, length-take-le state_words m₀ long);
            good_terms = good_terms;
            good-state = h.good;
          }) asked pair
          ∙ entry_kept T fine s (state_of m) Ms h.kept goal u v (ltb-true goal T.entries (and_left (ltb goal T.entries) _ asked))
          (ltb-true u T.members (and_left (ltb u T.members) _ pair)) (ltb-true v T.members (and_right (ltb u T.members) _ pair))

      pub accepted_kept : (m : List ℕ) (Ms : List Moment) → Held T s fine m₀ m Ms → (plan : List ℕ) (planner rival : ℕ) →
          accepted terms m plan planner rival goal u v ≡ keeper_accepts (at Ms) plan planner rival goal u v
      unfolding accepted
      accepted_kept m Ms h plan planner rival =
          wins_same (stepped terms) (reached_in terms goal u v) (keeper_step T s) (λ Ns. keeper_holds T s Ns goal (target v) u) T planner rival
          (Held T s fine (take state_words m₀)) on told (moves_of plan) (take state_words m) Ms (named_held m Ms h)

    -- What passes the checks 14 and 9.
    goal_askable : (plan : List ℕ) (planner rival goal : ℕ) → every (game_tests T plan planner rival goal) ≡ true → askable T goal ≡ true
    goal_askable plan planner rival goal e =
        and_both (ltb goal T.entries) _ (every_at (game_tests T plan planner rival goal) e 4) (every_at (game_tests T plan planner rival goal) e 5)

    pair_known : (plan : List ℕ) (planner rival u v : ℕ) → every (known_tests T plan planner rival u v) ≡ true → paired T u v ≡ true
    pair_known plan planner rival u v e =
        and_both (ltb u T.members) _ (every_at (known_tests T plan planner rival u v) e 2) (every_at (known_tests T plan planner rival u v) e 3)

    pub ruled_kept : (m : List ℕ) (Ms : List Moment) → Held T s fine m₀ m Ms → (scratch plan : List ℕ) (planner rival goal u v : ℕ) →
        ruling terms m scratch plan planner rival goal u v ≡ keeper_rules (at Ms) (length scratch) plan planner rival goal u v
    unfolding ruling keeper_rules
    ruled_kept m Ms h scratch plan planner rival goal u v =
        rw (le-ltb (length terms) terms_words long_terms, le-ltb (length m) state_words (omega (arith, h.long)), good_terms, h.good)
        (ap (cond (ltb (length scratch) game_words) (refuse 6 0)) (go (every (game_tests T plan planner rival goal)) refl (every (known_tests T plan planner rival u v)) refl))
      where
        go : (c : Bool) → every (game_tests T plan planner rival goal) ≡ c → (d : Bool) → every (known_tests T plan planner rival u v) ≡ d →
            cond (not c) (refuse 14 0) (cond (not d) (refuse 9 0) (cond (accepted terms m plan planner rival goal u v) accept reject))
            ≡ cond (not c) (refuse 14 0) (cond (not d) (refuse 9 0) (cond (keeper_accepts (at Ms) plan planner rival goal u v) accept reject))
        go true e true k =
            ap (λ (b : Bool). cond b accept reject)
            (accepted_kept goal u v (goal_askable plan planner rival goal e) (pair_known plan planner rival u v k) m Ms h plan planner rival)
        go true e false k = refl
        go false e d k = refl
