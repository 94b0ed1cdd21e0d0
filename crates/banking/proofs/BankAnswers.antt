-- The ways through what a call of a bank gives and leaves: one law for each, and what a pass and a verdict say of the
-- memory.
use Prim.Native.Nat.{ℕ, ◌≤◌, ◌<◌}
use mathlib.Core.Path.{◌≡◌, refl, sym, ap, ◌∙◌}
use mathlib.Core.Bool.{Bool, true, false, cond, not, ◌&&◌, ◌||◌, true≢false}
use mathlib.Core.List.{List, ◌++◌}
use lib.Dec.{ltb}
use lib.ListN.{length, take, drop, replicate}
use borrow.Author.Tests.{lt-ltb, le-ltb, ltb-false}
use Rattle.sets.proofs.Finite.{or_left, or_right}
use Rattle.theory.specs.Limits.{scratch_words}
use Rattle.theory.specs.Keeper.{Answer}
use Rattle.theory.specs.Keeper.Verdict.{grant, deny}
use Rattle.theory.specs.Keeper.Answer.{decided, refused}
use Rattle.theory.specs.Tables.{named, decide_now}
use Rattle.memory.specs.Layout.{terms_words, relation_words, own_words, joined, terms_of, state_of}
use Rattle.memory.specs.Checks.{good_memory, good_state}
use Rattle.memory.specs.Outcome.{has_passed, short_banks, good_banks, banks_check}
use Rattle.memory.specs.Outcome.Outcome.{passed, refused as refusedOutcome}
use Rattle.calls.specs.Monitor.{is_decided}
use Rattle.banking.specs.Banking.{bank_answer, bank_moves, moved_own, moved_other, relations_after, own_after, other_after, cleared_after}
use Rattle.banking.specs.BankRefused.{LongBanks}
use Rattle.banking.proofs.Lengths.{long_banks, not_short}

-- What is known of terms and two banks that pass.
pub record BanksChecked (terms relations own other : List ℕ) : Type 0 where
  pub long_terms : terms_words ≤ length terms
  pub long_banks : LongBanks relations own other
  pub good_terms : good_memory terms ≡ true
  pub good-own : good_state (terms_of terms) (joined relations own) ≡ true
  pub good_other : good_state (terms_of terms) (joined relations other) ≡ true

module _ (terms relations own other : List ℕ) where
  pub check_passed : BanksChecked terms relations own other → passed ≡ banks_check terms relations own other
  unfolding banks_check
  check_passed c =
      rw (le-ltb (length terms) terms_words c.long_terms, not_short relations own other c.long_banks, c.good_terms, c.good-own, c.good_other)

  pub passed_checked : passed ≡ banks_check terms relations own other → BanksChecked terms relations own other
  unfolding banks_check
  passed_checked e =
      go (ltb (length terms) terms_words) refl (short_banks relations own other) refl (good_memory terms) refl
      (good_state (terms_of terms) (joined relations own)) refl (good_state (terms_of terms) (joined relations other)) refl (ap has_passed e)
    where
      go : (a : Bool) → ltb (length terms) terms_words ≡ a → (b : Bool) → short_banks relations own other ≡ b → (g : Bool) → good_memory terms ≡ g →
          (s : Bool) → good_state (terms_of terms) (joined relations own) ≡ s → (t : Bool) → good_state (terms_of terms) (joined relations other) ≡ t →
          true ≡ has_passed (cond (a || b) (refusedOutcome 6 0) (cond (not g) (refusedOutcome 7 0) (cond (not (s && t)) (refusedOutcome 8 0) passed))) → BanksChecked terms relations own other
      go true _ _ _ _ _ _ _ _ _ z = absurd (true≢false z)
      go false _ true _ _ _ _ _ _ _ z = absurd (true≢false z)
      go false _ false _ false _ _ _ _ _ z = absurd (true≢false z)
      go false _ false _ true _ false _ _ _ z = absurd (true≢false z)
      go false _ false _ true _ true _ false _ z = absurd (true≢false z)
      go false a false b true g true s true t z = record {
        long_terms = ltb-false (length terms) terms_words a;
        long_banks = long_banks relations own other b;
        good_terms = g;
        good-own = s;
        good_other = t;
      }

module _ (terms relations own other scratch spare : List ℕ) (j u v : ℕ) where
  abbrev Given : Answer
  Given = bank_answer terms relations own other scratch spare j u v

  pub short_scratch : length scratch < scratch_words → refused 6 0 ≡ Given
  unfolding bank_answer
  short_scratch l = rw (or_right (ltb (length terms) terms_words) (short_banks relations own other || (ltb (length scratch) scratch_words || ltb (length spare) scratch_words))
      (or_right (short_banks relations own other) (ltb (length scratch) scratch_words || ltb (length spare) scratch_words)
      (or_left (ltb (length scratch) scratch_words) (ltb (length spare) scratch_words) (lt-ltb (length scratch) scratch_words l))))

  pub short_spare : length spare < scratch_words → refused 6 0 ≡ Given
  unfolding bank_answer
  short_spare l = rw (or_right (ltb (length terms) terms_words) (short_banks relations own other || (ltb (length scratch) scratch_words || ltb (length spare) scratch_words))
      (or_right (short_banks relations own other) (ltb (length scratch) scratch_words || ltb (length spare) scratch_words)
      (or_right (ltb (length scratch) scratch_words) (ltb (length spare) scratch_words) (lt-ltb (length spare) scratch_words l))))

  module _ (ls : scratch_words ≤ length scratch) (lp : scratch_words ≤ length spare) where
    -- What fails a check fails a call.
    pub unchecked : (n l : ℕ) → refusedOutcome n l ≡ banks_check terms relations own other → refused n l ≡ Given
    unfolding bank_answer banks_check
    unchecked n l e =
        rw (le-ltb (length scratch) scratch_words ls, le-ltb (length spare) scratch_words lp)
        (go (ltb (length terms) terms_words) (short_banks relations own other) (good_memory terms) (good_banks (terms_of terms) relations own other)
        (cond (not (named (terms_of terms) j u v)) (refused 9 0) (decided (cond (decide_now (terms_of terms) (state_of (joined relations own)) j u v) grant deny))) e)
      where
        go : (a b g s : Bool) (x : Answer) → refusedOutcome n l ≡ cond (a || b) (refusedOutcome 6 0) (cond (not g) (refusedOutcome 7 0) (cond (not s) (refusedOutcome 8 0) passed)) →
            refused n l ≡ cond (a || (b || (false || false))) (refused 6 0) (cond (not g) (refused 7 0) (cond (not s) (refused 8 0) x))
        go true b g s x e = cc
        go false true g s x e = cc
        go false false false s x e = cc
        go false false true false x e = cc
        go false false true true x e = absurd (true≢false (sym (ap has_passed e)))

    module _ (c : BanksChecked terms relations own other) where
      pub unnamed : named (terms_of terms) j u v ≡ false → refused 9 0 ≡ Given
      unfolding bank_answer
      unnamed e =
          rw (
            le-ltb (length terms) terms_words c.long_terms,
            not_short relations own other c.long_banks,
            le-ltb (length scratch) scratch_words ls,
            le-ltb (length spare) scratch_words lp,
            c.good_terms,
            c.good-own,
            c.good_other,
            e,
          )

      pub judged : named (terms_of terms) j u v ≡ true → {d r : Bool} → r ≡ d → r ≡ decide_now (terms_of terms) (state_of (joined relations own)) j u v →
          decided (cond d grant deny) ≡ Given
      unfolding bank_answer
      judged m q e =
          ap (λ (x : Bool). decided (cond x grant deny)) (sym q ∙ e)
          ∙ rw (
            le-ltb (length terms) terms_words c.long_terms,
            not_short relations own other c.long_banks,
            le-ltb (length scratch) scratch_words ls,
            le-ltb (length spare) scratch_words lp,
            c.good_terms,
            c.good-own,
            c.good_other,
            m,
          )

  -- A call that gets a verdict has passed the checks of both banks, has both scratches, and names an event and members.
  pub record Decided : Type 0 where
    pub checked : BanksChecked terms relations own other
    pub long_scratch : scratch_words ≤ length scratch
    pub long_spare : scratch_words ≤ length spare
    pub names : named (terms_of terms) j u v ≡ true

  pub decided_says : is_decided Given ≡ true → Decided
  unfolding bank_answer
  decided_says e =
      go (ltb (length terms) terms_words) refl (short_banks relations own other) refl (ltb (length scratch) scratch_words) refl (ltb (length spare) scratch_words) refl
      (good_memory terms) refl (good_state (terms_of terms) (joined relations own)) refl (good_state (terms_of terms) (joined relations other)) refl (named (terms_of terms) j u v) refl e
    where
      go : (a : Bool) → ltb (length terms) terms_words ≡ a → (b : Bool) → short_banks relations own other ≡ b →
          (c : Bool) → ltb (length scratch) scratch_words ≡ c → (d : Bool) → ltb (length spare) scratch_words ≡ d → (g : Bool) → good_memory terms ≡ g →
          (s : Bool) → good_state (terms_of terms) (joined relations own) ≡ s → (t : Bool) → good_state (terms_of terms) (joined relations other) ≡ t →
          (n : Bool) → named (terms_of terms) j u v ≡ n →
          is_decided (cond (a || (b || (c || d))) (refused 6 0) (cond (not g) (refused 7 0) (cond (not (s && t)) (refused 8 0) (cond (not n) (refused 9 0)
          (decided (cond (decide_now (terms_of terms) (state_of (joined relations own)) j u v) grant deny)))))) ≡ true → Decided
      go true _ _ _ _ _ _ _ _ _ _ _ _ _ _ _ z = absurd (true≢false (sym z))
      go false _ true _ _ _ _ _ _ _ _ _ _ _ _ _ z = absurd (true≢false (sym z))
      go false _ false _ true _ _ _ _ _ _ _ _ _ _ _ z = absurd (true≢false (sym z))
      go false _ false _ false _ true _ _ _ _ _ _ _ _ _ z = absurd (true≢false (sym z))
      go false _ false _ false _ false _ false _ _ _ _ _ _ _ z = absurd (true≢false (sym z))
      go false _ false _ false _ false _ true _ false _ _ _ _ _ z = absurd (true≢false (sym z))
      go false _ false _ false _ false _ true _ true _ false _ _ _ z = absurd (true≢false (sym z))
      go false _ false _ false _ false _ true _ true _ true _ false _ z = absurd (true≢false (sym z))
      go false a false b false c false d true g true s true t true n z = record {
        checked = record {
          long_terms = ltb-false (length terms) terms_words a;
          long_banks = long_banks relations own other b;
          good_terms = g;
          good-own = s;
          good_other = t;
        };
        long_scratch = ltb-false (length scratch) scratch_words c;
        long_spare = ltb-false (length spare) scratch_words d;
        names = n;
      }

  pub verdict_says : {a : Answer} → a ≡ Given → is_decided a ≡ true → Decided
  verdict_says p e = decided_says (ap is_decided (sym p) ∙ e)

  -- What holds of both verdicts and of the four refusals holds of every answer.
  pub each_answer : (P : Answer → Type 0) → P (refused 6 0) → P (refused 7 0) → P (refused 8 0) → P (refused 9 0) → P (decided grant) → P (decided deny) → P Given
  unfolding bank_answer
  each_answer P six seven eight nine one nil =
      go (ltb (length terms) terms_words || (short_banks relations own other || (ltb (length scratch) scratch_words || ltb (length spare) scratch_words))) (good_memory terms)
      (good_banks (terms_of terms) relations own other) (named (terms_of terms) j u v) (decide_now (terms_of terms) (state_of (joined relations own)) j u v)
    where
      go : (s g k n d : Bool) → P (cond s (refused 6 0) (cond (not g) (refused 7 0) (cond (not k) (refused 8 0) (cond (not n) (refused 9 0) (decided (cond d grant deny))))))
      go true g k n d = six
      go false false k n d = seven
      go false true false n d = eight
      go false true true false d = nine
      go false true true true true = one
      go false true true true false = nil

  -- What a request leaves, where it makes no moment.
  module _ (k : bank_moves terms relations own other scratch spare j u v ≡ false) where
    pub relations_kept : relations ≡ relations_after terms relations own other scratch spare j u v
    unfolding relations_after
    relations_kept = rw k

    pub own_kept : own ≡ own_after terms relations own other scratch spare j u v
    unfolding own_after
    own_kept = rw k

    pub other_kept : other ≡ other_after terms relations own other scratch spare j u v
    unfolding other_after
    other_kept = rw k

    pub lent_kept : (lent : List ℕ) → lent ≡ cleared_after terms relations own other scratch spare j u v lent
    unfolding cleared_after
    lent_kept lent = rw k

  -- And where it makes one.
  module _ (k : bank_moves terms relations own other scratch spare j u v ≡ true) where
    pub relations_moved : take relation_words (moved_own terms relations own other scratch spare j u v) ++ drop relation_words relations
        ≡ relations_after terms relations own other scratch spare j u v
    unfolding relations_after
    relations_moved = rw k

    pub own_moved : drop relation_words (moved_own terms relations own other scratch spare j u v) ++ drop own_words own ≡ own_after terms relations own other scratch spare j u v
    unfolding own_after
    own_moved = rw k

    pub other_moved : drop relation_words (moved_other terms relations own other scratch spare j u v) ++ drop own_words other ≡ other_after terms relations own other scratch spare j u v
    unfolding other_after
    other_moved = rw k

    pub lent_cleared : (lent : List ℕ) → replicate scratch_words 0 ++ drop scratch_words lent ≡ cleared_after terms relations own other scratch spare j u v lent
    unfolding cleared_after
    lent_cleared lent = rw k
