-- What is returned of two banks when nothing is decided (docs/SCOPE.md, Two banks and Refusals): each number is given
-- exactly when its line of the table fits, with line 0, nothing else is ever given, and all memory is left as lent.
use Prim.Native.Nat.{ℕ}
use mathlib.Core.Path.{◌≡◌, refl, sym, ap, subst, ◌∙◌}
use mathlib.Core.List.{List}
use mathlib.Core.Bool.{Bool, true, false, cond, not, ◌&&◌, ◌||◌, and-false, true≢false, false≢true}
use lib.Dec.{ltb}
use lib.ListN.{length}
use borrow.Author.Tests.{lt-ltb, le-ltb, ltb-true, ltb-false}
use Rattle.sets.proofs.Finite.{or_left, or_right}
use Rattle.theory.specs.Keeper.{Answer}
use Rattle.theory.specs.Keeper.Answer.{decided, done, refused}
use Rattle.theory.specs.Limits.{scratch_words}
use Rattle.theory.specs.Tables.{named, decide_now}
use Rattle.memory.specs.Layout.{terms_words, joined, terms_of, state_of}
use Rattle.memory.specs.Checks.{good_memory, good_state}
use Rattle.memory.specs.Outcome.{Outcome, has_passed, short_banks, good_banks, banks_check}
use Rattle.memory.specs.Outcome.Outcome.{passed, refused as refusedOutcome}
use Rattle.calls.specs.SetList.{Listing, listing}
use Rattle.calls.specs.SetList.Listing.{counted, refused as refusedList}
use Rattle.calls.specs.declared.Record.{Record}
use Rattle.banking.specs.Banking.{bank_answer, relations_after, own_after, other_after, cleared_after}
use Rattle.banking.specs.BankList.{BankRun, bank_singly, bank_list_checks, bank_listed, bank_left}
use Rattle.banking.specs.BankRefused.{Long, ListRefusal, Fits, Refusal}
use Rattle.banking.specs.BankRefused.ListRefusal.{short_terms, short-banks, short_scratch, short_spare, bad_terms, bad_own, bad_other}
use Rattle.banking.specs.BankRefused.Refusal.{as_list, no_event, no_initiator, no_target}
use Rattle.banking.proofs.Lengths.{long_banks, not_short, why_short, is_short}
use Rattle.banking.proofs.BankAnswers.{BanksChecked, unnamed, judged}
use Rattle.banking.proofs.ListSingly.{refused_alike}

-- Of two tests, one of which fails the lengths.
six : (p q : Bool) (x : Outcome) → (p || q) ≡ true → cond p (refusedOutcome 6 0) (cond q (refusedOutcome 6 0) x) ≡ refusedOutcome 6 0
six true q x e = refl
six false true x e = refl
six false false x e = absurd (false≢true e)

-- ---- set lists, looks and requests

module _ (terms relations own other scratch spare : List ℕ) where
  abbrev checks : Outcome
  checks = bank_list_checks terms relations own other scratch spare

  -- What the checks say of the memory.
  abbrev Told : Outcome → Type 0
  Told passed = Fits terms relations own other scratch spare
  Told (refusedOutcome n l) = (l ≡ 0) × ListRefusal terms relations own other scratch spare n

  abbrev by_good : Outcome
  by_good = cond (not (good_memory terms)) (refusedOutcome 7 0) (cond (not (good_banks (terms_of terms) relations own other)) (refusedOutcome 8 0) passed)

  told : Told checks
  unfolding bank_list_checks banks_check
  told =
      by_length (ltb (length scratch) scratch_words) refl (ltb (length spare) scratch_words) refl (ltb (length terms) terms_words) refl (short_banks relations own other) refl
    where
      by_state : Long terms relations own other scratch spare → good_memory terms ≡ true → (s : Bool) → good_state (terms_of terms) (joined relations own) ≡ s →
          (t : Bool) → good_state (terms_of terms) (joined relations other) ≡ t → Told (cond (not (s && t)) (refusedOutcome 8 0) passed)
      by_state L g true s true t = record { long = L; terms_good = g; own_good = s; other_good = t }
      by_state L g true s false t = (refl, bad_other L g t)
      by_state L g false s t q = (refl, bad_own L g s)

      by_terms : Long terms relations own other scratch spare → (c : Bool) → good_memory terms ≡ c →
          Told (cond (not c) (refusedOutcome 7 0) (cond (not (good_banks (terms_of terms) relations own other)) (refusedOutcome 8 0) passed))
      by_terms L true q = by_state L q (good_state (terms_of terms) (joined relations own)) refl (good_state (terms_of terms) (joined relations other)) refl
      by_terms L false q = (refl, bad_terms L q)

      by_length : (c : Bool) → ltb (length scratch) scratch_words ≡ c → (d : Bool) → ltb (length spare) scratch_words ≡ d →
          (a : Bool) → ltb (length terms) terms_words ≡ a → (b : Bool) → short_banks relations own other ≡ b →
          Told (cond (c || d) (refusedOutcome 6 0) (cond (a || b) (refusedOutcome 6 0) by_good))
      by_length true c d _ a _ b _ = (refl, short_scratch (ltb-true (length scratch) scratch_words c))
      by_length false c true d a _ b _ = (refl, short_spare (ltb-true (length spare) scratch_words d))
      by_length false c false d true a b _ = (refl, short_terms (ltb-true (length terms) terms_words a))
      by_length false c false d false a true b = (refl, short-banks (why_short relations own other b))
      by_length false c false d false a false b =
          by_terms (record {
            terms_long = ltb-false (length terms) terms_words a;
            banks_long = long_banks relations own other b;
            scratch_long = ltb-false (length scratch) scratch_words c;
            spare_long = ltb-false (length spare) scratch_words d;
          }) (good_memory terms) refl

  long-is : Long terms relations own other scratch spare → checks ≡ by_good
  unfolding bank_list_checks banks_check
  long-is L = rw (
    le-ltb (length scratch) scratch_words L.scratch_long,
    le-ltb (length spare) scratch_words L.spare_long,
    le-ltb (length terms) terms_words L.terms_long,
    not_short relations own other L.banks_long,
  )

  short-is : ((ltb (length scratch) scratch_words || ltb (length spare) scratch_words) || (ltb (length terms) terms_words || short_banks relations own other)) ≡ true → checks ≡ refusedOutcome 6 0
  unfolding bank_list_checks banks_check
  short-is e = six (ltb (length scratch) scratch_words || ltb (length spare) scratch_words) (ltb (length terms) terms_words || short_banks relations own other) by_good e

  list_because : (n : ℕ) → ListRefusal terms relations own other scratch spare n → checks ≡ refusedOutcome n 0
  list_because n (short_terms h) = short-is (or_right (ltb (length scratch) scratch_words || ltb (length spare) scratch_words) _ (or_left _ (short_banks relations own other) (lt-ltb (length terms) terms_words h)))
  list_because n (short-banks h) = short-is (or_right (ltb (length scratch) scratch_words || ltb (length spare) scratch_words) _ (or_right (ltb (length terms) terms_words) _ (is_short relations own other h)))
  list_because n (short_scratch h) = short-is (or_left _ (ltb (length terms) terms_words || short_banks relations own other) (or_left _ (ltb (length spare) scratch_words) (lt-ltb (length scratch) scratch_words h)))
  list_because n (short_spare h) = short-is (or_left _ (ltb (length terms) terms_words || short_banks relations own other) (or_right (ltb (length scratch) scratch_words) _ (lt-ltb (length spare) scratch_words h)))
  list_because n (bad_terms L g) = long-is L ∙ rw g
  list_because n (bad_own L g s) = long-is L ∙ rw (g, s)
  list_because n (bad_other L g t) = long-is L ∙ rw (g, t) (rw (and-false (good_state (terms_of terms) (joined relations own))))

  -- What a set list's result says.
  abbrev Heard : Listing → Type 0
  Heard (counted n) = Unit {0}
  Heard (refusedList n l) = (l ≡ 0) × ListRefusal terms relations own other scratch spare n

  abbrev is_counted : Listing → Bool
  is_counted (counted n) = true
  is_counted (refusedList n l) = false

  module _ (rs : List Record) where
    abbrev lent : BankRun
    lent = record { records = rs; grants = 0; relations = relations; own = own; other = other; scratch = scratch; spare = spare }

    heard : Heard (bank_listed terms relations own other scratch spare rs)
    unfolding bank_listed
    heard = go checks told
      where
        go : (o : Outcome) → Told o → Heard (listing o (bank_singly terms relations own other scratch spare rs).grants)
        go passed t = tt
        go (refusedOutcome n l) t = t

    list_unmoved : (n l : ℕ) → bank_listed terms relations own other scratch spare rs ≡ refusedList n l → bank_left terms relations own other scratch spare rs ≡ lent
    unfolding bank_listed bank_left
    list_unmoved n l e = go checks e
      where
        go : (o : Outcome) → listing o (bank_singly terms relations own other scratch spare rs).grants ≡ refusedList n l →
            cond (has_passed o) (bank_singly terms relations own other scratch spare rs) lent ≡ lent
        go passed e = absurd (true≢false (ap is_counted e))
        go (refusedOutcome n l) e = refl

  module _ (j u v : ℕ) where
    abbrev given : Answer
    given = bank_answer terms relations own other scratch spare j u v

    checked : Fits terms relations own other scratch spare → BanksChecked terms relations own other
    checked f = record {
      long_terms = f.long.terms_long;
      long_banks = f.long.banks_long;
      good_terms = f.terms_good;
      good-own = f.own_good;
      good_other = f.other_good;
    }

    -- What an answer says of the memory.
    abbrev Said : Answer → Type 0
    Said (decided d) = Unit {0}
    Said done = Unit {0}
    Said (refused n l) = (l ≡ 0) × Refusal terms relations own other scratch spare j u v n

    by_nine : Fits terms relations own other scratch spare → named (terms_of terms) j u v ≡ false → given ≡ refused 9 0
    by_nine f e = sym (unnamed terms relations own other scratch spare j u v f.long.scratch_long f.long.spare_long (checked f) e)

    why_unnamed : Fits terms relations own other scratch spare → named (terms_of terms) j u v ≡ false → Refusal terms relations own other scratch spare j u v 9
    why_unnamed f e = go (ltb j (terms_of terms).events) refl (ltb u (terms_of terms).members) refl (ltb v (terms_of terms).members) refl e
      where
        go : (x : Bool) → ltb j (terms_of terms).events ≡ x → (y : Bool) → ltb u (terms_of terms).members ≡ y → (z : Bool) → ltb v (terms_of terms).members ≡ z →
            (x && (y && z)) ≡ false → Refusal terms relations own other scratch spare j u v 9
        go false x y _ z _ e = no_event f (ltb-false j (terms_of terms).events x)
        go true _ false y z _ e = no_initiator f (ltb-false u (terms_of terms).members y)
        go true _ true _ false z e = no_target f (ltb-false v (terms_of terms).members z)
        go true _ true _ true _ e = absurd (true≢false e)

    says : Said given
    says = go checks refl told
      where
        by_name : Fits terms relations own other scratch spare → (c : Bool) → named (terms_of terms) j u v ≡ c → Said given
        by_name f true n = subst Said
            (judged terms relations own other scratch spare j u v f.long.scratch_long f.long.spare_long (checked f) n
            {d = decide_now (terms_of terms) (state_of (joined relations own)) j u v} refl refl) tt
        by_name f false n = subst Said (sym (by_nine f n)) (refl, why_unnamed f n)

        go : (o : Outcome) → checks ≡ o → Told o → Said given
        go passed e f = by_name f (named (terms_of terms) j u v) refl
        go (refusedOutcome n l) e t = subst Said (sym (refused_alike terms relations own other scratch spare n l e j u v)) (t.0, as_list t.1)

    because : (n : ℕ) → Refusal terms relations own other scratch spare j u v n → given ≡ refused n 0
    because n (as_list r) = refused_alike terms relations own other scratch spare n 0 (list_because n r) j u v
    because n (no_event f h) = by_nine f (rw (le-ltb j (terms_of terms).events h))
    because n (no_initiator f h) = by_nine f (rw (le-ltb u (terms_of terms).members h) (and-false (ltb j (terms_of terms).events)))
    because n (no_target f h) =
        by_nine f (rw (le-ltb v (terms_of terms).members h) (simp and-false))

    unmoved : (n l : ℕ) → given ≡ refused n l →
        (relations_after terms relations own other scratch spare j u v ≡ relations)
        × (own_after terms relations own other scratch spare j u v ≡ own)
        × (other_after terms relations own other scratch spare j u v ≡ other)
        × ((lent : List ℕ) → cleared_after terms relations own other scratch spare j u v lent ≡ lent)
    unfolding relations_after own_after other_after cleared_after
    unmoved n l e = (rw e, rw e, rw e, λ lent. rw e)

-- A look or a request of a bank is refused with number n and a line exactly when the line is 0 and a reason for n fits;
-- then all memory of both banks is left as lent.
pub bank_refused_only : (terms relations own other scratch spare : List ℕ) (j u v n l : ℕ) →
    (bank_answer terms relations own other scratch spare j u v ≡ refused n l →
    (l ≡ 0) × Refusal terms relations own other scratch spare j u v n
    × (relations_after terms relations own other scratch spare j u v ≡ relations)
    × (own_after terms relations own other scratch spare j u v ≡ own)
    × (other_after terms relations own other scratch spare j u v ≡ other)
    × ((lent : List ℕ) → cleared_after terms relations own other scratch spare j u v lent ≡ lent))
    × (Refusal terms relations own other scratch spare j u v n → bank_answer terms relations own other scratch spare j u v ≡ refused n 0)
bank_refused_only terms relations own other scratch spare j u v n l = (
  (λ e.
      let s = subst (Said terms relations own other scratch spare j u v) e (says terms relations own other scratch spare j u v) in
      let m = unmoved terms relations own other scratch spare j u v n l e in
      (s.0, s.1, m.0, m.1, m.2, m.3)),
  because terms relations own other scratch spare j u v n,
)

-- The same of a set list of a bank, whatever its records.
pub list_refused_only : (terms relations own other scratch spare : List ℕ) (rs : List Record) (n l : ℕ) →
    (bank_listed terms relations own other scratch spare rs ≡ refusedList n l →
    (l ≡ 0) × ListRefusal terms relations own other scratch spare n
    × (bank_left terms relations own other scratch spare rs
    ≡ record { records = rs; grants = 0; relations = relations; own = own; other = other; scratch = scratch; spare = spare }))
    × (ListRefusal terms relations own other scratch spare n → bank_listed terms relations own other scratch spare rs ≡ refusedList n 0)
unfolding bank_listed
list_refused_only terms relations own other scratch spare rs n l = (
  (λ e.
      let s = subst (Heard terms relations own other scratch spare) e (heard terms relations own other scratch spare rs) in
      (s.0, s.1, list_unmoved terms relations own other scratch spare rs n l e)),
  (λ r. ap (λ (o : Outcome). listing o (bank_singly terms relations own other scratch spare rs).grants) (list_because terms relations own other scratch spare n r)),
)
