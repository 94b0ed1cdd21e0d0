-- A set list of a bank is single requests of that bank one after another: what its result, its answers and its refusals
-- tell.
use Prim.Native.Nat.{ℕ, zero, suc, ◌+◌, ◌≤◌, ◌<◌}
use native.Mathlib.Omega.{arith}
use mathlib.Core.Path.{◌≡◌, refl, sym, ap, ap₂, ◌∙◌}
use mathlib.Core.Logic.{inl, inr}
use mathlib.Core.Bool.{Bool, true, false, cond, ◌||◌, false≢true}
use mathlib.Core.List.{List, [], ◌∷◌}
use lib.Dec.{eqb, ltb}
use lib.ListN.{length, get_or}
use borrow.Author.Tests.{le-ltb, ltb-true, ltb-false}
use Rattle.theory.specs.Keeper.Answer.{refused}
use Rattle.theory.specs.Limits.{scratch_words}
use Rattle.theory.specs.Tables.{named, decide_now}
use Rattle.memory.specs.Layout.{joined, terms_of, state_of}
use Rattle.memory.specs.Outcome.{Outcome, has_passed, banks_check}
use Rattle.memory.specs.Outcome.Outcome.{passed, refused as refusedOutcome}
use Rattle.calls.specs.Monitor.{granted}
use Rattle.calls.specs.SetList.{answer_number, gain_of, ones, Plain, blank}
use Rattle.calls.specs.SetList.Listing.{counted, refused as refusedList}
use Rattle.calls.specs.Agreement.{answer_in}
use Rattle.calls.specs.declared.Record.{Record}
use Rattle.banking.specs.Banking.{bank_answer, relations_after, own_after, other_after, cleared_after}
use Rattle.banking.specs.BankList.{bank_singly, bank_list_checks, bank_listed, bank_left}
use Rattle.banking.proofs.BankAnswers.{BanksChecked, passed_checked, short_scratch, short_spare, unchecked, unnamed, judged, each_answer}
use Rattle.banking.proofs.Moved.{after_checked, cleared_long}

-- ---- the checks

module _ (terms relations own other scratch spare : List ℕ) where
  pub list_short : (ltb (length scratch) scratch_words || ltb (length spare) scratch_words) ≡ true → bank_list_checks terms relations own other scratch spare ≡ refusedOutcome 6 0
  unfolding bank_list_checks
  list_short e = rw e

  pub list_checked : scratch_words ≤ length scratch → scratch_words ≤ length spare → bank_list_checks terms relations own other scratch spare ≡ banks_check terms relations own other
  unfolding bank_list_checks
  list_checked l k = rw (le-ltb (length scratch) scratch_words l, le-ltb (length spare) scratch_words k)

  -- A pass says that both scratches are long enough, and that terms and both banks pass.
  list_passed : bank_list_checks terms relations own other scratch spare ≡ passed →
      (scratch_words ≤ length scratch) × (scratch_words ≤ length spare) × BanksChecked terms relations own other
  unfolding bank_list_checks
  list_passed e = go (ltb (length scratch) scratch_words) refl (ltb (length spare) scratch_words) refl (sym e)
    where
      go : (a : Bool) → ltb (length scratch) scratch_words ≡ a → (b : Bool) → ltb (length spare) scratch_words ≡ b →
          passed ≡ cond (a || b) (refusedOutcome 6 0) (banks_check terms relations own other) →
          (scratch_words ≤ length scratch) × (scratch_words ≤ length spare) × BanksChecked terms relations own other
      go true _ b _ e = absurd (false≢true (sym (ap has_passed e)))
      go false _ true _ e = absurd (false≢true (sym (ap has_passed e)))
      go false s false t e = (ltb-false (length scratch) scratch_words s, ltb-false (length spare) scratch_words t, passed_checked terms relations own other e)

  -- What fails a list's check fails each single request by the same number and line.
  pub refused_alike : (n l : ℕ) → bank_list_checks terms relations own other scratch spare ≡ refusedOutcome n l → (j u v : ℕ) → bank_answer terms relations own other scratch spare j u v ≡ refused n l
  unfolding bank_list_checks
  refused_alike n l e j u v = go (ltb (length scratch) scratch_words) refl (ltb (length spare) scratch_words) refl e
    where
      number_at : Outcome → ℕ
      number_at passed = 0
      number_at (refusedOutcome n l) = n

      line_at : Outcome → ℕ
      line_at passed = 0
      line_at (refusedOutcome n l) = l

      go : (a : Bool) → ltb (length scratch) scratch_words ≡ a → (b : Bool) → ltb (length spare) scratch_words ≡ b →
          cond (a || b) (refusedOutcome 6 0) (banks_check terms relations own other) ≡ refusedOutcome n l → bank_answer terms relations own other scratch spare j u v ≡ refused n l
      go true s b t e =
          sym (short_scratch terms relations own other scratch spare j u v (ltb-true (length scratch) scratch_words s)) ∙ (λ i. refused (number_at (e i)) (line_at (e i)))
      go false s true t e =
          sym (short_spare terms relations own other scratch spare j u v (ltb-true (length spare) scratch_words t)) ∙ (λ i. refused (number_at (e i)) (line_at (e i)))
      go false s false t e =
          sym (unchecked terms relations own other scratch spare j u v (ltb-false (length scratch) scratch_words s) (ltb-false (length spare) scratch_words t) n l (sym e))

  -- ---- what the numbers tell

  module _ (j u v : ℕ) where
    -- A number of 1 is a grant.
    one_granted : gain_of (answer_number (bank_answer terms relations own other scratch spare j u v)) ≡ cond (granted (bank_answer terms relations own other scratch spare j u v)) 1 0
    unfolding gain_of
    one_granted =
        each_answer terms relations own other scratch spare j u v (λ a. ◌≡◌ {A = ℕ} (cond (eqb (answer_number a) 1) 1 0) (cond (granted a) 1 0)) refl refl refl refl refl refl

    -- A number tells its answer.
    pub answer_back : answer_in (answer_number (bank_answer terms relations own other scratch spare j u v)) ≡ bank_answer terms relations own other scratch spare j u v
    answer_back = each_answer terms relations own other scratch spare j u v (λ a. answer_in (answer_number a) ≡ a) refl refl refl refl refl refl

    plain_number : BanksChecked terms relations own other → scratch_words ≤ length scratch → scratch_words ≤ length spare →
        Plain (answer_number (bank_answer terms relations own other scratch spare j u v))
    plain_number c l k = by_name (named (terms_of terms) j u v) refl
      where
        by_verdict : named (terms_of terms) j u v ≡ true → (d : Bool) → d ≡ decide_now (terms_of terms) (state_of (joined relations own)) j u v →
            Plain (answer_number (bank_answer terms relations own other scratch spare j u v))
        by_verdict n true e = inr (inl (sym (ap answer_number (judged terms relations own other scratch spare j u v l k c n refl e))))
        by_verdict n false e = inl (sym (ap answer_number (judged terms relations own other scratch spare j u v l k c n refl e)))

        by_name : (n : Bool) → named (terms_of terms) j u v ≡ n → Plain (answer_number (bank_answer terms relations own other scratch spare j u v))
        by_name true n = by_verdict n (decide_now (terms_of terms) (state_of (joined relations own)) j u v) refl
        by_name false n = inr (inr (sym (ap answer_number (unnamed terms relations own other scratch spare j u v l k c n))))

-- ---- single requests one after another

module _ (terms : List ℕ) where
  counts_ones : (relations own other scratch spare : List ℕ) (rs : List Record) →
      (bank_singly terms relations own other scratch spare rs).grants ≡ ones (bank_singly terms relations own other scratch spare rs).records
  unfolding bank_singly ones
  counts_ones relations own other scratch spare [] = refl
  counts_ones relations own other scratch spare (r ∷ rs) =
      ap₂ ◌+◌ (sym (one_granted terms relations own other scratch spare r.event r.from r.to))
      (counts_ones
      (relations_after terms relations own other scratch spare r.event r.from r.to)
      (own_after terms relations own other scratch spare r.event r.from r.to)
      (other_after terms relations own other scratch spare r.event r.from r.to)
      (cleared_after terms relations own other scratch spare r.event r.from r.to scratch)
      (cleared_after terms relations own other scratch spare r.event r.from r.to spare) rs)

  plain_answers : (relations own other scratch spare : List ℕ) → BanksChecked terms relations own other → scratch_words ≤ length scratch → scratch_words ≤ length spare →
      (rs : List Record) (i : ℕ) → i < length rs → Plain (get_or (bank_singly terms relations own other scratch spare rs).records i blank).answer
  unfolding bank_singly
  plain_answers relations own other scratch spare c l k [] i b = absurd (omega (arith, b))
  plain_answers relations own other scratch spare c l k (r ∷ rs) zero b = plain_number terms relations own other scratch spare r.event r.from r.to c l k
  plain_answers relations own other scratch spare c l k (r ∷ rs) (suc i) b =
      plain_answers
      (relations_after terms relations own other scratch spare r.event r.from r.to)
      (own_after terms relations own other scratch spare r.event r.from r.to)
      (other_after terms relations own other scratch spare r.event r.from r.to)
      (cleared_after terms relations own other scratch spare r.event r.from r.to scratch)
      (cleared_after terms relations own other scratch spare r.event r.from r.to spare)
      (after_checked terms relations own other scratch spare r.event r.from r.to c)
      (omega (arith, l, cleared_long terms relations own other scratch spare r.event r.from r.to scratch l))
      (omega (arith, k, cleared_long terms relations own other scratch spare r.event r.from r.to spare k)) rs i (omega (arith, b))

-- Where the checks pass, a set list of a bank leaves what single requests of it one after another leave, counts their
-- grants, which are the answers 1, and no record gets 6, 7 or 8. Where a check fails, the list is refused by its number
-- and line, all memory is as lent, and every single request of the bank would be refused alike.
pub bank_list_singly : (terms relations own other scratch spare : List ℕ) (rs : List Record) →
    (bank_list_checks terms relations own other scratch spare ≡ passed →
    (bank_left terms relations own other scratch spare rs ≡ bank_singly terms relations own other scratch spare rs)
    × (bank_listed terms relations own other scratch spare rs ≡ counted (ones (bank_left terms relations own other scratch spare rs).records))
    × ((i : ℕ) → i < length rs → Plain (get_or (bank_left terms relations own other scratch spare rs).records i blank).answer))
    × ((n l : ℕ) → bank_list_checks terms relations own other scratch spare ≡ refusedOutcome n l →
    (bank_listed terms relations own other scratch spare rs ≡ refusedList n l)
    × (bank_left terms relations own other scratch spare rs
    ≡ record { records = rs; grants = 0; relations = relations; own = own; other = other; scratch = scratch; spare = spare })
    × ((j u v : ℕ) → bank_answer terms relations own other scratch spare j u v ≡ refused n l))
unfolding bank_left bank_listed
bank_list_singly terms relations own other scratch spare rs = (
  (λ e.
      let p = list_passed terms relations own other scratch spare e in
      rw e (refl, ap counted (counts_ones terms relations own other scratch spare rs), plain_answers terms relations own other scratch spare p.2 p.0 p.1 rs)),
  (λ n l e. rw e (refl, refl, refused_alike terms relations own other scratch spare n l e)),
)
