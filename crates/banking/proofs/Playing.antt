-- The memory in use holds what the keeper's books say: begun by opening, and kept by a call of a bank.
use Prim.Native.Nat.{ℕ, ◌≤◌}
use native.Mathlib.Omega.{arith}
use mathlib.Core.Path.{◌≡◌, refl, sym, ap, subst, ◌∙◌}
use mathlib.Core.Bool.{true, cond}
use mathlib.Core.List.{List, [], ◌++◌}
use lib.Dec.{ltb}
use lib.ListN.{length, drop}
use lib.Seq.{drop_at}
use Rattle.theory.specs.Meaning.{Starts}
use Rattle.theory.specs.Terms.{Terms, Alike}
use Rattle.theory.specs.Limits.{scratch_words}
use Rattle.theory.specs.Moment.{Moment}
use Rattle.theory.specs.Keeper.{Call, Answer, judge, keep}
use Rattle.theory.specs.Keeper.Answer.{refused}
use Rattle.theory.specs.Fit.{Good}
use Rattle.memory.specs.Layout.{terms_words, joined, terms_of}
use Rattle.memory.specs.Checks.{good_memory}
use Rattle.memory.specs.Outcome.{banks_open}
use Rattle.memory.specs.Outcome.Outcome.{passed}
use Rattle.theory.proofs.AlikeTerms.{alike_refl, alike_sym, good_alike, keep_alike}
use Rattle.memory.proofs.Accepted.{good}
use Rattle.calls.proofs.MemoryInvariant.{agrees}
use Rattle.banking.specs.Banks.{BankCall, Books, Records, as_seen, keep_bank, keep_bank_step}
use Rattle.banking.specs.Banks.Bank.{left, right}
use Rattle.banking.specs.Banks.BankStep.{call}
use Rattle.banking.specs.BankRuns.{Lent, LentBankCall, fed_bank, gives_in, leaves_in, BanksInUse, with_lent, opened_in_use, BanksAgree, opened_books}
use Rattle.banking.proofs.JoinedState.{joined_long}
use Rattle.banking.proofs.OneBankCall.{Stands, bank_step}
use Rattle.banking.proofs.BankOpening.{banks_opened, first_stands}

-- What a call makes goes by what the terms say.
judge_alike : (T U : Terms) → Alike T U → Good T → (s : Starts) (Ms : List Moment) (c : Call) → judge T s Ms c ≡ judge U s Ms c
unfolding keep
judge_alike T U l g s Ms c =
    back (judge T s Ms c) ∙ ap (λ (k : Answer × List Moment). (k.0, drop (length Ms) k.1)) (keep_alike T U l g s Ms c) ∙ sym (back (judge U s Ms c))
  where
    back : (k : Answer × List Moment) → ◌≡◌ {A = Answer × List Moment} k (k.0, drop (length Ms) (Ms ++ k.1))
    back k = ap (λ (Ns : List Moment). (k.0, Ns)) (sym (drop_at Ms k.1 (length Ms) refl))

-- The terms in use are alike the keeper's, and each bank's state holds what its record says.
pub record BanksPlaying (B : Books) (P : BanksInUse) : Type 0 where
  pub like : Alike B.terms (terms_of P.terms)
  pub long : terms_words ≤ length P.terms
  pub good-memory : good_memory P.terms ≡ true
  pub stands : Stands P.terms long (good P.terms good-memory) good-memory B.start P.before P.lent B.moments

pub opened_playing : (terms : List ℕ) (W : Lent) → banks_open terms W.relations (W.own left) (W.own right) ≡ passed →
    BanksPlaying (opened_books terms W) (opened_in_use terms W)
opened_playing terms W e =
    let o = banks_opened terms W.relations (W.own left) (W.own right) e in
    record { like = alike_refl (terms_of terms); long = o.terms_long; good-memory = o.terms_good; stands = first_stands terms W e }

module _ (B : Books) (P : BanksInUse) (p : BanksPlaying B P) where
  abbrev U : Terms
  U = terms_of P.terms

  abbrev fine : Good U
  fine = good P.terms p.good-memory

  same_kept : (c : BankCall) → keep_bank B.terms B.start B.moments c ≡ keep_bank U B.start B.moments c
  unfolding keep_bank
  same_kept c = ap made (judge_alike B.terms U p.like (good_alike U B.terms (alike_sym p.like) fine) (B.start c.bank) (B.moments c.bank) c.call)
    where
      told : Answer × List Moment → Answer × List Moment
      told k = cond (ltb c.other_scratch scratch_words) (refused 6 0, []) k

      made : Answer × List Moment → Answer × Records
      made k = ((told k).0, λ d. B.moments d ++ as_seen d c.bank (told k).1)

  pub play_once : (c : LentBankCall) →
      (gives_in P.terms P.lent c ≡ (keep_bank_step B (call (fed_bank c))).0)
      × BanksPlaying (keep_bank_step B (call (fed_bank c))).1 (with_lent P (leaves_in P.terms P.lent c))
  unfolding keep_bank_step
  play_once c =
      let now = bank_step P.terms p.long fine p.good-memory B.start P.before P.lent B.moments p.stands c in
      let same = same_kept (fed_bank c) in (
        now.0 ∙ ap (λ (k : Answer × Records). k.0) (sym same),
        record {
          like = p.like;
          long = p.long;
          good-memory = p.good-memory;
          stands = subst (λ (k : Answer × Records). Stands P.terms p.long fine p.good-memory B.start P.before (leaves_in P.terms P.lent c) k.1)
              (sym same) now.1;
        },
      )

  -- What the memory in use then says of each bank's record.
  pub banks_agree : BanksAgree U B.start P.before P.lent B.moments
  banks_agree = record {
    bank = λ d. agrees U (B.start d) fine (joined P.before.relations (P.before.own d)) (joined P.lent.relations (P.lent.own d)) (B.moments d)
        (let z = joined_long P.before.relations (P.before.own d) p.stands.lent (p.stands.own_lent d) in omega (arith, z)) (p.stands.bank d);
    long = p.stands.long;
    own_long = p.stands.own_long;
    further = p.stands.further;
    own_further = p.stands.own_further;
  }
