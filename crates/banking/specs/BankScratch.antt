-- Lists of steps of two banks that differ only in scratches that are enough (docs/SCOPE.md, Memory).
use Rattle.std.specs.Prelude.{ℕ, ◌≤◌, Bool, List, [], ◌∷◌, length}
use Rattle.theory.specs.Limits.{scratch_words}
use Rattle.calls.specs.declared.Record.{Record}
use Rattle.banking.specs.Banks.{Bank}
use Rattle.banking.specs.BankRuns.{Lent, LentBankCall, LentBankStep}
use Rattle.banking.specs.BankRuns.LentBankStep.{once, set_list, revise}

-- The scratch of the bank that is called and that of the other are long enough.
pub record Enough (scratch spare : List ℕ) : Type 0 where
  pub own : scratch_words ≤ length scratch
  pub other : scratch_words ≤ length spare

-- A look or a request of a bank, with the two scratches.
abbrev pub bank_call : Bank → (look : Bool) → (j u v : ℕ) → (scratch spare : List ℕ) → LentBankCall
bank_call b look j u v scratch spare = record {
  bank = b;
  call = record { look = look; event = j; from = u; to = v; scratch = scratch };
  other_scratch = spare;
}

pub data SameBankSteps : List LentBankStep → List LentBankStep → Type 0 where
  none : SameBankSteps [] []
  calls : (b : Bank) (look : Bool) (j u v : ℕ) (sc sp sc' sp' : List ℕ) → Enough sc sp → Enough sc' sp' →
      (ss ts : List LentBankStep) → SameBankSteps ss ts →
      SameBankSteps (once (bank_call b look j u v sc sp) ∷ ss) (once (bank_call b look j u v sc' sp') ∷ ts)
  set_lists : (b : Bank) (rs : List Record) (sc sp sc' sp' : List ℕ) → Enough sc sp → Enough sc' sp' →
      (ss ts : List LentBankStep) → SameBankSteps ss ts →
      SameBankSteps (set_list b sc sp rs ∷ ss) (set_list b sc' sp' rs ∷ ts)
  new_terms : (new : List ℕ) (second : Lent) (ss ts : List LentBankStep) → SameBankSteps ss ts →
      SameBankSteps (revise new second ∷ ss) (revise new second ∷ ts)
