-- `inspect_bank_list`: the scratches, and then terms and banks.
use Rattle.std.proofs.Common.{◌≡◌, false, ◌||◌, List, length, ltb, ℕ}
use mathlib.Core.Path.{sym, ◌∙◌}
use Rattle.theory.specs.Limits.{scratch_words}
use Rattle.memory.specs.Outcome.{banks_check}
use Rattle.banking.specs.BankList.{bank_list_checks}
use Rattle.banking.proofs.ListSingly.{list_short}
use Rattle.monitor.proofs.bank_list.inspect_bank_list.Goals as goal

list_checked : (terms relations own other scratch spare : List ℕ) → (ltb (length scratch) scratch_words || ltb (length spare) scratch_words) ≡ false →
    banks_check terms relations own other ≡ bank_list_checks terms relations own other scratch spare
unfolding bank_list_checks
list_checked terms relations own other scratch spare e = rw e

pub returns-then-scratch-spare : goal.returns-then-scratch-spare
returns-then-scratch-spare c = sym (list_short _ _ _ _ _ _ c.if-scratch-spare.true)

pub returns : goal.returns
returns c = c.inspect.ensures.result_value ∙ list_checked _ _ _ _ _ _ c.if-scratch-spare.false
