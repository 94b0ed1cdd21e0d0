-- An answer's number fits.
use Rattle.std.proofs.Common.{◌<◌}
use mathlib.Core.Path.{sym, subst}
use Rattle.theory.specs.Keeper.{Answer}
use Rattle.calls.specs.SetList.{answer_number}
use Rattle.monitor.proofs.BankListing.{number_small}
use Rattle.monitor.proofs.bank_list.step.Goals as goal

pub number_of-requires : goal.number_of-requires
number_of-requires c =
    subst (λ (a : Answer). answer_number a < 4294967296) (sym c.request-a.ensures.result_value) (number_small _ _ _ _ _ _ _ _ _)
