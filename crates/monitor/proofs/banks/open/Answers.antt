-- `open`: the checks, then moment 0 of the first bank, and its copy.
use Rattle.std.proofs.Common.{refl, arith}
use mathlib.Core.Path.{sym}
use lib.Seq.{length-take-le}
use Rattle.banking.proofs.BankOpening.{banks_opened, own_unopened}
use Rattle.monitor.proofs.BankBegun as begun
use Rattle.monitor.proofs.banks.open.Goals as goal

pub returns-in_err-inspect_opening-clause-first_after :
    goal.returns-in_err-inspect_opening-clause-first_after
returns-in_err-inspect_opening-clause-first_after c = own_unopened _ _ _ _ _ _ c.in_err-inspect_opening.ensures.result_value _

pub returns-in_err-inspect_opening-clause-second_after :
    goal.returns-in_err-inspect_opening-clause-second_after
returns-in_err-inspect_opening-clause-second_after c = own_unopened _ _ _ _ _ _ c.in_err-inspect_opening.ensures.result_value _

pub first_moment-requires-clause-terms_words_in_bounds :
    goal.first_moment-requires-clause-terms_words_in_bounds
first_moment-requires-clause-terms_words_in_bounds c =
    let o = banks_opened _ _ _ _ (sym c.in_ok-inspect_opening.ensures.result_value) in (o.terms_long, o.terms_good, c.in_ok-inspect_opening.ensures.indexed refl)

pub first_moment-requires-clause-relation_words_in_bounds :
    goal.first_moment-requires-clause-relation_words_in_bounds
first_moment-requires-clause-relation_words_in_bounds c =
    let o = banks_opened _ _ _ _ (sym c.in_ok-inspect_opening.ensures.result_value) in (o.banks_long.relations_long, o.banks_long.own_long, o.relations_good)

pub slice_bounds-copy-end : goal.slice_bounds-copy-end
slice_bounds-copy-end c = omega (arith, (banks_opened _ _ _ _ (sym c.in_ok-inspect_opening.ensures.result_value)).banks_long.other_long)

pub copy-requires : goal.copy-requires
copy-requires c =
    let o = banks_opened _ _ _ _ (sym c.in_ok-inspect_opening.ensures.result_value) in
    omega (arith, c.first_moment.auto.own, o.banks_long.own_long, length-take-le 2049 c.args.second.now o.banks_long.other_long)

pub returns-clause-first_after : goal.returns-clause-first_after
returns-clause-first_after c =
    let e = sym c.in_ok-inspect_opening.ensures.result_value in
    begun.opened_own _ _ _ _ e _ _ (banks_opened _ _ _ _ e).banks_long.own_long c.first_moment.ensures

pub returns-clause-second_after : goal.returns-clause-second_after
returns-clause-second_after c =
    let e = sym c.in_ok-inspect_opening.ensures.result_value in
    begun.opened_copy _ _ _ _ e (begun.opened_own _ _ _ _ e _ _ (banks_opened _ _ _ _ e).banks_long.own_long c.first_moment.ensures) c.copy.ensures
