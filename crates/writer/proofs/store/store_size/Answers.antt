-- `store_size`: terms and state are checked first, which leaves the index.
use Rattle.std.proofs.Common.{refl}
use Rattle.std.proofs.lemmas.Result.{err_from_is_err_and}
use Rattle.memory.proofs.Outcomes.{passed_checked}
use Rattle.writer.specs.Write.{stored_text, store_size_gives}
use Rattle.writer.proofs.Fitting.{event_small, size_unchecked, size_whole}
use Rattle.writer.proofs.store.store_size.Goals as goal

pub returns-in_err-inspect : goal.returns-in_err-inspect
unfolding store_size_gives
returns-in_err-inspect c =
    let p = err_from_is_err_and c.from_residual.result c.from_residual.ensures.1 in
    rw (p.1, p.2) (size_unchecked _ (stored_text _ _) _ _ c.in_err-inspect.ensures.result_value)

pub pair_tables-requires : goal.pair_tables-requires
pair_tables-requires c =
    let i = c.in_ok-inspect.ensures in
    let p = passed_checked _ _ i.result_value in (p.long_terms, p.good_terms, i.indexed refl)

pub count-requires : goal.count-requires
count-requires c =
    let e = c.in_ok-inspect.ensures.result_value in (c.pair_tables.ensures, (passed_checked _ _ e).long_state, event_small _ _ e)

pub returns : goal.returns
unfolding store_size_gives
returns c = size_whole _ (stored_text _ _) c.in_ok-inspect.ensures.result_value _ c.count.ensures
