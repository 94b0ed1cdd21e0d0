-- `store`: terms and state are checked first, which leaves the index.
use Rattle.std.proofs.Common.{refl}
use Rattle.std.proofs.lemmas.Result.{err_from_is_err_and}
use Rattle.memory.proofs.Outcomes.{passed_checked}
use Rattle.writer.specs.Write.{stored_text, store_gives, store_leaves}
use Rattle.writer.proofs.Fitting.{ends_unchecked}
use Rattle.writer.proofs.store.store.Goals as goal

pub returns-in_err-inspect-clause-result_value : goal.returns-in_err-inspect-clause-result_value
unfolding store_gives store_leaves
returns-in_err-inspect-clause-result_value c =
    let p = err_from_is_err_and c.from_residual.result c.from_residual.ensures.1 in
    rw (p.1, p.2) (ends_unchecked _ (stored_text _ _) _ _ _ c.in_err-inspect.ensures.result_value).0

pub returns-in_err-inspect-clause-out_after : goal.returns-in_err-inspect-clause-out_after
unfolding store_gives store_leaves
returns-in_err-inspect-clause-out_after c = (ends_unchecked _ (stored_text _ _) _ _ _ c.in_err-inspect.ensures.result_value).1

pub pair_tables-requires : goal.pair_tables-requires
pair_tables-requires c =
    let i = c.in_ok-inspect.ensures in
    let p = passed_checked _ _ i.result_value in (p.long_terms, p.good_terms, i.indexed refl)

pub store_checked-requires : goal.store_checked-requires
store_checked-requires c = (c.in_ok-inspect.ensures.result_value, c.pair_tables.ensures)
