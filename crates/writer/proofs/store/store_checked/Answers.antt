-- The count of bytes is compared with the length of the output.
use Rattle.std.proofs.Common.{arith}
use Rattle.memory.proofs.Outcomes.{passed_checked}
use Rattle.writer.specs.Write.{stored_text, store_gives, store_leaves}
use Rattle.writer.proofs.Fitting.{event_small, ends_short, ends_whole}
use Rattle.writer.proofs.store.store_checked.Goals as goal

pub count-n-requires : goal.count-n-requires
count-n-requires c = (c.requires.1, (passed_checked _ _ c.requires.0).long_state, event_small _ _ c.requires.0)

pub returns-then-out-n-clause-result_value : goal.returns-then-out-n-clause-result_value
unfolding store_gives store_leaves
returns-then-out-n-clause-result_value c = (ends_short _ (stored_text _ _) _ c.requires.0 _ c.count-n.ensures c.if-out-n.true).0

pub returns-then-out-n-clause-out_after : goal.returns-then-out-n-clause-out_after
unfolding store_gives store_leaves
returns-then-out-n-clause-out_after c = (ends_short _ (stored_text _ _) _ c.requires.0 _ c.count-n.ensures c.if-out-n.true).1

pub put_stored-requires : goal.put_stored-requires
put_stored-requires c = (c.requires.1, (passed_checked _ _ c.requires.0).long_state, event_small _ _ c.requires.0, omega arith)

pub returns-clause-result_value : goal.returns-clause-result_value
unfolding store_gives store_leaves
returns-clause-result_value c = (ends_whole _ (stored_text _ _) _ c.requires.0 _ c.count-n.ensures c.if-out-n.false _ _ c.put_stored.ensures.put).0

pub returns-clause-out_after : goal.returns-clause-out_after
unfolding store_gives store_leaves
returns-clause-out_after c = (ends_whole _ (stored_text _ _) _ c.requires.0 _ c.count-n.ensures c.if-out-n.false _ _ c.put_stored.ensures.put).1
