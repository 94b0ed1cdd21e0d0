-- A state with a past is refused with 12; then the count of bytes is compared with the length of the output.
use Rattle.std.proofs.Common.{arith}
use Rattle.memory.proofs.Outcomes.{passed_checked}
use Rattle.writer.specs.Write.{written_text, write_gives}
use Rattle.writer.proofs.Fitting.{ends_short, ends_whole}
use Rattle.writer.proofs.OldForm.{found, ends_fresh, ends_past}
use Rattle.writer.proofs.write.write_checked.Goals as goal

pub returns-then-not-is_fresh-clause-result_value : goal.returns-then-not-is_fresh-clause-result_value
returns-then-not-is_fresh-clause-result_value c = (ends_past _ _ _ c.requires (found _ _ c.if-not-is_fresh.true c.is_fresh.ensures)).0

pub returns-then-not-is_fresh-clause-out_after : goal.returns-then-not-is_fresh-clause-out_after
returns-then-not-is_fresh-clause-out_after c = (ends_past _ _ _ c.requires (found _ _ c.if-not-is_fresh.true c.is_fresh.ensures)).1

pub count-n-requires : goal.count-n-requires
count-n-requires c = omega (arith, (passed_checked _ _ c.requires).long_state)

pub returns-then-out-n-clause-result_value : goal.returns-then-out-n-clause-result_value
unfolding write_gives
returns-then-out-n-clause-result_value c =
    (ends_fresh _ _ _ c.requires (found _ _ c.if-not-is_fresh.false c.is_fresh.ensures) _ _
    (ends_short _ (written_text _ _) _ c.requires _ c.count-n.ensures c.if-out-n.true)).0

pub returns-then-out-n-clause-out_after : goal.returns-then-out-n-clause-out_after
unfolding write_gives
returns-then-out-n-clause-out_after c =
    (ends_fresh _ _ _ c.requires (found _ _ c.if-not-is_fresh.false c.is_fresh.ensures) _ _
    (ends_short _ (written_text _ _) _ c.requires _ c.count-n.ensures c.if-out-n.true)).1

pub put_text-requires : goal.put_text-requires
put_text-requires c = (omega (arith, (passed_checked _ _ c.requires).long_state), omega arith)

pub returns-clause-result_value : goal.returns-clause-result_value
unfolding write_gives
returns-clause-result_value c =
    (ends_fresh _ _ _ c.requires (found _ _ c.if-not-is_fresh.false c.is_fresh.ensures) _ _
    (ends_whole _ (written_text _ _) _ c.requires _ c.count-n.ensures c.if-out-n.false _ _ c.put_text.ensures.put)).0

pub returns-clause-out_after : goal.returns-clause-out_after
unfolding write_gives
returns-clause-out_after c =
    (ends_fresh _ _ _ c.requires (found _ _ c.if-not-is_fresh.false c.is_fresh.ensures) _ _
    (ends_whole _ (written_text _ _) _ c.requires _ c.count-n.ensures c.if-out-n.false _ _ c.put_text.ensures.put)).1
