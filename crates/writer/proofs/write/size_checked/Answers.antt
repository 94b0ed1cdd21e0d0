-- The count of bytes of a fresh start, 12 of any other state.
use Rattle.std.proofs.Common.{arith}
use Rattle.memory.proofs.Outcomes.{passed_checked}
use Rattle.writer.specs.Write.{written_text, size_gives}
use Rattle.writer.proofs.Fitting.{size_whole}
use Rattle.writer.proofs.OldForm.{found, size_ends, size_past}
use Rattle.writer.proofs.write.size_checked.Goals as goal

pub count-requires : goal.count-requires
count-requires c = omega (arith, (passed_checked _ _ c.requires).long_state)

pub returns-then-is_fresh : goal.returns-then-is_fresh
unfolding size_gives
returns-then-is_fresh c =
    size_ends _ _ c.requires (found _ _ c.if-is_fresh.true c.is_fresh.ensures) _
    (size_whole _ (written_text _ _) c.requires _ c.count.ensures)

pub returns-else-is_fresh : goal.returns-else-is_fresh
returns-else-is_fresh c = size_past _ _ c.requires (found _ _ c.if-is_fresh.false c.is_fresh.ensures)
