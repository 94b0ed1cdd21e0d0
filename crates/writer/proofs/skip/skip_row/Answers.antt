use Rattle.std.proofs.Common.{arith}
use Rattle.writer.proofs.PutLines.{running_start, running_more}
use Rattle.writer.proofs.skip.skip_row.Goals as goal

pub loop-b-init : goal.loop-b-init
loop-b-init c = running_start _ _ _ _ _

pub loop-b-preserved : goal.loop-b-preserved
loop-b-preserved c = let e = c.skip_bit-next.ensures in running_more (omega arith) c.loop-b.invariant e.put e.upper_bound
