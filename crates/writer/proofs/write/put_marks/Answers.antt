use Rattle.std.proofs.Common.{arith}
use Rattle.writer.proofs.PutLines.{running_start, running_more}
use Rattle.writer.proofs.write.put_marks.Goals as goal

pub loop-j-init : goal.loop-j-init
loop-j-init c = running_start _ _ _ _ _

pub loop-j-preserved : goal.loop-j-preserved
loop-j-preserved c = let e = c.put_mark_of-next.ensures in running_more (omega arith) c.loop-j.invariant e.put e.upper_bound
