use Rattle.std.proofs.Common.{arith}
use Rattle.writer.proofs.PutLines.{running_start, running_more}
use Rattle.writer.proofs.write.put_entries.Goals as goal

pub loop-n-init : goal.loop-n-init
loop-n-init c = running_start _ _ _ _ _

pub loop-n-preserved : goal.loop-n-preserved
loop-n-preserved c = let e = c.put_entry_of-next.ensures in running_more (omega arith) c.loop-n.invariant e.put e.upper_bound
