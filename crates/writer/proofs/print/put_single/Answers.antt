-- The first fields and the line feed.
use Rattle.std.proofs.Common.{arith}
use Rattle.fields.proofs.Output.{put_then}
use Rattle.writer.proofs.print.put_single.Goals as goal

pub returns-clause-put : goal.returns-clause-put
returns-clause-put c = put_then c.put_head-first.ensures.put (c.put_byte.ensures.put_if.all (omega arith))
