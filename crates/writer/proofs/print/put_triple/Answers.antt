-- The fields one after the other, and the line feed.
use Rattle.std.proofs.Common.{arith}
use Rattle.fields.proofs.Output.{put_then}
use Rattle.writer.proofs.Placed.{put_next}
use Rattle.writer.proofs.print.put_triple.Goals as goal

pub returns-clause-put : goal.returns-clause-put
returns-clause-put c =
    let f = put_next _ _ _ c.put_head-first.ensures.put c.put_field-second.ensures.put in
    put_then (put_next _ _ _ f c.put_field-third.ensures.put) (c.put_byte.ensures.put_if.all (omega arith))
