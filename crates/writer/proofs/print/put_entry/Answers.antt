-- The fields one after the other, and the line feed.
use Rattle.std.proofs.Common.{arith}
use Rattle.file.specs.Line.{fields_of}
use Rattle.fields.proofs.Output.{put_then}
use Rattle.writer.proofs.Placed.{put_next}
use Rattle.writer.proofs.print.put_entry.Goals as goal

pub returns-then-op-clause-put : goal.returns-then-op-clause-put
unfolding fields_of
returns-then-op-clause-put c =
    let f = put_next _ _ _ c.put_head-first.ensures.put c.put_operator_field-second.ensures.put in
    let g = put_next _ _ _ f c.put_field-third.ensures.put in
    let h = put_next _ _ _ g c.put_field-fourth.ensures.put in
    rw c.if-op.true (put_then (put_next _ _ _ h c.put_field-fifth.ensures.put) (c.put_byte.ensures.put_if.all (omega arith)))

pub returns-clause-put : goal.returns-clause-put
unfolding fields_of
returns-clause-put c =
    let f = put_next _ _ _ c.put_head-first.ensures.put c.put_operator_field-second.ensures.put in
    let g = put_next _ _ _ f c.put_field-third.ensures.put in
    rw c.if-op.false (put_then (put_next _ _ _ g c.put_field-fourth.ensures.put) (c.put_byte-2.ensures.put_if.all (omega arith)))
