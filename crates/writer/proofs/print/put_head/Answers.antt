-- The word of a kind has at most one byte.
use Rattle.std.proofs.Common.{arith}
use Rattle.fields.specs.Split.{join}
use Rattle.fields.proofs.Output.{put_then}
use Rattle.writer.proofs.Placed.{kind_short}
use Rattle.file.specs.private.Kinds.{kind_number}
use Rattle.writer.proofs.print.put_head.Goals as goal

pub put_field-requires : goal.put_field-requires
put_field-requires c = omega (arith, c.put_kind-next.ensures.next, kind_short (kind_number c.args.kind))

pub returns-clause-put : goal.returns-clause-put
unfolding join
returns-clause-put c = put_then c.put_kind-next.ensures c.put_field.ensures.put

pub returns-clause-upper_bound : goal.returns-clause-upper_bound
returns-clause-upper_bound c =
    let f = c.put_field.ensures.upper_bound in
    omega (arith, f, c.put_kind-next.ensures.next, kind_short (kind_number c.args.kind))
