-- A word has at most five bytes.
use Rattle.std.proofs.Common.{arith}
use Rattle.writer.proofs.Placed.{direction_short}
use Rattle.writer.proofs.print.put_direction_field.Goals as goal

pub returns-clause-upper_bound : goal.returns-clause-upper_bound
returns-clause-upper_bound c =
    let t = c.put_byte-next.ensures.put_if.all (omega arith) in
    omega (arith, t.next, c.put_direction.ensures.next, direction_short c.args.direction)
