-- A word has at most five bytes.
use Rattle.std.proofs.Common.{arith}
use Rattle.writer.proofs.Placed.{operator_short}
use Rattle.writer.proofs.print.put_operator_field.Goals as goal

pub returns-clause-upper_bound : goal.returns-clause-upper_bound
returns-clause-upper_bound c =
    let t = c.put_byte-next.ensures.put_if.all (omega arith) in
    omega (arith, t.next, c.put_operator.ensures.next, operator_short c.args.op)
