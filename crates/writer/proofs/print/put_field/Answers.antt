-- A number has at most five digits.
use Rattle.std.proofs.Common.{arith}
use Rattle.fields.proofs.Digits.{digits_short}
use Rattle.writer.proofs.print.put_field.Goals as goal

pub returns-clause-upper_bound : goal.returns-clause-upper_bound
returns-clause-upper_bound c =
    let t = c.put_byte-next.ensures.put_if.all (omega arith) in
    let w = c.put_decimal.ensures.all (omega arith, omega (arith, t.next)) in
    omega (arith, t.next, w.next, digits_short c.args.n)
