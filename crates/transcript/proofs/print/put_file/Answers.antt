-- The six parts of the line, one after the other.
use Rattle.std.proofs.Common.{arith}
use Rattle.fields.proofs.Digits.{digits_short}
use Rattle.fields.proofs.Output.{put_then}
use Rattle.transcript.specs.Transcript.{file_line}
use Rattle.transcript.proofs.print.put_file.Goals as goal

pub returns : goal.returns
unfolding file_line
returns c =
    let l1 = digits_short c.args.number in
    let l2 = digits_short c.args.line in
    let e1 = c.put_bytes-tab.ensures.all (omega arith) in
    let e2 = c.put_bytes-first.ensures.all (omega (arith, e1.next)) in
    let e3 = c.put_decimal-next.ensures.all (omega arith, omega (arith, e1.next, e2.next)) in
    let e4 = c.put_bytes-second.ensures.all (omega (arith, e1.next, e2.next, e3.next)) in
    let e5 = c.put_decimal-end.ensures.all (omega arith, omega (arith, e1.next, e2.next, e3.next, e4.next)) in
    let e6 = c.put_bytes.ensures.all (omega (arith, e1.next, e2.next, e3.next, e4.next, e5.next)) in
    (put_then e1 (put_then e2 (put_then e3 (put_then e4 (put_then e5 e6)))))
