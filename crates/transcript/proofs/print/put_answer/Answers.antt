-- The four parts of the line, one after the other.
use Rattle.std.proofs.Common.{arith}
use Rattle.calls.specs.Monitor.{answer_of}
use Rattle.fields.proofs.Digits.{digits_short}
use Rattle.fields.proofs.Output.{put_then}
use Rattle.transcript.specs.Transcript.{answer_line}
use Rattle.transcript.proofs.Lines.{text_short}
use Rattle.transcript.proofs.print.put_answer.Goals as goal

pub put_text-end-requires : goal.put_text-end-requires
put_text-end-requires c =
    let e = (c.put_decimal-tab.ensures.all (omega arith, omega arith)).next in
    let l = digits_short c.args.n in
    let f = (c.put_bytes-word.ensures.all (omega arith)).next in
    (c.requires.0, omega arith)

pub returns : goal.returns
unfolding answer_line
returns c =
    let p = c.put_decimal-tab.ensures.all (omega arith, omega arith) in
    let l = digits_short c.args.n in
    let q = c.put_bytes-word.ensures.all (omega (arith, p.next)) in
    let r = c.put_text-end.ensures in
    let k = text_short (answer_of c.args.a) c.requires.0 in
    put_then p (put_then q (put_then r (c.put_bytes.ensures.all (omega (arith, p.next, q.next, r.next)))))
