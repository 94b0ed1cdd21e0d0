-- No output is longer than the longest.
use Rattle.std.proofs.Common.{length, arith, sym}
use borrow.Author.Tests.{le-ltb}
use Rattle.transcript.specs.Output.{output}
use Rattle.transcript.proofs.Long.{long_enough}
use Rattle.transcript.proofs.is_short.Goals as goal

pub returns-then-room-ge-ENOUGH : goal.returns-then-room-ge-ENOUGH
returns-then-room-ge-ENOUGH c =
    let a = c.args in
    let l = long_enough a.terms.now a.requests.now in
    sym (le-ltb a.room (length (output a.terms.now a.requests.now)) (omega arith))
