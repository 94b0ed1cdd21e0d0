-- No line so far is such a line.
use Rattle.std.proofs.Common.{◌<◌}
use Rattle.reader.proofs.PartlyFilled.{Looking}
use Rattle.reader.proofs.refusal_11.find_partly.Given as goal

abbrev pub invariant-loop-bytes : goal.invariant-loop-bytes
invariant-loop-bytes l = (0 < l.n) × Looking l.text l.terms l.state l.masks l.bytes-iterator.rest.now l.n
