-- The lines so far have been read, and the set of the last one is at hand.
use Rattle.reader.specs.private.Testing.{LastSet}
use Rattle.reader.proofs.LineLoop.{Along}
use Rattle.reader.proofs.read.read_lines.Given as goal

abbrev pub invariant-loop-bytes : goal.invariant-loop-bytes
invariant-loop-bytes l = record {
  along : Along l.text l.terms l.state l.masks l.bytes-iterator.rest.now l.c l.n;
  last : LastSet l.terms l.masks l.c.phase l.c.relation l.m;
}
