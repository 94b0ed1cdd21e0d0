-- The entries below i have passed.
use Rattle.memory.specs.Layout.{terms_of}
use Rattle.memory.proofs.Scanning.{Scanning}
use Rattle.memory.proofs.check_terms.scan.Given as goal

abbrev pub invariant-loop-i : goal.invariant-loop-i
invariant-loop-i l = Scanning (terms_of l.terms) l.masks l.index l.t l.i
