-- The lines of the first n entries have been put.
use Rattle.memory.specs.Layout.{terms_of}
use Rattle.writer.specs.private.Kinds.{entry_of}
use Rattle.writer.proofs.PutLines.{Running}
use Rattle.writer.proofs.write.put_entries.Given as goal

abbrev pub invariant-loop-n : goal.invariant-loop-n
invariant-loop-n l = Running l.fn.out l.out l.at l.next 32 (terms_of l.terms).entries l.n (entry_of (terms_of l.terms))
