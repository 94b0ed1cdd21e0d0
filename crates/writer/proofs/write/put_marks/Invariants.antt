-- The lines of the first j events have been put.
use Rattle.memory.specs.Layout.{terms_of}
use Rattle.file.specs.Writing.{mark_line}
use Rattle.writer.proofs.PutLines.{Running}
use Rattle.writer.proofs.write.put_marks.Given as goal

abbrev pub invariant-loop-j : goal.invariant-loop-j
invariant-loop-j l = Running l.fn.out l.out l.at l.next 8 (terms_of l.terms).events l.j (mark_line (terms_of l.terms))
