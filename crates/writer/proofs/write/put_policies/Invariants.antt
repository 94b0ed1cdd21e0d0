-- The lines of the first j events have been put.
use Rattle.memory.specs.Layout.{terms_of}
use Rattle.writer.specs.private.Kinds.{policy_of}
use Rattle.writer.proofs.PutLines.{Running}
use Rattle.writer.proofs.write.put_policies.Given as goal

abbrev pub invariant-loop-j : goal.invariant-loop-j
invariant-loop-j l = Running l.fn.out l.out l.at l.next 32 (terms_of l.terms).events l.j (policy_of (terms_of l.terms))
