use Rattle.memory.specs.Layout.{terms_of}
use Rattle.deciding.proofs.ReadSets as sets
use Rattle.decide.proofs.memo.prepare.Given as goal

abbrev pub invariant-loop-i : goal.invariant-loop-i
invariant-loop-i l = sets.Preparing (terms_of l.terms) l.i l.reads l.memo
