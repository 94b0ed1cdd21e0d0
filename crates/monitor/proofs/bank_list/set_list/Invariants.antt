-- The records passed are answered, and the memory is what they leave.
use Rattle.monitor.proofs.BankListing.{Facts, Free}
use Rattle.monitor.proofs.bank_list.set_list.Given as goal

abbrev pub invariant-loop-r : goal.invariant-loop-r
invariant-loop-r l =
    let x = l.fn in
    Facts l.terms x.records (x.relations, (x.own, (x.other, (x.scratch, (x.spare, tt))))) Free l.r-index l.granted l.records
    (l.relations, (l.own, (l.other, (l.scratch, (l.spare, tt)))))
