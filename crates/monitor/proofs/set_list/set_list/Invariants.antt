-- The records passed are answered, and the memory is what they leave.
use Rattle.monitor.proofs.SetListing.{Facts}
use Rattle.monitor.proofs.set_list.set_list.Given as goal

abbrev pub invariant-loop-r : goal.invariant-loop-r
invariant-loop-r l = Facts l.terms l.fn.records l.fn.state l.fn.scratch l.index l.r-index l.granted l.records l.state l.scratch
