-- The loop's invariant: the entries from p on are done.
use Rattle.std.proofs.Common.{◌≡◌, ◌-◌}
use Rattle.memory.specs.Layout.{terms_of}
use Rattle.effort.specs.Effort.{count_after}
use Rattle.effort.proofs.CutSums.{counted}
use Rattle.effort.proofs.total.Given as goal

abbrev pub invariant-loop-p : goal.invariant-loop-p
invariant-loop-p l = counted l.calls l.asked l.rows ≡ count_after (terms_of l.terms) l.sets l.limit (l.n - l.p)
