-- The loop's invariant: the policies of the events below j are counted.
use Rattle.std.proofs.Common.{◌≡◌}
use Rattle.memory.specs.Layout.{terms_of}
use Rattle.effort.specs.Effort.{policies}
use Rattle.effort.proofs.add_policies.Given as goal

abbrev pub invariant-loop-j : goal.invariant-loop-j
invariant-loop-j l = l.words ≡ policies (terms_of l.terms) l.j
