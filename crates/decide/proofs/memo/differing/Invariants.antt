-- The variables passed stood for what they stand for.
use Rattle.std.proofs.Common.{ℕ, ◌≡◌, true}
use Rattle.deciding.specs.private.Rows.{assigned}
use Rattle.deciding.specs.private.Memo.{value_of}
use Rattle.deciding.proofs.Loops as loops
use Rattle.decide.proofs.memo.differing.Given as goal

abbrev pub invariant-loop-y : goal.invariant-loop-y
invariant-loop-y l = record {
  upon : loops.MembersLeft l.read l.y-iterator.rest;
  same : (k : ℕ) → loops.Done l.read l.y-iterator.rest k ≡ true → value_of l.slot k ≡ assigned l.vars k;
}
