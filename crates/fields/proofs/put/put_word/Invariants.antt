-- The first bytes of w have been put.
use Rattle.std.proofs.Common.{◌≡◌, ◌+◌, take}
use Rattle.fields.specs.private.Put.{Put}
use Rattle.fields.proofs.put.put_word.Given as goal

abbrev pub invariant-loop-b : goal.invariant-loop-b
invariant-loop-b l = (l.next ≡ l.at + l.b-index) × Put l.fn.out l.out l.at l.next (take l.b-index l.w)
