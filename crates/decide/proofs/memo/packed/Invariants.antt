-- The bytes from i on are packed.
use Rattle.std.proofs.Common.{◌+◌}
use Rattle.deciding.specs.private.Rows.{assigned}
use Rattle.deciding.proofs.Bytes as bytes
use Rattle.decide.proofs.memo.packed.Given as goal

abbrev pub invariant-loop-i : goal.invariant-loop-i
invariant-loop-i l = bytes.Packed (λ j. assigned l.vars (l.k + j)) l.i l.w
