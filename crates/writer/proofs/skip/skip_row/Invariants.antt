-- The lines of the first b bits have been counted.
use Rattle.std.proofs.Common.{[]}
use Rattle.writer.specs.private.Kinds.{bit_of}
use Rattle.writer.proofs.PutLines.{Running}
use Rattle.writer.proofs.skip.skip_row.Given as goal

abbrev pub invariant-loop-b : goal.invariant-loop-b
invariant-loop-b l = Running [] [] l.at l.next 32 64 l.b (bit_of l.table l.pairs l.w l.i)
