-- The lines of the first b bits have been put.
use Rattle.writer.specs.private.Kinds.{bit_of}
use Rattle.writer.proofs.PutLines.{Running}
use Rattle.writer.proofs.bits.put_bits.Given as goal

abbrev pub invariant-loop-b : goal.invariant-loop-b
invariant-loop-b l = Running l.fn.out l.out l.at l.next 32 64 l.b (bit_of l.table l.pairs l.w l.i)
