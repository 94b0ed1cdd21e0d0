-- The lines of the first i words have been put.
use Rattle.std.proofs.Common.{◌+◌, ◌*◌, get_or}
use Rattle.writer.specs.private.Kinds.{row_of}
use Rattle.writer.proofs.PutLines.{Running}
use Rattle.writer.proofs.bits.put_rows.Given as goal

abbrev pub invariant-loop-i : goal.invariant-loop-i
invariant-loop-i l =
    Running l.fn.out l.out l.at l.next (32 * 64) l.count l.i (λ k. row_of l.table l.pairs (get_or l.state (l.first + k) 0) k)
