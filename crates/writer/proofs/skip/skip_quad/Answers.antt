-- A letter, four numbers, and a byte after each.
use Rattle.std.proofs.Common.{arith}
use Rattle.writer.proofs.PutLines.{skip_four}
use Rattle.writer.proofs.skip.skip_quad.Goals as goal

pub returns-clause-skipped : goal.returns-clause-skipped
returns-clause-skipped c k e = skip_four _ _ k _ _ _ _ (omega arith)
