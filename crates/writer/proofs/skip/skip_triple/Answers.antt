-- A letter, three numbers, and a byte after each.
use Rattle.std.proofs.Common.{arith}
use Rattle.writer.proofs.PutLines.{skip_three}
use Rattle.writer.proofs.skip.skip_triple.Goals as goal

pub returns-clause-skipped : goal.returns-clause-skipped
returns-clause-skipped c k e = skip_three _ _ k _ _ _ (omega arith)
