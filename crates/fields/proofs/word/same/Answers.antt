use Rattle.std.proofs.Common.{rules}
use Rattle.fields.proofs.Scan.{alike_std}
use Rattle.fields.proofs.word.same.Goals as goal

pub returns : goal.returns
returns c = rw alike_std (search rules)
