-- A number below 100 has one digit, or two.
use Rattle.std.proofs.Common.{ap}
use lib.ListN.{length}
use Rattle.fields.proofs.Digits.{digits_single, digits_double}
use Rattle.writer.proofs.skip.width.Goals as goal

pub returns-then-n-lt10-clause-value : goal.returns-then-n-lt10-clause-value
returns-then-n-lt10-clause-value c = ap length (digits_single _ c.if-n-lt10.true)

pub returns-else-n-lt10-clause-value : goal.returns-else-n-lt10-clause-value
returns-else-n-lt10-clause-value c = ap length (digits_double _ c.if-n-lt10.false c.requires)
