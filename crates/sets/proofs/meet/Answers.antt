use Rattle.std.proofs.Common.{arith}
use lib.Bits.{and_le_l}
use Rattle.sets.proofs.Bits.{bit_meet}
use Rattle.sets.proofs.meet.Goals as goal

pub returns : goal.returns
returns c = bit_meet 64 c.args.v c.args.w (omega (arith, and_le_l c.args.v c.args.w))
