-- The word is known by its bits.
use Rattle.std.proofs.Common.{arith}
use Rattle.memory.proofs.StateTests.{full_is}
use Rattle.memory.proofs.check_state.full_of.Goals as goal

pub returns : goal.returns
returns c = full_is c.args.n c.mask.result c.requires (omega arith) c.mask.ensures
