-- The words of members below n, and those after them, by their unions.
use Rattle.memory.proofs.StateTests.{block_fits}
use Rattle.memory.proofs.check_state.block_fits.Goals as goal

pub returns : goal.returns
returns c = block_fits c.args.ws.now c.args.n _ _ _ c.requires.0 c.requires.1 c.full_of.ensures c.union_of.ensures c.union_of-2.ensures
