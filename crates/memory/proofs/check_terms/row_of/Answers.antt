-- The union of two sets is a word.
use lib.Bits.{or_lt}
use Rattle.memory.proofs.check_terms.row_of.Goals as goal

pub returns-in-3-clause-free_bound : goal.returns-in-3-clause-free_bound
returns-in-3-clause-free_bound c = or_lt 64 _ _ c.set_at-in-3.type_inv c.set_at-in-3-2.type_inv
