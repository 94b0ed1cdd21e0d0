-- It calls itself on operands.
use Rattle.decide.proofs.queries.+settle.Given as goal

abbrev pub decreases-settle : goal.decreases-settle
decreases-settle l = l.entry
