-- It calls itself with less left.
use Rattle.decide.proofs.memo_choice.+left_after.Given as goal

abbrev pub decreases-left_after : goal.decreases-left_after
decreases-left_after l = l.left
