use mathlib.Core.Path.{◌∙◌}
use Rattle.deciding.proofs.MomentSteps as moves
use Rattle.moments.proofs.apart.since_turn.Goals as goal

pub returns-else-op_of-eq-SINCE : goal.returns-else-op_of-eq-SINCE
returns-else-op_of-eq-SINCE c = record {
  becomes = moves.since_stays c.requires.movable.0 c.args.n c.requires.n_bound.0 (λ e. c.if-op_of-eq-SINCE.false (c.op_of.ensures.value ∙ e));
  memo_of_2 = c.requires.memo_of;
}
