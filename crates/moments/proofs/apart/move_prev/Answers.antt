use Rattle.std.proofs.Common.{◌≡◌, ◌++◌, arith}
use mathlib.Core.Path.{◌∙◌}
use Rattle.deciding.proofs.MomentSteps as moves
use Rattle.deciding.proofs.Remembering as rem
use Rattle.moments.proofs.apart.move_prev.Goals as goal

pub loop-n-init : goal.loop-n-init
loop-n-init c =
    rw c.entries-n.ensures.value
    record { moved = moves.downward; memo_of = c.renew.ensures.by_index (c.args.relations.now ++ c.args.own.now) }

pub prev_turn-requires-clause-movable : goal.prev_turn-requires-clause-movable
prev_turn-requires-clause-movable c =
    (moves.down_movable c.requires.0 c.loop-n.invariant.moved, c.requires.1, c.loop-n.auto.own ∙ c.requires.2)

pub prev_turn-requires-clause-memo_of : goal.prev_turn-requires-clause-memo_of
prev_turn-requires-clause-memo_of c = rem.memo_lower (omega arith) c.loop-n.invariant.memo_of

pub loop-n-preserved : goal.loop-n-preserved
loop-n-preserved c =
    record { moved = moves.down_more _ _ (omega arith) c.loop-n.invariant.moved c.prev_turn.ensures.becomes; memo_of = c.prev_turn.ensures.memo_of_2 }

pub returns : goal.returns
returns c =
    let none : c.loop-n.n ≡ 0 = omega arith in
    moves.down_all (rw none at c.loop-n.invariant.moved)
