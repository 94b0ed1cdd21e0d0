use Rattle.std.proofs.Common.{◌≡◌, ◌++◌, arith}
use mathlib.Core.Path.{◌∙◌}
use Rattle.memory.specs.Layout.{terms_of}
use Rattle.deciding.proofs.MomentSteps as moves
use Rattle.deciding.proofs.MemoInSweep as steps
use Rattle.moments.proofs.apart.move_since.Goals as goal

pub loop-n-init : goal.loop-n-init
loop-n-init c =
    record { moved = moves.upward; memo_of = c.renew.ensures.by_index (c.args.relations.now ++ c.args.own.now); fresh = c.renew.ensures.fresh }

pub since_turn-requires-clause-movable : goal.since_turn-requires-clause-movable
since_turn-requires-clause-movable c =
    (moves.moved c.requires.0 c.loop-n.invariant.moved, c.requires.1, c.loop-n.auto.own ∙ c.requires.2)

pub since_turn-requires-clause-memo_of : goal.since_turn-requires-clause-memo_of
since_turn-requires-clause-memo_of c = (c.loop-n.invariant.memo_of, c.loop-n.invariant.fresh)

pub loop-n-preserved : goal.loop-n-preserved
loop-n-preserved c =
    record { moved = moves.up_more _ c.loop-n.invariant.moved c.since_turn.ensures.becomes; memo_of = c.since_turn.ensures.memo_of_2.0; fresh = steps.fresh_more c.since_turn.ensures.memo_of_2.1 }

pub returns : goal.returns
returns c =
    let all : c.loop-n.n ≡ (terms_of c.args.terms.now).entries = omega arith in
    moves.up_all _ all c.loop-n.invariant.moved
