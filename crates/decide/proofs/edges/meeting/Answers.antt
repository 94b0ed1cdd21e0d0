use Rattle.std.proofs.Common.{◌&&◌, arith}
use Rattle.sets.specs.Sets.{any_below, bit}
use Rattle.deciding.specs.private.Rows.{in_row}
use Rattle.deciding.proofs.Counting as counting
use Rattle.decide.proofs.edges.meeting.Goals as goal

pub loop-a-init : goal.loop-a-init
loop-a-init c = counting.sweeping _

pub loop-a-preserved : goal.loop-a-preserved
loop-a-preserved c =
    counting.sweeping_more _ c.loop-a.invariant (omega arith)
    (counting.swept_only _ (λ j. any_below 64 (λ b. in_row c.args.rows.now j b && bit c.args.set b)) c.meet.result _ c.single.result
    c.only-s.ensures c.meet.ensures (counting.single-is c.single.result _ c.single.ensures (omega arith)))

pub returns : goal.returns
returns c = counting.sweeping_all c.loop-a.invariant (omega arith)
