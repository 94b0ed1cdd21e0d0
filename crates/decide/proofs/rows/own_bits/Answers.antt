use Rattle.std.proofs.Common.{arith}
use Rattle.deciding.specs.private.Rows.{in_row}
use Rattle.deciding.proofs.Counting as counting
use Rattle.decide.proofs.rows.own_bits.Goals as goal

pub loop-a-init : goal.loop-a-init
loop-a-init c = counting.sweeping _

pub loop-a-preserved : goal.loop-a-preserved
loop-a-preserved c =
    counting.sweeping_more _ c.loop-a.invariant (omega arith)
    (counting.swept_own c.args.f.now _ _ (counting.single-is c.single.result _ c.single.ensures (omega arith)))

pub returns : goal.returns
returns c =
    counting.swept_in _ _ (λ b. in_row c.args.f.now b b) (omega arith) (counting.sweeping_all c.loop-a.invariant (omega arith))
