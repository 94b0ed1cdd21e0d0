use Rattle.std.proofs.Common.{arith}
use Rattle.sets.proofs.Tally as tally
use Rattle.sets.proofs.planes.at_least.Goals as goal
use Rattle.sets.proofs.planes.at_least.Goals.{then-rest-eq1, else-rest-eq1}

pub loop-p-init : goal.loop-p-init
loop-p-init c = tally.comparing _ _

pub loop-p-preserved : goal.loop-p-preserved
loop-p-preserved c =
    elim c.if-rest-eq1.branch [
      | then-rest-eq1 w ↦ rw w.s-is (tally.comparing_with c.loop-p.invariant (omega arith) w.if-rest-eq1.true)
      | else-rest-eq1 w ↦ rw w.s-is (tally.comparing_without c.loop-p.invariant (omega arith) w.if-rest-eq1.false (omega arith))
    ]
