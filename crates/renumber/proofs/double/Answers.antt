use Rattle.std.proofs.Common.{arith}
use Rattle.renumber.proofs.Spreading as spreading
use Rattle.renumber.proofs.double.Goals as goal

pub loop-v-init : goal.loop-v-init
loop-v-init c = spreading.doubled_none _ _ _

pub loop-v-preserved : goal.loop-v-preserved
loop-v-preserved c =
    let l = c.loop-v in
    spreading.doubled_more c.args.part.now l.part c.args.n c.args.more l.v (omega arith) (omega arith) l.invariant
