use Rattle.std.proofs.Common.{arith}
use Rattle.std.proofs.lemmas.List.{set-get_or}
use Rattle.sets.proofs.Tally as tally
use Rattle.sets.proofs.planes.add.Goals as goal

pub returns-then-carry-eq0 : goal.returns-then-carry-eq0
returns-then-carry-eq0 c b =
    rw (set-get_or c.loop-p.planes c.loop-p.p-index 0) (tally.adding_none c.loop-p.invariant (omega arith) c.if-carry-eq0.true b)

pub loop-p-preserved : goal.loop-p-preserved
loop-p-preserved c = tally.adding_more c.loop-p.invariant (omega arith)

pub returns : goal.returns
returns c = tally.adding_all c.loop-p.invariant (omega arith)
