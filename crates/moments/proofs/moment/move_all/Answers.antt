-- The prev tables, the moment itself, the since tables.
use Rattle.deciding.proofs.MomentSteps.{stepped}
use Rattle.moments.proofs.moment.move_all.Goals as goal

pub returns : goal.returns
returns c = let x = c.args in stepped x.granted x.event x.from x.to c.move_prev.ensures c.enter.ensures c.move_since.ensures
