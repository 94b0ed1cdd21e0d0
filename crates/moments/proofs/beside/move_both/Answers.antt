-- The prev tables, the moment itself, the since tables, in the bank and in the other.
use Rattle.deciding.proofs.MomentSteps.{stepped}
use Rattle.moments.proofs.Hushed.{stepped_quietly}
use Rattle.moments.proofs.beside.move_both.Goals as goal

pub returns-clause-becomes : goal.returns-clause-becomes
returns-clause-becomes c = let x = c.args in stepped x.granted x.event x.from x.to c.move_prev.ensures c.enter.ensures.becomes c.move_since.ensures

pub returns-clause-becomes_2 : goal.returns-clause-becomes_2
returns-clause-becomes_2 c = let x = c.args in stepped_quietly x.granted x.event x.from x.to c.move_prev-2.ensures c.enter.ensures.becomes_2 c.move_since-2.ensures
