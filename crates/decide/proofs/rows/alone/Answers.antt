use Rattle.deciding.proofs.Loops as loops
use Rattle.decide.proofs.rows.alone.Goals as goal

pub returns : goal.returns
returns c = loops.alone _ _ c.clear.ensures c.requires.1
