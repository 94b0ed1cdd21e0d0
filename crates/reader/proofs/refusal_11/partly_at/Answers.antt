use Rattle.reader.proofs.PartlyFilled.{found_none}
use Rattle.reader.proofs.refusal_11.partly_at.Goals as goal

pub returns-in-Ok : goal.returns-in-Ok
returns-in-Ok c = found_none _ _ _ _ c.in-Ok.ensures
