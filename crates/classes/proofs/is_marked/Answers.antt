use Rattle.classes.specs.private.Keys.{marked}
use Rattle.classes.proofs.is_marked.Goals as goal

pub returns : goal.returns
unfolding marked
returns c = c.has.ensures
