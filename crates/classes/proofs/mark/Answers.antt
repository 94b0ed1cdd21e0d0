use Rattle.classes.proofs.Marking.{mark_here, mark_stays}
use Rattle.classes.proofs.mark.Goals as goal

pub returns-clause-key_after : goal.returns-clause-key_after
returns-clause-key_after c = mark_here c.args.marks.now c.args.key c.with.result c.requires c.with.ensures

pub returns-clause-by_index : goal.returns-clause-by_index
returns-clause-by_index c = mark_stays c.args.marks.now c.args.key c.with.result c.requires c.with.ensures
