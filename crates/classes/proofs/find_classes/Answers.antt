use Rattle.classes.proofs.Filling.{all_filled}
use Rattle.classes.proofs.find_classes.Goals as goal

pub returns-clause-classes_after : goal.returns-clause-classes_after
returns-clause-classes_after c =
    all_filled _ _ _ _ _ _ _ c.count_of-limit.ensures.0 c.count_of-count.ensures.0 c.old_classes.ensures.keys_after c.new_classes.ensures
