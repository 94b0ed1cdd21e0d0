use Rattle.std.proofs.Common.{refl}
use Rattle.classes.specs.private.Filled.{filled}
use Rattle.classes.proofs.Filling.{turn}
use Rattle.classes.proofs.new_classes.Goals as goal

pub loop-n-init : goal.loop-n-init
unfolding filled
loop-n-init c = refl

pub loop-n-preserved : goal.loop-n-preserved
loop-n-preserved c =
    let l = c.loop-n in
    turn _ _ _ _ l.n l.classes _ _ l.invariant c.key_of-key.ensures c.lookup-k.ensures.0
