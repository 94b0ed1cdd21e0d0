use Rattle.std.proofs.Common.{refl, arith}
use Rattle.classes.specs.private.Filled.{own_filled}
use Rattle.classes.proofs.Marking.{marked_more}
use Rattle.classes.proofs.Filling.{own_turn}
use Rattle.classes.proofs.old_classes.Goals as goal

pub loop-n-init : goal.loop-n-init
unfolding own_filled
loop-n-init c = record {
  classes = refl;
  keys = refl;
  marked = record { here = λ j jl. absurd (omega arith) };
  marks = c.requires.3;
}

pub loop-n-preserved : goal.loop-n-preserved
loop-n-preserved c =
    let l = c.loop-n in
    let o = own_turn _ _ _ l.n l.classes l.keys _ _ l.invariant.classes l.invariant.keys c.key_of-key.ensures c.lookup-k.ensures.0 in
    record {
      classes = o.0;
      keys = o.1;
      marked = marked_more l.keys l.marks _ l.n _ (omega arith) l.invariant.marked c.mark.ensures.key_after c.mark.ensures.by_index;
      marks = c.mark.ensures.marks_len;
    }
