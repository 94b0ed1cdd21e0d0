use Rattle.std.proofs.Common.{arith}
use Rattle.theory.specs.NewNumbers.{new_number}
use Rattle.renumber.proofs.Placing as placing
use Rattle.renumber.proofs.move_rows.Goals as goal
use Rattle.renumber.proofs.move_rows.Goals.{then-w-ne0, else-w-ne0}

pub loop-a-init : goal.loop-a-init
loop-a-init c = placing.placed_none (new_number c.args.all.now) c.args.from.now _ c.clear.ensures.0 c.clear.ensures.1

pub bounds-into-k : goal.bounds-into-k
bounds-into-k c = omega (arith, c.number_of-k.ensures.value, c.requires.bytes.1.below c.loop-a.a (omega arith), c.loop-a.invariant.long)

pub loop-a-preserved : goal.loop-a-preserved
loop-a-preserved c =
    let l = c.loop-a in
    let x = c.args in
    let far = c.requires.bytes.1 in
    elim c.if-w-ne0.branch [
      | then-w-ne0 w ↦ rw w.into-is
          (placing.placed_more (new_number x.all.now) far x.from.now l.into l.a (omega arith) l.invariant _ _ c.number_of-k.ensures.value (w.spread-moved.ensures (new_number x.all.now) c.requires.bytes.0))
      | else-w-ne0 w ↦ rw w.into-is (placing.placed_skip (new_number x.all.now) far x.from.now l.into l.a (omega arith) l.invariant w.if-w-ne0.false)
    ]
