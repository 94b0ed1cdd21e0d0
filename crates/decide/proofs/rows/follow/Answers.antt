use Rattle.std.proofs.Common.{◌&&◌, Bool, arith}
use mathlib.Core.Path.{ap, ◌∙◌}
use Rattle.sets.proofs.Finite.{any_cong}
use Rattle.deciding.specs.private.Rows.{in_row}
use Rattle.deciding.proofs.Loops as loops
use Rattle.decide.proofs.rows.follow.Goals as goal

pub loop-a-init : goal.loop-a-init
loop-a-init c = rw (c.into_iter-a-iterator.ensures.into_iter_gives, c.of-a-items.ensures) (loops.filling _ (omega arith) c.requires.0)

pub loop-a-preserved : goal.loop-a-preserved
loop-a-preserved c =
    let t = loops.turn_of c.loop-a.invariant.upon c.in-Some.ensures.steps in
    loops.filling_more _ c.loop-a.invariant t (λ b. c.together.ensures b
    ∙ any_cong 64 (λ k _. ap (λ (x : Bool). x && in_row c.args.f.now k b) (loops.filling_next c.loop-a.invariant t k)))

pub returns : goal.returns
returns c = loops.filled c.loop-a.invariant c.in-None.ensures.steps
