use Rattle.std.proofs.Common.{ℕ, Bool, cond, arith}
use mathlib.Core.Path.{ap, ◌∙◌}
use Rattle.sets.specs.Sets.{bit}
use Rattle.deciding.proofs.Counting as counting
use Rattle.deciding.specs.private.Rows.{table_bit}
use Rattle.deciding.proofs.Loops as loops
use Rattle.decide.proofs.rows.recall_at.Goals as goal

pub loop-a-init : goal.loop-a-init
loop-a-init c = rw (c.into_iter-a-iterator.ensures.into_iter_gives, c.of-a-items.ensures) (loops.filling _ (omega arith) c.requires.0)

pub loop-a-preserved : goal.loop-a-preserved
unfolding table_bit
loop-a-preserved c =
    loops.filling_more _ c.loop-a.invariant (loops.turn_of c.loop-a.invariant.upon c.in-Some.ensures.steps)
    (λ b. ap (λ (w : ℕ). bit w b) (c.only.ensures ∙ ap (λ (t : Bool). cond t c.args.all 0) c.has.ensures)
    ∙ counting.only-is _ c.args.all b)

pub returns : goal.returns
returns c = loops.filled c.loop-a.invariant c.in-None.ensures.steps
