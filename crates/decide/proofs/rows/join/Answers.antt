use Rattle.std.proofs.Common.{ℕ, get_or, bit_or, arith}
use mathlib.Core.Path.{ap}
use lib.ListN.{get_or-eq_default}
use Rattle.deciding.proofs.Counting as counting
use Rattle.decide.proofs.rows.join.Goals as goal

pub loop-a-init : goal.loop-a-init
loop-a-init c = counting.storing _ _

pub loop-a-preserved : goal.loop-a-preserved
loop-a-preserved c =
    counting.storing_more _ c.loop-a.invariant (omega arith) c.requires.0
    (ap (λ (w : ℕ). bit_or w (get_or c.args.f.now c.loop-a.a 0)) (counting.storing_next c.loop-a.invariant))

pub returns : goal.returns
returns c =
    counting.added (λ k. get_or c.args.f.now k 0) c.loop-a.invariant (omega arith) c.requires.0
    (λ k h. get_or-eq_default c.args.f.now 0 (omega (arith, c.requires.1)))
