use Rattle.std.proofs.Common.{◌+◌, ◌*◌, ℕ, get_or, bit_and, bit_or, arith}
use mathlib.Core.Path.{ap}
use Rattle.deciding.proofs.Counting as counting
use Rattle.decide.proofs.rows.join_kept.Goals as goal

pub loop-a-init : goal.loop-a-init
loop-a-init c = counting.storing _ _

pub loop-a-preserved : goal.loop-a-preserved
loop-a-preserved c =
    let x = c.args in
    let a = c.loop-a.a in
    counting.storing_more _ c.loop-a.invariant (omega arith) c.requires.0
    (ap (λ (w : ℕ). bit_or w (bit_and (get_or x.f.now a 0) (get_or x.past.now (64 * x.t + a) 0))) (counting.storing_next c.loop-a.invariant))

pub returns : goal.returns
returns c =
    let x = c.args in
    counting.added_kept x.f.now x.past.now x.t c.loop-a.invariant (omega arith) c.requires.0 c.requires.1
