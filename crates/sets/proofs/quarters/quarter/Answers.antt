use Rattle.std.proofs.Common.{◌+◌, ◌*◌, ◌<◌, ltb, arith}
use mathlib.Core.Path.{sym, ◌∙◌}
use Rattle.sets.proofs.Finite.{is_false, and_right}
use Rattle.sets.proofs.Bits.{bit_zero, bit_below}
use Rattle.sets.proofs.Shifts.{quarter_bits}
use Rattle.sets.proofs.quarters.quarter.Goals as goal

pub returns-then-q-lt4 : goal.returns-then-q-lt4
returns-then-q-lt4 c k = quarter_bits c.args.w c.args.q k

pub returns-else-q-lt4 : goal.returns-else-q-lt4
returns-else-q-lt4 c k =
    let x = c.args in
    bit_zero k ∙ sym (is_false _ (λ e.
    let l : 16 * x.q + k < 64 = bit_below x.w 64 (16 * x.q + k) (omega (arith, c.ranges.w)) (and_right (ltb k 16) _ e) in
    omega (arith, c.if-q-lt4.false)))
