use Rattle.std.proofs.Common.{◌||◌, ◌*◌, ◌%◌, ◌^◌, Bool, bit_and}
use mathlib.Core.Path.{ap, ◌∙◌}
use Rattle.sets.specs.Sets.{bit}
use Rattle.sets.proofs.Bits.{bit-or}
use Rattle.sets.proofs.Shifts.{put_bits}
use Rattle.sets.proofs.quarters.with_quarter.Goals as goal

pub returns-then-q-lt4 : goal.returns-then-q-lt4
returns-then-q-lt4 c k =
    let x = c.args in
    bit-or x.w (bit_and x.row 65535 * 2 ^ (16 * x.q) % 2 ^ 64) k
    ∙ ap (λ (y : Bool). bit x.w k || y) (put_bits x.row x.q k c.if-q-lt4.true)
