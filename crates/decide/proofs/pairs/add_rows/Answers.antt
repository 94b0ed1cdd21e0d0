use Rattle.std.proofs.Common.{◌&&◌, ◌||◌, ◌+◌, ◌*◌, ◌/◌, ◌%◌, Bool, eqb, get_or, bit_and, arith}
use mathlib.Core.Path.{ap, ◌∙◌}
use Rattle.sets.specs.Sets.{bit}
use Rattle.sets.proofs.Shifts.{in_quarter}
use Rattle.deciding.proofs.Pairs as pairs
use Rattle.decide.proofs.pairs.add_rows.Goals as goal

pub loop-a-init : goal.loop-a-init
loop-a-init c = pairs.putting _ _ _ _ c.requires.0

pub loop-a-preserved : goal.loop-a-preserved
loop-a-preserved c =
    let l = c.loop-a in
    let x = c.args in
    pairs.putting_more c.with_quarter.result c.requires.2 c.requires.3 (omega arith) l.invariant
    (λ k. c.with_quarter.ensures k
    ∙ ap (λ (y : Bool). bit (get_or l.table (4 * l.a + x.b / 4) 0) k || y) (in_quarter (x.b % 4) k (bit (bit_and (get_or x.rows.now l.a 0) 65535) (k % 16)) (omega arith))
    ∙ ap (λ (y : Bool). bit (get_or l.table (4 * l.a + x.b / 4) 0) k || (eqb (k / 16) (x.b % 4) && y)) (pairs.cut_row (get_or x.rows.now l.a 0) k))

pub returns : goal.returns
returns c = pairs.putting_all c.requires.0 (λ l. omega arith) c.loop-a.invariant
