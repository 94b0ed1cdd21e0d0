use Rattle.std.proofs.Common.{ℕ, get_or, bit_and, arith}
use mathlib.Core.Path.{ap, ◌∙◌}
use lib.Bits.{bit_xor}
use Rattle.sets.specs.Sets.{bit}
use Rattle.sets.proofs.Bits.{bit_without}
use Rattle.deciding.proofs.Counting as counting
use Rattle.decide.proofs.rows.flip.Goals as goal

pub loop-o-init : goal.loop-o-init
loop-o-init c = counting.storing _ _

pub loop-o-preserved : goal.loop-o-preserved
loop-o-preserved c =
    let w = c.args.w in
    counting.storing_more _ c.loop-o.invariant (omega arith) c.requires
    (ap (λ (x : ℕ). bit_xor w (bit_and w x)) (counting.storing_next c.loop-o.invariant))

pub returns : goal.returns
returns c a b h =
    ap (λ (x : ℕ). bit x b) (counting.stored c.loop-o.invariant (omega arith) a h)
    ∙ bit_without c.args.w (get_or c.args.out.now a 0) b
