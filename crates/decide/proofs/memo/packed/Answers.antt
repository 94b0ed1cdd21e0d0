use Rattle.std.proofs.Common.{arith}
use Rattle.deciding.proofs.Bytes as bytes
use Rattle.decide.proofs.memo.packed.Goals as goal

pub overflow_mul-w : goal.overflow_mul-w
overflow_mul-w c = omega (arith, bytes.packed_fits c.loop-i.invariant (λ e. let z : ⊥ = omega arith in z))

pub loop-i-preserved : goal.loop-i-preserved
loop-i-preserved c =
    bytes.packed_more c.loop-i.invariant c.wide.result (λ e. let z : ⊥ = omega arith in z) c.wide.ensures.0 c.wide.ensures.1
