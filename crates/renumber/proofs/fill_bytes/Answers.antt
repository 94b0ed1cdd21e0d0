use Rattle.std.proofs.Common.{arith}
use Rattle.theory.specs.NewNumbers.{new_number}
use Rattle.renumber.proofs.ByBytes as filled
use Rattle.renumber.proofs.fill_bytes.Goals as goal

pub loop-i-init : goal.loop-i-init
loop-i-init c = (c.requires.0, λ i v m l _. absurd (omega arith))

pub loop-i-preserved : goal.loop-i-preserved
loop-i-preserved c =
    let l = c.loop-i in
    let f = c.fill_byte in
    filled.filled_more (new_number c.args.all.now) l.bytes f.new.part l.i (omega arith) f.ensures.0 f.ensures.1 l.invariant
