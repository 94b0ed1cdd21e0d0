use Rattle.std.proofs.Common.{arith}
use mathlib.Core.Path.{refl, sym, ◌∙◌}
use borrow.Author.Tests.{le-ltb}
use Rattle.sets.specs.Sets.{bit}
use Rattle.sets.proofs.Bits.{bit_high}
use Rattle.sets.proofs.has.Goals as goal

pub returns-then-b-lt-WIDTH : goal.returns-then-b-lt-WIDTH
unfolding bit
returns-then-b-lt-WIDTH c = refl

pub returns-else-b-lt-WIDTH : goal.returns-else-b-lt-WIDTH
returns-else-b-lt-WIDTH c = le-ltb c.args.b 64 (omega arith) ∙ sym (bit_high c.args.w 64 c.args.b (omega arith) (omega arith))
