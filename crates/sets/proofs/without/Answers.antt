-- Each bit of a word is below 64, so the bound in the contract of `single` adds nothing.
use Rattle.std.proofs.Common.{not, ◌&&◌, eqb, Bool, arith}
use mathlib.Core.Path.{ap, ◌∙◌}
use borrow.Author.Tests.{lt-ltb}
use Rattle.sets.specs.Sets.{bit}
use Rattle.sets.proofs.Finite.{and_under}
use Rattle.sets.proofs.Bits.{bit_without, bit_below}
use Rattle.sets.proofs.without.Goals as goal

pub returns : goal.returns
returns c m =
    bit_without c.args.w c.single.result m
    ∙ and_under (bit c.args.w m) (not (bit c.single.result m)) (not (eqb m c.args.b))
    (λ e. ap not (c.single.ensures m ∙ ap (λ (x : Bool). x && eqb m c.args.b) (lt-ltb m 64 (bit_below c.args.w 64 m (omega arith) e))))
