use Rattle.std.proofs.Common.{◌&&◌, ℕ, ltb, leb, arith}
use mathlib.Core.Path.{sym, ap, ◌∙◌}
use borrow.Author.Tests.{lt-ltb}
use Rattle.sets.specs.Sets.{bit, count_below}
use Rattle.sets.proofs.Finite.{and_implied, count_some}
use Rattle.sets.proofs.Bits.{bit_below}
use Rattle.deciding.specs.private.Rows.{in_row, ahead}
use Rattle.decide.proofs.rows.common.Goals as goal

pub returns-then-k-eq1 : goal.returns-then-k-eq1
returns-then-k-eq1 c b =
    let x = c.args in
    let some = ahead (in_row x.f.now) x.set b in
    let n = count_below 64 (λ m. bit x.set m && in_row x.f.now m b) in
    c.together.ensures b
    ∙ sym (and_implied (ltb b 64) some (λ e. lt-ltb b 64 (bit_below c.together.result 64 b (omega (arith, c.together.type_inv)) (c.together.ensures b ∙ e))))
    ∙ ap (◌&&◌ (ltb b 64)) (sym (count_some 64 (λ m. bit x.set m && in_row x.f.now m b)) ∙ ap (λ (k : ℕ). leb k n) (sym c.if-k-eq1.true))
