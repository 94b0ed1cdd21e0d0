use Rattle.std.proofs.Common.{◌&&◌, ℕ, eqb, ltb, arith}
use mathlib.Core.Path.{sym, ap, ◌∙◌}
use borrow.Author.Tests.{lt-ltb, ltb-true, eqb-true}
use Rattle.sets.specs.Sets.{bit}
use Rattle.sets.proofs.Finite.{and_left, and_right, and_implied, is_false}
use Rattle.sets.proofs.Bits.{bit_pow, bit_zero, shl_one}
use Rattle.sets.proofs.single.Goals as goal

pub returns-then-b-lt-WIDTH : goal.returns-then-b-lt-WIDTH
returns-then-b-lt-WIDTH c m =
    ap (λ (x : ℕ). bit x m) (shl_one c.args.b (omega arith)) ∙ bit_pow c.args.b m
    ∙ sym (and_implied (ltb m 64) (eqb m c.args.b) (λ e. lt-ltb m 64 (omega (arith, eqb-true m c.args.b e))))

pub returns-else-b-lt-WIDTH : goal.returns-else-b-lt-WIDTH
returns-else-b-lt-WIDTH c m =
    bit_zero m
    ∙ sym (is_false (ltb m 64 && eqb m c.args.b)
    (λ e. omega (arith, ltb-true m 64 (and_left (ltb m 64) _ e), eqb-true m c.args.b (and_right (ltb m 64) _ e))))
