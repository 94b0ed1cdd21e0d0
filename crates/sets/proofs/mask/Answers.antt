-- Of two bounds the lesser one decides.
use Rattle.std.proofs.Common.{◌≡◌, ◌&&◌, ℕ, ◌-◌, ◌≤◌, ltb, arith}
use mathlib.Core.Path.{sym, ap, ◌∙◌}
use borrow.Author.Tests.{lt-ltb, ltb-true}
use Rattle.sets.specs.Sets.{bit}
use Rattle.sets.proofs.Finite.{and-true, and_under, and_implied}
use Rattle.sets.proofs.Bits.{bit_mask, shl_one}
use Rattle.sets.proofs.mask.Goals as goal

module _ (n m : ℕ) where
  lesser : n ≤ 64 → ltb m n ≡ (ltb m 64 && ltb m n)
  lesser h = sym (and_implied (ltb m 64) (ltb m n) (λ e. lt-ltb m 64 (omega (arith, ltb-true m n e))))

  greater : 64 ≤ n → ltb m 64 ≡ (ltb m 64 && ltb m n)
  greater h = sym (and_under (ltb m 64) (ltb m n) _ (λ e. lt-ltb m n (omega (arith, ltb-true m 64 e))) ∙ and-true (ltb m 64))

pub returns-then-n-lt-WIDTH : goal.returns-then-n-lt-WIDTH
returns-then-n-lt-WIDTH c m =
    ap (λ (x : ℕ). bit (x - 1) m) (shl_one c.args.n (omega arith)) ∙ bit_mask c.args.n m ∙ lesser c.args.n m (omega arith)

pub returns-else-n-lt-WIDTH : goal.returns-else-n-lt-WIDTH
returns-else-n-lt-WIDTH c m = bit_mask 64 m ∙ greater c.args.n m (omega arith)
