use Rattle.std.proofs.Common.{ℕ, ◌≡◌, ◌≤◌, ◌+◌, ◌*◌, ◌^◌, ap, subst, ◌∙◌, arith, add-one, length-set}
use native.Mathlib.Nat.{pow-suc}
use lib.Pow.{pow_mono}
use Rattle.theory.specs.NewNumbers.{new_number}
use Rattle.renumber.specs.private.Spread.{ByteOf}
use Rattle.renumber.proofs.Spreading as spreading
use Rattle.renumber.proofs.fill_byte.Goals as goal

pub loop-k-init : goal.loop-k-init
loop-k-init c = record {
  power = omega arith;
  long = simp length-set (omega arith);
  byte = spreading.byte_begun (new_number c.args.all.now) c.args.b c.args.part.now (omega arith);
}

power_most : (k : ℕ) → k + 1 ≤ 8 → 2 ^ k ≤ 128
power_most k l = let few : k ≤ 7 = omega arith in pow_mono few

pub double-requires : goal.double-requires
double-requires c = (c.loop-k.invariant.long, omega (arith, power_most c.loop-k.k (omega arith)))

pub overflow_mul-n : goal.overflow_mul-n
overflow_mul-n c = omega (arith, power_most c.loop-k.k (omega arith))

power : (k : ℕ) → 2 ^ (k + 1) ≡ 2 ^ k * 2
power k = ap (λ j. 2 ^ j) (add-one k) ∙ pow-suc 2 k

pub loop-k-preserved : goal.loop-k-preserved
loop-k-preserved c =
    let l = c.loop-k in
    let a = c.args in
    record {
      power = omega (arith, power l.k);
      long = omega (arith, c.double.ensures.long);
      byte = spreading.byte_more (new_number a.all.now) a.b l.part _ l.n l.k c.number_of.result c.single-more.result l.invariant.power (omega arith)
          c.number_of.ensures.value c.single-more.ensures c.double.ensures l.invariant.byte;
    }

pub returns : goal.returns
returns c =
    let l = c.loop-k in
    let last : l.k ≡ 8 = omega arith in
    let end : l.n ≡ 256 = l.invariant.power ∙ ap (λ k. 2 ^ k) last in
    (l.invariant.long, subst (ByteOf (new_number c.args.all.now) c.args.b l.part) end l.invariant.byte)
