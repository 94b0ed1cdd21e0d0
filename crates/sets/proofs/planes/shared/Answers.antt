-- The loop's invariant: the planes count the sets of the members passed.
use Rattle.std.proofs.Common.{rules, ◌&&◌, ℕ, ltb, leb, get_or, arith}
use mathlib.Core.Path.{◌∙◌, ap, sym}
use mathlib.Core.Bool.{and-false}
use lib.Bits.{and_le_l}
use borrow.Author.Tests.{lt-leb}
use Rattle.sets.specs.Sets.{bit, count_below}
use Rattle.sets.proofs.Bits.{bit_zero}
use Rattle.sets.proofs.Finite.{count_le, count_cong}
use Rattle.sets.proofs.MemberLoop.{turn_of, taken_wanted}
use Rattle.sets.proofs.Tally as tally
use Rattle.sets.proofs.planes.shared.Goals as goal

pub returns-then-k-gt64 : goal.returns-then-k-gt64
returns-then-k-gt64 c b =
    let x = c.args in
    let n = count_below 64 (λ m. bit x.set m && bit (get_or x.ws.now m 0) b) in
    bit_zero b ∙ sym (ap (◌&&◌ (ltb b 64)) (lt-leb x.k n (omega (arith, count_le 64 (λ m. bit x.set m && bit (get_or x.ws.now m 0) b)))) ∙ and-false (ltb b 64))

pub loop-c-init : goal.loop-c-init
loop-c-init c =
    rw (c.into_iter-c-iterator.ensures.into_iter_gives, c.of-c-items.ensures)
    (tally.counting _ _ (omega (arith, and_le_l c.args.set c.mask.result)))

pub bounds-ws-c : goal.bounds-ws-c
bounds-ws-c c =
    tally.listed_below c.args.ws.now c.args.set c.mask.result c.mask.ensures _
    (taken_wanted c.loop-c.invariant.upon c.in-Some.ensures.steps)

pub loop-c-preserved : goal.loop-c-preserved
loop-c-preserved c =
    tally.counting_more _ c.loop-c.invariant (turn_of c.loop-c.invariant.upon c.in-Some.ensures.steps) (search rules) c.add.ensures

pub returns : goal.returns
returns c b =
    let x = c.args in
    c.at_least.ensures b
    ∙ ap (λ (n : ℕ). ltb b 64 && leb x.k n)
    (tally.counting_all c.loop-c.invariant c.in-None.ensures.steps b
    ∙ count_cong 64 (λ k l. tally.listed_bit x.ws.now x.set c.mask.result c.mask.ensures k b l))
