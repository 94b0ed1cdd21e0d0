use Rattle.std.proofs.Common.{◌≡◌, ◌&&◌, ℕ, ◌+◌, ◌<◌, Bool, cond, ltb, length, bit_or, arith}
use mathlib.Core.Path.{ap, ap₂, sym, ◌∙◌}
use borrow.Author.Tests.{lt-ltb, le-ltb}
use Rattle.sets.specs.Sets.{bit}
use Rattle.sets.proofs.Bits.{bit_zero}
use Rattle.sets.proofs.Shifts.{swept_more, there, nowhere_words, nowhere_bit}
use Rattle.sets.proofs.quarters.stripe.Goals as goal
use Rattle.sets.proofs.quarters.stripe.Goals.{then-c-ge16-via-then-c-ge16, then-c-ge16-via-else-c-ge16+then-saturating_sub-from}

pub returns-then-c-ge16 : goal.returns-then-c-ge16
returns-then-c-ge16 c b =
    let x = c.args in
    elim c.then-c-ge16.branch [
      | then-c-ge16-via-then-c-ge16 w ↦ nowhere_bit x.ws.now x.from x.c b (omega arith)
      | then-c-ge16-via-else-c-ge16+then-saturating_sub-from w ↦ nowhere_words x.ws.now x.from x.c b (omega arith)
    ]

pub loop-b-init : goal.loop-b-init
loop-b-init c j = let x = c.args in bit_zero j ∙ sym (ap (λ (y : Bool). y && there x.ws.now x.from x.c j) (le-ltb j 0 (omega arith)))

pub loop-b-preserved : goal.loop-b-preserved
loop-b-preserved c j =
    let l = c.loop-b in
    ap (λ (x : ℕ). bit (bit_or l.s x) j) (c.only-s.ensures ∙ ap (λ (x : Bool). cond x c.single.result 0) c.has.ensures)
    ∙ swept_more (there c.args.ws.now c.args.from c.args.c) l.s l.b c.single.result (omega arith) l.invariant c.single.ensures j

pub returns : goal.returns
returns c b =
    let l = c.loop-b in
    let x = c.args in
    let e : l.b ≡ 16 = omega arith in
    let long : x.from + 3 < length x.ws.now = omega arith in
    l.invariant b ∙ ap (λ (y : ℕ). ltb b y && there x.ws.now x.from x.c b) e
    ∙ sym (ap₂ (λ (p q : Bool). p && (q && (ltb b 16 && there x.ws.now x.from x.c b))) (lt-ltb (x.from + 3) (length x.ws.now) long) (lt-ltb x.c 16 (omega arith)))
