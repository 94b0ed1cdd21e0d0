use Rattle.std.proofs.Common.{sym, refl, get_or, arith}
use borrow.Author.Tests.{eqb-true}
use mathlib.Core.Path.{◌∙◌}
use Rattle.fields.specs.Number.{value_of}
use Rattle.fields.proofs.Numeral.{some_bytes, number_empty, number_long, number_bad, number_good}
use Rattle.fields.proofs.Scan.{digit_std, digit_other, digit_next, value_next, digits_end, value_end, ten_more}
use Rattle.fields.proofs.number.read_number.Goals as goal
use Rattle.fields.proofs.number.read_number.Goals.{then-is_empty-via-then-is_empty, then-is_empty-via-else-is_empty+then-f-gt-DIGITS}

pub returns-then-is_empty : goal.returns-then-is_empty
returns-then-is_empty c =
    elim c.then-is_empty.branch [
      | then-is_empty-via-then-is_empty w ↦ sym (number_empty c.args.f.now (eqb-true _ 0 (sym w.if-is_empty.ensures)))
      | then-is_empty-via-else-is_empty+then-f-gt-DIGITS w ↦ sym (number_long c.args.f.now (omega arith))
    ]

pub loop-d-init : goal.loop-d-init
unfolding value_of
loop-d-init c = (omega arith, (refl, refl))

pub returns-then-not-is_ascii_digit : goal.returns-then-not-is_ascii_digit
returns-then-not-is_ascii_digit c =
    let f = c.args.f.now in
    let l = c.loop-d in
    let e = sym c.is_ascii_digit.ensures.value ∙ c.if-not-is_ascii_digit.true in
    sym (number_bad f (sym l.invariant.1.0 ∙ digit_other f l.d-index (omega arith) (digit_std _ ∙ e)))

pub loop-d-preserved : goal.loop-d-preserved
loop-d-preserved c =
    let f = c.args.f.now in
    let l = c.loop-d in
    let e = sym c.is_ascii_digit.ensures.value ∙ c.if-not-is_ascii_digit.false in
    rw c.from.ensures (
      ten_more l.v (get_or f l.d-index 0) l.d-index l.invariant.0 c.if-not-is_ascii_digit.ensures.cases.1,
      (
        sym (digit_next f l.d-index (omega arith) (digit_std _ ∙ e)) ∙ l.invariant.1.0,
        sym (value_next f l.d-index (omega arith) l.v) ∙ l.invariant.1.1,
      ),
    )

pub returns : goal.returns
returns c =
    let f = c.args.f.now in
    let l = c.loop-d in
    let e = sym l.invariant.1.1 ∙ value_end f l.d-index l.v c.loop-d-test.false in
    let d = sym l.invariant.1.0 ∙ digits_end f l.d-index c.loop-d-test.false in
    rw (sym e) (sym (number_good f (some_bytes f (sym c.if-is_empty.ensures)) (omega arith) d))
