use Rattle.std.proofs.Common.{◌<◌, ◌≢◌, length, sym, arith, below_more, get_or-set_other, get_or-set_same, length-set}
use mathlib.Core.Path.{◌∙◌}
use Rattle.fields.specs.Split.{split}
use Rattle.fields.proofs.Numeral.{number_is, number_none}
use Rattle.fields.proofs.Split.{split_long}
use Rattle.file.proofs.Fields.{numbers_length, numbers_fail, numbers_all}
use Rattle.file.proofs.line.numbers.Goals as goal

pub overflow_sub-pieces : goal.overflow_sub-pieces
overflow_sub-pieces g c = omega (arith, split_long 9 c.args.l.now)

pub returns-then-pieces : goal.returns-then-pieces
returns-then-pieces g c =
    let p = split_long 9 c.args.l.now in
    numbers_length _ _ _ p (λ e. c.if-pieces.true (omega arith))

pub returns-in_err-a : goal.returns-in_err-a
returns-in_err-a g c =
    rw c.from_residual.ensures
    (numbers_fail _ _ _ c.loop-k.k c.loop-k-test.true (number_none _ (sym c.number_at.ensures ∙ c.in_err-a.was)))

pub loop-k-preserved : goal.loop-k-preserved
loop-k-preserved g c =
    let l = c.loop-k in
    let xs = l.a in
    let k = l.k in
    let v = c.in_ok-a.field-0 in
    let e = number_is _ _ (sym c.number_at.ensures ∙ c.in_ok-a.was) in
    let b : k < length xs = omega arith in (
      length-set xs k v ∙ l.invariant.0,
      below_more _ _
          (λ j h. let ne : j ≢ k = omega arith in ((l.invariant.1 j h).0, get_or-set_other xs k j v 0 ne ∙ (l.invariant.1 j h).1))
          (e.0, get_or-set_same xs k v 0 b ∙ e.1),
    )

pub returns : goal.returns
returns g c =
    let l = c.loop-k in
    let p = split_long 9 c.args.l.now in
    numbers_all _ (split 9 c.args.l.now) l.a p (omega arith) l.invariant.0 (λ j h. l.invariant.1 j (omega arith))
