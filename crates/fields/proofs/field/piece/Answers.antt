use Rattle.std.proofs.Common.{◌≡◌, ◌+◌, ◌-◌, sym, arith}
use mathlib.Core.Path.{◌∙◌}
use lib.Seq.{length-take-le}
use Rattle.fields.proofs.Split.{place_le, piece_none, piece_first, piece_next, rest_shorter}
use Rattle.fields.proofs.field.piece.Goals as goal

pub returns-then-t-n : goal.returns-then-t-n
returns-then-t-n c =
    let l = c.loop in
    sym (sym l.invariant.1 ∙ piece_none _ l.t.now _ _ c.find-n.ensures c.if-t-n.true (omega arith))

pub loop-preserved : goal.loop-preserved
loop-preserved c =
    let l = c.loop in
    let e : c.args.k - (l.counter + 1) ≡ c.args.k - l.counter - 1 = omega arith in (
      omega (arith, rest_shorter c.find-n.result l.t.now),
      rw e (sym (piece_next _ l.t.now _ _ c.find-n.ensures c.if-t-n.false (omega arith)) ∙ l.invariant.1),
    )

pub slice_bounds-result-end-2 : goal.slice_bounds-result-end-2
slice_bounds-result-end-2 c = sym (length-take-le _ _ (omega (arith, place_le c.args.c c.loop.t.now)))

pub returns : goal.returns
returns c =
    let l = c.loop in
    sym (piece_first _ _ _ _ c.find.ensures (omega arith)) ∙ l.invariant.1
