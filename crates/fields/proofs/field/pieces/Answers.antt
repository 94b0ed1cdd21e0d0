use Rattle.std.proofs.Common.{◌+◌, eqb, sym, ap}
use mathlib.Core.Path.{◌∙◌}
use lib.Seq.{take_all}
use Rattle.std.specs.List.{count_by}
use Rattle.fields.proofs.Scan.{split_count}
use Rattle.fields.proofs.field.pieces.Goals as goal

pub returns : goal.returns
returns c =
    let a = c.args in
    let l = c.loop-b in
    l.invariant.1
    ∙ ap (λ xs. count_by (λ x. eqb x a.c) xs + 1) (take_all l.b-index a.s.now c.loop-b-test.false)
    ∙ sym (split_count a.c a.s.now)
