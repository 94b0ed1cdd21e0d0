use Rattle.std.proofs.Common.{ℕ, get_or, ap, ◌∙◌}
use Rattle.memory.specs.Layout.{terms_of}
use Rattle.effort.proofs.CutSums.{one_set}
use Rattle.effort.proofs.fill_sets.Goals as goal

pub loop-i-preserved : goal.loop-i-preserved
loop-i-preserved c =
    let l = c.loop-i in
    one_set (terms_of c.args.terms.now) l.i l.sets _ _ _ _ _ c.set_of.result l.invariant c.op_of.ensures.value c.first_of-a.ensures.value c.set_at-f.ensures
    (c.set_at-g.ensures ∙ ap (λ (k : ℕ). get_or l.sets k 0) c.second_of.ensures.value)
    (c.set_at-h.ensures ∙ ap (λ (k : ℕ). get_or l.sets k 0) c.third_of.ensures.value) c.set_of.ensures
