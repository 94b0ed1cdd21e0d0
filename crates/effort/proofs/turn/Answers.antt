use Rattle.memory.specs.Layout.{terms_of}
use Rattle.effort.proofs.CutSums.{turned}
use Rattle.effort.proofs.turn.Goals as goal

pub returns : goal.returns
returns c =
    let a = c.args in
    let t =
    turned (terms_of a.terms.now) a.sets.now a.limit a.calls.now a.asked.now _ _ a.p _ _ _ _ _ _ _ _ _
    c.members_of-n.ensures.0 c.op_of-op.ensures.value c.is_one-one.ensures c.set_at.ensures c.rows_of-rows.ensures
    c.set_at-2.ensures c.smaller-works.ensures c.calls_of.ensures c.asked_of.ensures
    c.add_to_operands.ensures c.add_to_operands-2.ensures in
    record { value = t.0; calls_after = t.1; asked_after = t.2 }
