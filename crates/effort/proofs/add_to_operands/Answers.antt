use Rattle.memory.specs.Layout.{terms_of}
use Rattle.effort.proofs.CutSums.{to_operands}
use Rattle.effort.proofs.add_to_operands.Goals as goal

pub returns : goal.returns
returns c =
    let a = c.args in
    let k = c.operands_of-kinds.ensures in
    to_operands ((terms_of a.terms.now).entry a.p) _ _ _ _ a.x _ _ _ _ _ _ a.words.now _ _ _
    c.op_of.ensures.value c.first_of.ensures.value c.second_of.ensures.value c.third_of.ensures.value
    k.first_value k.second_value k.third_value c.is_entry.ensures c.is_entry-2.ensures c.is_entry-3.ensures
    c.add_if.ensures c.add_if-2.ensures c.add_if-3.ensures
