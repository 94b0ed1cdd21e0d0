use mathlib.Core.Path.{ap, ◌∙◌}
use Rattle.deciding.specs.private.Memo.{have_of, reads_of}
use Rattle.deciding.proofs.Copying as copy
use Rattle.decide.proofs.memo.give.Goals as goal

pub returns-then-entry-memo-clause-apart : goal.returns-then-entry-memo-clause-apart
returns-then-entry-memo-clause-apart c =
    (copy.lent_back c.args.entry c.args.memo.now c.if-entry-memo.true c.empty.new.slot c.empty.auto.slot).1

pub returns-then-entry-memo-clause-memo_after : goal.returns-then-entry-memo-clause-memo_after
returns-then-entry-memo-clause-memo_after c f =
    let e = c.empty in
    let lent = copy.lent_back c.args.entry c.args.memo.now c.if-entry-memo.true e.new.slot e.auto.slot in
    (ap have_of lent.0 ∙ e.ensures.0, ap reads_of lent.0 ∙ e.ensures.1)
