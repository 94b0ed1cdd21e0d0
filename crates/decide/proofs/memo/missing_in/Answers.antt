use mathlib.Core.Path.{◌∙◌}
use Rattle.sets.proofs.Finite.{not_both}
use Rattle.deciding.specs.private.Rows.{assigned}
use Rattle.deciding.proofs.Copying as copy
use Rattle.decide.proofs.memo.missing_in.Goals as goal
use Rattle.decide.proofs.memo.missing_in.Goals.{then-whole-2, else-whole-2}

pub returns-then-z-x : goal.returns-then-z-x
returns-then-z-x c =
    let k = c.claim.ensures in
    copy.missing_all (assigned c.args.vars.now) c.args.x c.args.want c.args.slot.now c.claim.new.slot k.slot_after.0 k.slot_after.1 (λ e. k.slot_after.2) k.by_index

pub returns : goal.returns
returns c =
    let k = c.claim-2.ensures in
    copy.missing_all (assigned c.args.vars.now) c.args.x c.args.want c.args.slot.now c.claim-2.new.slot k.slot_after.0 k.slot_after.1
    (λ e. elim c.if-whole-2.branch [ then-whole-2 w ↦ k.slot_after.2 ∙ w.claim-is | else-whole-2 w ↦ absurd (not_both _ (c.has-whole.ensures ∙ e) w.if-whole-2.false) ])
    k.by_index
