use Rattle.std.proofs.Common.{◌≡◌, ◌∙◌, sym, true, false, arith}
use borrow.Author.Tests.{eq-eqb, ne_eqb}
use mathlib.Core.Bool.{and-false}
use Rattle.theory.specs.Formula.{is_past}
use Rattle.effort.proofs.CutSums.{set_is}
use Rattle.effort.proofs.set_of.Goals as goal
use Rattle.effort.proofs.set_of.Goals.{else-is_past-via-then-is_past+else-s-eq0, else-is_past-via-else-is_past}

pub returns-then-s-eq0 : goal.returns-then-s-eq0
returns-then-s-eq0 c =
    let f = c.free_of-s in
    let p : is_past c.args.op ≡ true = sym c.is_past.ensures ∙ c.if-is_past.true in
    sym (set_is f.result _ _ _ _ _ (omega arith) f.ensures ∙ rw (p, eq-eqb f.result 0 c.if-s-eq0.true))

pub returns-else-is_past : goal.returns-else-is_past
returns-else-is_past c =
    let f = c.free_of-s in
    sym (set_is f.result _ _ _ _ _ (omega arith) f.ensures
    ∙ elim c.else-is_past.branch [
      | else-is_past-via-then-is_past+else-s-eq0 w ↦ rw (ne_eqb f.result 0 w.if-s-eq0.false, and-false (is_past c.args.op))
      | else-is_past-via-else-is_past w ↦ let p : is_past c.args.op ≡ false = sym c.is_past.ensures ∙ w.if-is_past.false in rw p
    ])
