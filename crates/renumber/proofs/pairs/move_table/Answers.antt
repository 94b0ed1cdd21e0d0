use Rattle.std.proofs.Common.{◌≡◌, ◌+◌, ◌*◌, get_or, subst, arith}
use Rattle.theory.specs.NewNumbers.{new_number}
use Rattle.renumber.specs.private.PairRows.{Gone}
use Rattle.renumber.proofs.PairRows as rows
use Rattle.renumber.proofs.pairs.move_table.Goals as goal

pub loop-a-init : goal.loop-a-init
loop-a-init c =
    rows.gone_none (new_number c.args.all.now) c.requires.bytes.1 (λ a. get_or c.args.from.now a 0) _ c.clear.ensures.0 c.clear.ensures.1

pub loop-a-preserved : goal.loop-a-preserved
loop-a-preserved c =
    let e : 16 * c.loop-a.a + 16 ≡ 16 * (c.loop-a.a + 1) = omega arith in
    subst (Gone (new_number c.args.all.now) (λ a. get_or c.args.from.now a 0) _) e c.move_member.ensures

pub returns : goal.returns
returns c =
    let e : 16 * c.loop-a.a ≡ 256 = omega arith in
    subst (Gone (new_number c.args.all.now) (λ a. get_or c.args.from.now a 0) c.loop-a.into) e c.loop-a.invariant
