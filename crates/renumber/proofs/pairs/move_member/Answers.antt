use Rattle.std.proofs.Common.{ℕ, ◌≡◌, ◌+◌, ◌*◌, get_or, subst, arith}
use Rattle.theory.specs.NewNumbers.{new_number}
use Rattle.renumber.specs.private.PairRows.{Gone}
use Rattle.renumber.proofs.PairRows as rows
use Rattle.renumber.proofs.pairs.move_member.Goals as goal
use Rattle.renumber.proofs.pairs.move_member.Goals.{then-from-a-ne0, else-from-a-ne0}

pub loop-j-init : goal.loop-j-init
loop-j-init c =
    let x = c.args in
    let e : 16 * x.a ≡ 16 * x.a + 4 * 0 = omega arith in
    subst (Gone (new_number x.all.now) (λ a. get_or x.from.now a 0) x.into.now) e c.requires.gone

pub loop-j-preserved : goal.loop-j-preserved
loop-j-preserved c =
    let l = c.loop-j in
    let x = c.args in
    let p : ℕ → ℕ = new_number x.all.now in
    let ws : ℕ → ℕ = λ a. get_or x.from.now a 0 in
    let e : 16 * x.a + 4 * l.j + 4 ≡ 16 * x.a + 4 * (l.j + 1) = omega arith in
    elim c.if-from-a-ne0.branch [
      | then-from-a-ne0 w ↦ rw w.into-is (subst (Gone p ws _) e w.move_word.ensures)
      | else-from-a-ne0 w ↦ rw w.into-is
          (rows.gone_word p c.requires.bytes.1 ws l.into (4 * x.a + l.j) _ _ (omega arith) (omega arith) w.if-from-a-ne0.false l.invariant)
    ]

pub returns : goal.returns
returns c =
    let x = c.args in
    let e : 16 * x.a + 4 * c.loop-j.j ≡ 16 * x.a + 16 = omega arith in
    subst (Gone (new_number x.all.now) (λ a. get_or x.from.now a 0) c.loop-j.into) e c.loop-j.invariant
