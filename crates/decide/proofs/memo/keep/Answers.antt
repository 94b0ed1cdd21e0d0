use Rattle.deciding.specs.private.Rows.{assigned}
use Rattle.deciding.specs.private.Memo.{Stored}
use Rattle.deciding.proofs.Copying as copy
use Rattle.decide.proofs.memo.keep.Goals as goal

pub returns-in-Some : goal.returns-in-Some
returns-in-Some c =
    let x = c.args in
    let s = c.keep_in in
    let fits = rw c.in-Some.is at c.requires.slot in
    rw c.in-Some.is (
      copy.lent_as c.in-Some.k x.memo.now fits (λ s₀ s₁. Stored (assigned x.vars.now) x.x x.all x.need x.want s₀ x.out.now s₁ s.new.out) s.new.slot s.auto.slot s.ensures,
      (copy.lent_back c.in-Some.k x.memo.now fits s.new.slot s.auto.slot).1,
    )
