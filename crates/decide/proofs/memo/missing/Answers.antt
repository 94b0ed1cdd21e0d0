use Rattle.deciding.specs.private.Rows.{assigned}
use Rattle.deciding.specs.private.Memo.{Missing}
use Rattle.deciding.proofs.Copying as copy
use Rattle.decide.proofs.memo.missing.Goals as goal

pub returns : goal.returns
returns c =
    let x = c.args in
    let s = c.missing_in in
    let fits = rw c.in-Some.is at c.requires in
    rw c.in-Some.is (
      copy.lent_as c.in-Some.k x.memo.now fits (λ s₀ s₁. Missing (assigned x.vars.now) x.x x.want s.result s₀ s₁) s.new.slot s.auto.slot s.ensures,
      (copy.lent_back c.in-Some.k x.memo.now fits s.new.slot s.auto.slot).1,
    )
