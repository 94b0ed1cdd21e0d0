-- `BankListing` over the five banks of words, turn by turn.
use Rattle.std.proofs.Common.{◌≡◌, ℕ, subst, arith, length}
use Rattle.std.proofs.lemmas.Result.{err_from_is_err_and}
use Rattle.monitor.proofs.BankListing.{Mem, Facts, Free, begins, turn, ends, refuses}
use Rattle.monitor.proofs.bank_list.set_list.Goals as goal

pub returns-in_err-inspect_bank_list : goal.returns-in_err-inspect_bank_list
returns-in_err-inspect_bank_list c =
    let p = err_from_is_err_and c.from_residual.result c.from_residual.ensures.1 in
    let x = c.args in
    let m₀ : Mem = (x.relations.now, (x.own.now, (x.other.now, (x.scratch.now, (x.spare.now, tt))))) in
    rw (p.1, p.2) (refuses x.terms.now x.records.now m₀ Free _ c.in_err-inspect_bank_list.ensures)

pub loop-r-init : goal.loop-r-init
loop-r-init c = begins _ _ _ Free tt

pub loop-r-preserved : goal.loop-r-preserved
loop-r-preserved c =
    let s = c.step-answer.new in
    let l = c.loop-r in
    rw c.tally-granted.ensures (turn _ _ _ Free l.r-index l.granted l.records (l.relations, (l.own, (l.other, (l.scratch, (l.spare, tt))))) c.step-answer.result
    (s.relations, (s.own, (s.other, (s.scratch, (s.spare, tt))))) c.step-answer.ensures tt l.invariant (omega (arith, c.loop-r-test.true)))

pub returns : goal.returns
returns c =
    let x = c.args in
    let l = c.loop-r in
    let m₀ : Mem = (x.relations.now, (x.own.now, (x.other.now, (x.scratch.now, (x.spare.now, tt))))) in
    let m : Mem = (l.relations, (l.own, (l.other, (l.scratch, (l.spare, tt))))) in
    let e : l.r-index ≡ length x.records.now = omega (arith, l.invariant.size, c.loop-r-test.false) in
    ends x.terms.now x.records.now m₀ Free l.granted l.records m c.in_ok-inspect_bank_list.ensures
    (subst (λ (n : ℕ). Facts x.terms.now x.records.now m₀ Free n l.granted l.records m) e l.invariant)
