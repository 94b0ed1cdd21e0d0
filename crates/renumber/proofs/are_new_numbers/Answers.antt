use Rattle.std.proofs.Common.{◌≡◌, ℕ, sym, refl, subst, arith}
use Rattle.renumber.proofs.Listed as listed
use Rattle.renumber.proofs.are_new_numbers.Goals as goal

pub returns-then-numbers-n : goal.returns-then-numbers-n
returns-then-numbers-n c = sym (listed.short c.args.numbers.now c.args.n c.if-numbers-n.true)

pub loop-x-init : goal.loop-x-init
loop-x-init c = listed.seen_none c.args.numbers.now

pub loop-x-preserved : goal.loop-x-preserved
loop-x-preserved c =
    let l = c.loop-x in
    listed.seen_more c.args.numbers.now l.x-index l.seen _ _ l.invariant refl c.with-seen.ensures

pub returns : goal.returns
returns c =
    let l = c.loop-x in
    let a = c.args in
    let end : l.x-index ≡ a.n = omega arith in
    listed.all_seen a.numbers.now a.n c.mask-all.result l.seen c.requires (omega arith) c.mask-all.ensures
    (subst (λ (i : ℕ). listed.Seen a.numbers.now i l.seen) end l.invariant)
