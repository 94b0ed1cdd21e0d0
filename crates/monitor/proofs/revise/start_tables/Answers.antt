use Rattle.std.proofs.Common.{◌≡◌, ℕ, [], ◌++◌, arith}
use mathlib.Core.Path.{subst}
use Rattle.memory.specs.Layout.{terms_of}
use Rattle.deciding.specs.private.Starting.{Begun}
use Rattle.deciding.proofs.MemoInSweep.{fresh_more}
use Rattle.monitor.proofs.revise.start_tables.Goals as goal

pub loop-n-init : goal.loop-n-init
loop-n-init c =
    record { begun = c.requires.begun; memo_of = c.renew.ensures.by_index (c.args.relations.now ++ c.args.second.now); fresh = c.renew.ensures.fresh }

pub loop-n-preserved : goal.loop-n-preserved
loop-n-preserved c =
    record { begun = c.start_turn.ensures.begun_2; memo_of = c.start_turn.ensures.memo_of_2.0; fresh = fresh_more c.start_turn.ensures.memo_of_2.1 }

pub returns : goal.returns
returns c =
    let x = c.args in
    let end : c.loop-n.n ≡ (terms_of x.new.now).entries = omega arith in
    subst (λ (k : ℕ). Begun x.old.now (x.relations.now ++ x.own.now) x.new.now k [] (x.relations.now ++ c.loop-n.second)) end c.loop-n.invariant.begun
