use Rattle.memory.specs.Layout.{terms_of}
use Rattle.effort.proofs.CutSums.{one_policy}
use Rattle.effort.proofs.add_policies.Goals as goal

pub loop-j-preserved : goal.loop-j-preserved
loop-j-preserved c =
    let l = c.loop-j in
    one_policy (terms_of c.args.terms.now) l.j _ l.words _ l.invariant c.policy_of.ensures.value c.add.ensures
