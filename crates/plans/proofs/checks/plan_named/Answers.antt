use Rattle.std.proofs.Common.{◌&&◌, ltb, arith}
use Rattle.memory.proofs.TermsTests.{testing_none, testing_more, testing_all}
use Rattle.plans.proofs.checks.plan_named.Goals as goal

pub loop-k-init : goal.loop-k-init
loop-k-init c = testing_none _ _

pub loop-k-preserved : goal.loop-k-preserved
loop-k-preserved c =
    testing_more c.loop-k.invariant (omega arith) (ltb c.number_at.result c.events-e.result && ltb c.number_at-in-loop-k.result c.members-n.result)
    (rw (c.number_at.ensures, c.number_at-in-loop-k.ensures, c.events-e.ensures.value, c.members-n.ensures.value))

pub returns : goal.returns
returns c = testing_all c.loop-k.invariant (omega arith)
