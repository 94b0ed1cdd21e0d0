-- `is_known`: the numbers of members, and the plan's names.
use Rattle.theory.specs.Fit.{every}
use Rattle.sets.proofs.Finite.{and-true}
use Rattle.plans.proofs.checks.is_known.Goals as goal

pub returns : goal.returns
returns c = unfold every in rw (c.members-n.ensures.value, c.plan_named.ensures, and-true)
