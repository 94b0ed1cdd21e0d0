-- The loop's invariant: the requests before number k are tested.
use Rattle.std.proofs.Common.{◌+◌, ◌*◌, ◌&&◌, ltb, get_or}
use Rattle.memory.specs.Layout.{terms_of}
use Rattle.memory.proofs.TermsTests.{Testing}
use Rattle.plans.specs.Game.{moves}
use Rattle.plans.proofs.checks.plan_named.Given as goal

abbrev pub invariant-loop-k : goal.invariant-loop-k
invariant-loop-k l =
    Testing (moves l.plan) (λ k. ltb (get_or l.plan (2 * k) 0) (terms_of l.terms).events && ltb (get_or l.plan (2 * k + 1) 0) (terms_of l.terms).members) l.ok l.k
