-- `attempt`: the goal is told of the state that the planner's move leaves.
use Rattle.std.proofs.Common.{ap, ◌∙◌, ◌+◌, ◌*◌, get_or}
use Rattle.plans.proofs.Plays.{part_stands}
use Rattle.plans.specs.private.Playing.{standing, Placed}
use Rattle.plans.specs.Plans.{stepped}
use Rattle.calls.specs.Telling.{affirms, tells}
use Rattle.plans.proofs.game.attempt.Goals as goal

pub returns-clause-value : goal.returns-clause-value
returns-clause-value c =
    let x = c.args in
    let w = c.step_at.new.words in
    let moved : Placed x.at (stepped x.terms.now (standing x.at x.words.now) (get_or x.plan.now (2 * x.k) 0) x.planner (get_or x.plan.now (2 * x.k + 1) 0)) x.words.now w =
    rw (c.number_at.ensures, c.number_at-2.ensures) at c.step_at.ensures in
    c.is_affirmed.ensures ∙ ap affirms (c.tell.ensures ∙ ap (λ z. tells x.terms.now z x.goal x.u x.v) (part_stands x.at w ∙ moved.here))
