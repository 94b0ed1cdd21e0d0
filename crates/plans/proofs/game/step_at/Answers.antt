-- `step_at`: a state in the midst of words, and the state that it leaves there.
use Rattle.std.proofs.Common.{arith, ap, ◌∙◌}
use Rattle.plans.proofs.Plays.{stand_long, part_stands, placed_part, stepped_long}
use Rattle.plans.specs.private.Playing.{standing}
use Rattle.plans.specs.Plans.{stepped}
use Rattle.plans.proofs.game.step_at.Goals as goal

pub returns : goal.returns
returns c =
    let x = c.args in
    let s = standing x.at x.words.now in
    let long = stand_long x.at x.words.now c.requires in
    placed_part x.at x.words.now c.step.new.state (stepped x.terms.now s x.event x.from x.to) c.requires
    (c.step.ensures ∙ ap (λ z. stepped x.terms.now z x.event x.from x.to) (part_stands x.at x.words.now))
    (stepped_long x.terms.now s x.event x.from x.to (omega (arith, long)) ∙ long)
