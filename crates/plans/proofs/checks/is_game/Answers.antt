-- `is_game`: a number is at most 8 where it is below 9.
use mathlib.Core.Bool.{not}
use lib.Dec.{eqb, leb-suc-suc}
use Rattle.theory.specs.Fit.{every}
use Rattle.sets.proofs.Finite.{and-true}
use Rattle.plans.proofs.checks.is_game.Goals as goal

pub returns : goal.returns
unfolding every
returns c =
    let x = c.args in
    cc (
      and-true (not (eqb x.planner x.rival)),
      leb-suc-suc c.members.result 8,
      leb-suc-suc c.events.result 4,
      c.members.ensures.value,
      c.events.ensures.value,
    )
