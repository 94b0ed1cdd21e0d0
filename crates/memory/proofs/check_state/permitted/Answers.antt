-- One quarter after the other.
use Rattle.std.proofs.Common.{◌%◌, Bool, ◌||◌, arith}
use mathlib.Core.Path.{ap, ◌∙◌}
use Rattle.sets.specs.Sets.{bit}
use Rattle.sets.proofs.Shifts.{in_quarter}
use Rattle.memory.proofs.Pairs.{permitting, permitting_more, permitting_all}
use Rattle.memory.proofs.check_state.permitted.Goals as goal

pub loop-q-init : goal.loop-q-init
loop-q-init c = permitting _ _

pub loop-q-preserved : goal.loop-q-preserved
loop-q-preserved c =
    permitting_more _ _ _ _ _ _ _ c.loop-q-test.true c.loop-q.invariant c.mask-all.ensures
    c.only.ensures
    (λ k. c.with_quarter-s.ensures k
    ∙ ap (λ (x : Bool). bit c.loop-q.s k || x) (in_quarter c.loop-q.q k (bit c.only.result (k % 16)) c.loop-q-test.true))

pub returns : goal.returns
returns c = permitting_all _ _ _ _ (λ l. omega arith) c.loop-q.invariant
