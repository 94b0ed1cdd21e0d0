-- The words of the table are a part of the bank's own.
use Rattle.std.proofs.Common.{◌+◌, ◌-◌, ◌*◌, arith}
use mathlib.Core.Path.{◌∙◌}
use Rattle.memory.specs.Checks.{level}
use Rattle.memory.proofs.StateTests.{part_all}
use Rattle.memory.proofs.check_state.table_level.Goals as goal

pub returns : goal.returns
returns c =
    let x = c.args in
    c.block_level.ensures ∙ part_all x.own.now (64 * x.t) (64 * x.t + 64 - 64 * x.t) 64 (λ a. level x.n) (omega arith)
