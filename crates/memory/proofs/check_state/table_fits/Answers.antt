-- The words of the table are a part of the bank's own.
use Rattle.std.proofs.Common.{◌+◌, ◌-◌, ◌*◌, true, arith}
use mathlib.Core.Path.{sym, ◌∙◌}
use Rattle.memory.specs.Checks.{fits, pair_fits}
use Rattle.memory.proofs.StateTests.{part_all, part_length, one_fits, two_fits, two_few}
use Rattle.memory.proofs.check_state.table_fits.Goals as goal

pub pair_fits-requires : goal.pair_fits-requires
pair_fits-requires c =
    let x = c.args in
    (omega (arith, part_length x.own.now (64 * x.t) (64 * x.t + 64 - 64 * x.t) (omega arith)), two_few x.n x.p x.own.now x.t (sym c.is_pair.ensures ∙ c.if-is_pair.true) c.requires.3)

pub returns-then-is_pair : goal.returns-then-is_pair
returns-then-is_pair c =
    let x = c.args in
    c.pair_fits.ensures
    ∙ part_all x.own.now (64 * x.t) (64 * x.t + 64 - 64 * x.t) 64 (pair_fits x.n) (omega arith)
    ∙ two_fits x.n x.p x.own.now x.t (sym c.is_pair.ensures ∙ c.if-is_pair.true)

pub returns-else-is_pair : goal.returns-else-is_pair
returns-else-is_pair c =
    let x = c.args in
    c.block_fits.ensures
    ∙ part_all x.own.now (64 * x.t) (64 * x.t + 64 - 64 * x.t) 64 (fits x.n true) (omega arith)
    ∙ one_fits x.n x.p x.own.now x.t (sym c.is_pair.ensures ∙ c.if-is_pair.false)
