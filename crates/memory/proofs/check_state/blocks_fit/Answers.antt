-- One block after the other, and the words after the last by their union.
use Rattle.std.proofs.Common.{◌≡◌, ◌+◌, ◌-◌, ◌*◌, ◌&&◌, true, eqb, arith}
use mathlib.Core.Path.{sym, ap, ◌∙◌}
use Rattle.sets.specs.Sets.{all_below}
use Rattle.sets.proofs.Finite.{all_none}
use Rattle.memory.specs.Checks.{fits}
use Rattle.memory.proofs.StateTests.{all_turn, part_all, block, blocks_fit}
use Rattle.memory.proofs.check_state.blocks_fit.Goals as goal

pub loop-k-init : goal.loop-k-init
loop-k-init c = sym (all_none _)

pub loop-k-preserved : goal.loop-k-preserved
loop-k-preserved c =
    let x = c.args in
    let k = c.loop-k.k in
    all_turn k (block x.ws.now x.n true)
    (c.block_fits-ok.ensures ∙ part_all x.ws.now (64 * k) (64 * k + 64 - 64 * k) 64 (fits x.n true) (omega arith)) c.loop-k.invariant

pub returns : goal.returns
returns c =
    let x = c.args in
    let e : c.loop-k.k ≡ x.used = omega arith in
    ap (λ b. eqb c.union_of.result 0 && b) (c.loop-k.invariant ∙ ap (λ k. all_below k (block x.ws.now x.n true)) e)
    ∙ blocks_fit x.ws.now x.n x.used x.count c.union_of.result c.requires.0 c.requires.1 c.union_of.ensures
