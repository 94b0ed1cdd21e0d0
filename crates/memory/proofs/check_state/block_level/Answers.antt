-- One word after the other.
use Rattle.std.proofs.Common.{◌%◌, ◌||◌, eqb, get_or}
use mathlib.Core.Path.{sym, ap, ◌∙◌}
use Rattle.sets.proofs.Finite.{all_none}
use Rattle.memory.specs.Checks.{level}
use Rattle.memory.proofs.StateTests.{all_turn, or_none, full_odd}
use Rattle.memory.proofs.check_state.block_level.Goals as goal

pub loop-w-init : goal.loop-w-init
loop-w-init c = sym (all_none _)

pub uneven-off-requires : goal.uneven-off-requires
uneven-off-requires c = ap (λ y. y % 2) c.full_of-full.ensures ∙ full_odd c.args.n c.requires.1

pub loop-w-preserved : goal.loop-w-preserved
loop-w-preserved c =
    let l = c.loop-w in
    let w = get_or c.args.ws.now l.w-index 0 in
    or_none c.uneven-off.result l.off ∙ all_turn l.w-index (λ i. level c.args.n (get_or c.args.ws.now i 0))
    (c.uneven-off.ensures ∙ ap (λ f. eqb w 0 || eqb w f) c.full_of-full.ensures) l.invariant
