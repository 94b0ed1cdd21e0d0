use Rattle.std.proofs.Common.{ℕ, get_or, bit_or}
use mathlib.Core.Path.{refl, sym, ap, ◌∙◌}
use Rattle.sets.specs.Sets.{joined}
use Rattle.sets.proofs.Joined.{joined_more}
use Rattle.sets.proofs.union_in_turn.Goals as goal

pub loop-w-init : goal.loop-w-init
unfolding joined
loop-w-init c = refl

pub loop-w-preserved : goal.loop-w-preserved
loop-w-preserved c =
    ap (λ (x : ℕ). bit_or x (get_or c.args.ws.now c.loop-w.w-index 0)) c.loop-w.invariant ∙ sym (joined_more c.args.ws.now c.loop-w.w-index)
