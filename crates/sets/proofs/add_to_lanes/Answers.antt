use Rattle.std.proofs.Common.{◌≡◌, ℕ, arith, bit_or}
use mathlib.Core.Path.{ap, sym, ◌∙◌}
use lib.Bits.{or_zero_r}
use Rattle.sets.specs.Sets.{joined}
use Rattle.sets.proofs.Joined.{joined_set_8, quarters, quarters_more, quarters_all, fours}
use Rattle.sets.proofs.add_to_lanes.Goals as goal

pub loop-k-init : goal.loop-k-init
unfolding joined
loop-k-init c = sym (or_zero_r _)

pub loop-k-preserved : goal.loop-k-preserved
loop-k-preserved c =
    let l = c.loop-k in
    let ws = c.args.ws.now in
    joined_set_8 l.lanes l.k (fours ws l.k) (omega arith) (omega arith)
    ∙ ap (λ (s : ℕ). bit_or s (fours ws l.k)) l.invariant ∙ quarters_more ws (joined c.args.lanes.now 8) l.k

pub returns : goal.returns
returns c =
    let all : c.loop-k.k ≡ 8 = omega arith in
    c.loop-k.invariant ∙ ap (bit_or (joined c.args.lanes.now 8)) (ap (quarters c.args.ws.now) all ∙ quarters_all c.args.ws.now)
