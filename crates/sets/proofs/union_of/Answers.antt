use Rattle.std.proofs.Common.{bit_or}
use mathlib.Core.Path.{refl, ap₂, ◌∙◌}
use Rattle.sets.specs.Sets.{joined}
use Rattle.sets.proofs.Joined.{parted, parted_more, parted_all}
use Rattle.sets.proofs.union_of.Goals as goal

pub loop-chunk-init : goal.loop-chunk-init
unfolding joined
loop-chunk-init c =
    let i = c.into_iter-chunk-iterator.ensures.into_iter_gives in
    let e = c.chunks_exact-chunks.ensures in
    parted refl refl (rw i e.rest) (rw i e.size)

pub loop-chunk-preserved : goal.loop-chunk-preserved
loop-chunk-preserved c =
    let s = c.in-Some.ensures.steps in
    parted_more c.loop-chunk.invariant _ _ _ _ s.1.0 s.1.1 s.0 c.add_to_lanes.auto.lanes c.add_to_lanes.ensures

pub returns : goal.returns
returns c =
    ap₂ bit_or c.union_in_turn.ensures c.union_in_turn-2.ensures
    ∙ parted_all c.loop-chunk.invariant c.remainder-rest.result.now c.in-None.ensures.steps.1.0 (c.remainder-rest.ensures ∙ c.chunks_exact-chunks.ensures.remainder)
