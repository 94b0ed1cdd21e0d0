use Rattle.std.proofs.Common.{◌<◌, arith}
use mathlib.Core.Path.{refl}
use Rattle.deciding.proofs.Pairs as pairs
use Rattle.deciding.proofs.Loops as loops
use Rattle.decide.proofs.pairs.recall.Goals as goal

pub loop-a-init : goal.loop-a-init
loop-a-init c = rw (c.into_iter-a-iterator.ensures.into_iter_gives, c.of-a-items.ensures) (loops.filling _ (omega arith) c.requires.out_len.0)

pub loop-a-preserved : goal.loop-a-preserved
loop-a-preserved c =
    let x = c.args in
    loops.filling_more _ c.loop-a.invariant (loops.turn_of c.loop-a.invariant.upon c.in-Some.ensures.steps)
    (pairs.pair_read x.past.now x.t x.b x.c x.free c.in-Some.a x.all c.row_of.result _ c.requires.by_index_2 c.row_of.ensures refl)

pub returns : goal.returns
returns c = loops.filled c.loop-a.invariant c.in-None.ensures.steps

pub row_of-requires : goal.row_of-requires
row_of-requires c =
    let small : c.in-Some.a < 16 = c.requires.by_index _ (loops.taken_wanted c.loop-a.invariant.upon c.in-Some.ensures.steps) in
    (omega arith, c.requires.out_len.3, c.requires.out_len.4)
