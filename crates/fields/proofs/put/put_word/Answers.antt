use Rattle.std.proofs.Common.{arith}
use Rattle.fields.proofs.Output.{put_more}
use Rattle.fields.proofs.put.put_word.Goals as goal

pub loop-b-preserved : goal.loop-b-preserved
loop-b-preserved c =
    let e = c.put-next.ensures.next in
    (omega arith, put_more c.args.w.now c.loop-b.b-index (omega arith) c.loop-b.invariant.1 c.put-next.ensures)
