use Rattle.std.proofs.Common.{◌≡◌, ◌+◌, ◌-◌, get_or, take, drop, arith}
use mathlib.Core.Path.{◌∙◌}
use lib.Seq.{get_or-take}
use Rattle.std.proofs.lemmas.List.{get_or-drop}
use Rattle.writer.proofs.PutLines.{running_start, running_more}
use Rattle.writer.proofs.bits.put_rows.Goals as goal

pub loop-i-init : goal.loop-i-init
loop-i-init c = running_start _ _ _ _ _

pub loop-i-preserved : goal.loop-i-preserved
loop-i-preserved c =
    let s = c.args.state.now in
    let a = c.args.first in
    let i = c.loop-i.i in
    let e = c.put_row-next.ensures in
    let w : get_or (take (a + c.args.count - a) (drop a s)) i 0 ≡ get_or s (a + i) 0 =
    get_or-take _ (drop a s) i 0 (omega arith) ∙ get_or-drop a s i 0 in
    running_more (omega arith) c.loop-i.invariant (rw w at e.put) e.upper_bound
