-- The loop's invariant: the prev tables of the entries from n on are moved.
use Rattle.std.proofs.Common.{◌++◌}
use Rattle.memory.specs.Layout.{terms_of}
use Rattle.deciding.specs.private.Memo.{MemoOf}
use Rattle.deciding.proofs.MomentSteps as moves
use Rattle.moments.proofs.apart.move_prev.Given as goal

abbrev pub invariant-loop-n : goal.invariant-loop-n
invariant-loop-n l =
    record { moved : moves.Downward l.terms l.n (l.relations ++ l.fn.own) (l.relations ++ l.own); memo_of : MemoOf (terms_of l.terms) (l.relations ++ l.own) l.n l.memo }
