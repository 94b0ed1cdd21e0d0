-- The loop's invariant: the since tables of the entries below n are moved.
use Rattle.std.proofs.Common.{◌++◌}
use Rattle.memory.specs.Layout.{terms_of}
use Rattle.deciding.specs.private.Memo.{MemoOf, Fresh}
use Rattle.deciding.specs.private.Moving.{Becomes, since_below}
use Rattle.moments.proofs.apart.move_since.Given as goal

abbrev pub invariant-loop-n : goal.invariant-loop-n
invariant-loop-n l = record {
  moved : Becomes l.terms (since_below l.n) (l.relations ++ l.fn.own) (l.relations ++ l.own);
  memo_of : MemoOf (terms_of l.terms) (l.relations ++ l.own) (terms_of l.terms).entries l.memo;
  fresh : Fresh (terms_of l.terms).entries l.n l.memo;
}
