-- The loop's invariant: the tables of the entries below n are filled in.
use Rattle.std.proofs.Common.{[], ◌++◌}
use Rattle.memory.specs.Layout.{terms_of}
use Rattle.deciding.specs.private.Memo.{MemoOf, Fresh}
use Rattle.deciding.specs.private.Starting.{Begun}
use Rattle.monitor.proofs.revise.start_tables.Given as goal

abbrev pub invariant-loop-n : goal.invariant-loop-n
invariant-loop-n l = record {
  begun : Begun l.old (l.relations ++ l.own) l.new l.n [] (l.relations ++ l.second);
  memo_of : MemoOf (terms_of l.new) (l.relations ++ l.second) (terms_of l.new).entries l.memo;
  fresh : Fresh (terms_of l.new).entries l.n l.memo;
}
