use Rattle.std.proofs.Common.{◌+◌, ◌*◌}
use Rattle.memory.specs.Layout.{terms_of}
use Rattle.deciding.specs.private.Rows.{assigned, cell}
use Rattle.deciding.specs.private.Memo.{Grown}
use Rattle.deciding.proofs.Loops as loops
use Rattle.decide.proofs.decide.+decide_work_out.Given as goal

-- Each calls the other with less: `decide` calls `work_out` on the same entry, `work_out` calls `decide` on operands.
abbrev pub decreases-decide : goal.decreases-decide
decreases-decide l = 2 * l.entry + 1

abbrev pub decreases-work_out : goal.decreases-work_out
decreases-work_out l = 2 * l.entry

abbrev pub invariant-work_out-loop-m : goal.invariant-work_out-loop-m
invariant-work_out-loop-m l = record {
  rows : loops.Filling l.want (cell (terms_of l.present.terms.now) l.present.relations.now l.present.past.now (assigned l.vars) l.x l.entry) l.initial.out l.m-iterator.rest l.out;
  grown : Grown (terms_of l.present.terms.now) l.present.relations.now l.present.past.now l.entry l.initial.memo l.memo;
}
