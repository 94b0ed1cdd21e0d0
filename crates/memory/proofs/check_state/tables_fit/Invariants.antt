-- t is the number of past-time entries passed, and ok says that their tables keep the layout.
use Rattle.std.proofs.Common.{◌≡◌, ◌<◌, true, ◌&&◌}
use Rattle.sets.specs.Sets.{all_below}
use Rattle.theory.specs.Formula.{number}
use Rattle.memory.specs.Layout.{terms_of}
use Rattle.memory.proofs.StateTests.{fit_table, level_entry}
use Rattle.memory.proofs.check_state.tables_fit.Given as goal

abbrev pub invariant-loop-n : goal.invariant-loop-n
invariant-loop-n l = record {
  few : l.t < 33;
  count : l.t ≡ number (terms_of l.terms).entry l.n;
  keep : l.ok ≡ all_below l.t (fit_table (terms_of l.terms) l.own true) && all_below l.n (level_entry (terms_of l.terms) l.own);
}
