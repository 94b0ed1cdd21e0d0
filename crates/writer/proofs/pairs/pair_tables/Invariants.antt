-- The set has the tables with two columns of the entries passed.
use Rattle.memory.specs.Layout.{terms_of}
use Rattle.writer.proofs.Paired.{PairedSo}
use Rattle.writer.proofs.pairs.pair_tables.Given as goal

abbrev pub invariant-loop-n : goal.invariant-loop-n
invariant-loop-n l = PairedSo (terms_of l.terms) l.pairs l.n
