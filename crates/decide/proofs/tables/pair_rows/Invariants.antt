-- The table has what holds with the first column standing for a member below b.
use Rattle.std.proofs.Common.{◌+◌, [], ◌∷◌}
use Rattle.memory.specs.Layout.{terms_of}
use Rattle.deciding.specs.private.Rows.{operand_bits}
use Rattle.deciding.specs.private.Memo.{Grown}
use Rattle.deciding.proofs.Pairs as pairs
use Rattle.decide.proofs.tables.pair_rows.Given as goal

abbrev pub invariant-loop-b : goal.invariant-loop-b
invariant-loop-b l = record {
  filled : pairs.Filled (terms_of l.present.terms.now).members (operand_bits (terms_of l.present.terms.now) l.present.relations.now l.present.past.now (l.x ∷ l.y ∷ []) l.operand) l.b l.out;
  grown : Grown (terms_of l.present.terms.now) l.present.relations.now l.present.past.now (l.operand + 1) l.initial.memo l.memo;
}
