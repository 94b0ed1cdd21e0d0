-- One more than the separators passed.
use Rattle.std.proofs.Common.{◌≡◌, ◌+◌, ◌≤◌, eqb, take}
use Rattle.std.specs.List.{count_by}
use Rattle.fields.proofs.field.pieces.Given as goal

abbrev pub invariant-loop-b : goal.invariant-loop-b
invariant-loop-b l = (l.n ≤ l.b-index + 1) × (l.n ≡ count_by (λ x. eqb x l.c) (take l.b-index l.s) + 1)
