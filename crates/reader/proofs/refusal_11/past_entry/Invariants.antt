-- k past-time entries have been passed, and none of them has table t.
use Rattle.std.proofs.Common.{◌≡◌, ◌≤◌, ◌&&◌, eqb}
use Rattle.theory.specs.Formula.{number, is_past, highest}
use Rattle.memory.specs.Layout.{terms_of}
use Rattle.reader.proofs.refusal_11.past_entry.Given as goal

abbrev pub invariant-loop-n : goal.invariant-loop-n
invariant-loop-n l =
    (l.k ≤ l.n) × (l.k ≡ number (terms_of l.terms).entry l.n)
    × (highest l.n (λ n. is_past ((terms_of l.terms).entry n).op && eqb (number (terms_of l.terms).entry n) l.t) ≡ 0)
