-- Each turn drops the first field, so that what is left of k counts to the same field in t.
use Rattle.std.proofs.Common.{◌≡◌, ◌-◌, ◌≤◌, [], length, get_or}
use Rattle.fields.specs.Split.{split}
use Rattle.fields.proofs.field.piece.Given as goal

abbrev pub invariant-loop : goal.invariant-loop
invariant-loop l =
    (length l.t ≤ length l.s) × (get_or (split l.c l.t) (l.k - l.counter) [] ≡ get_or (split l.c l.s) l.k [])
