-- The fields passed are numbers, and a has them.
use Rattle.std.proofs.Common.{◌≡◌, ℕ, ◌+◌, ◌<◌, true, length, get_or}
use Rattle.fields.specs.Split.{split}
use Rattle.file.specs.Line.{num, is_num}
use Rattle.file.proofs.line.numbers.Given as goal

abbrev pub invariant-loop-k : goal.invariant-loop-k
invariant-loop-k g l =
    (length l.a ≡ g.row.N)
    × ((j : ℕ) → j < l.k → (is_num (split 9 l.l) (j + 1) ≡ true) × (get_or l.a j 0 ≡ num (split 9 l.l) (j + 1)))
