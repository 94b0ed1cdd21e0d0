-- A line of n fields after its first, each a number: the test and the numbers.
use Rattle.std.specs.Prelude.{ℕ, zero, suc, ◌+◌, Bool, List, [], ◌∷◌, eqb, length}
use Rattle.theory.specs.Fit.{every}
use Rattle.file.specs.Line.{num, is_num}

-- For the n fields from number k on.
unfoldable pub tests_from : List (List ℕ) → ℕ → ℕ → List Bool
tests_from fs k zero = []
tests_from fs k (suc n) = is_num fs k ∷ tests_from fs (suc k) n

unfoldable pub numbers_from : List (List ℕ) → ℕ → ℕ → List ℕ
numbers_from fs k zero = []
numbers_from fs k (suc n) = num fs k ∷ numbers_from fs (suc k) n

unfoldable pub are_numbers : ℕ → List (List ℕ) → Bool
are_numbers n fs = every (eqb (length fs) (n + 1) ∷ tests_from fs 1 n)

unfoldable pub numbers_of : ℕ → List (List ℕ) → List ℕ
numbers_of n fs = numbers_from fs 1 n
