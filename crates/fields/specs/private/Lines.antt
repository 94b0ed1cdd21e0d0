-- What one step through the lines of a text takes.
use Rattle.std.specs.Prelude.{ℕ, ◌+◌, ◌≡◌, ◌<◌, List, length}
use Rattle.fields.specs.Split.{lines}
use Rattle.fields.specs.Split.Lines.{cut, line}

-- The line l is the first of t, and rest is what follows its line feed.
pub record LineTaken (t l rest : List ℕ) : Type 0 where
  pub first : lines t ≡ line l (lines rest)
  pub shorter : length t ≡ length l + 1 + length rest

-- No line feed is left in t, which is not empty, and nothing is left after it.
pub record CutTaken (t rest : List ℕ) : Type 0 where
  pub last : lines t ≡ cut t
  pub some : 0 < length t
  pub none : length rest ≡ 0
