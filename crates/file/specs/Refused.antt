-- When a text is refused (docs/SCOPE.md, Refusals): at its first faulty line, with the lowest number of a
-- test that fails there; or where it is cut or ends too soon; or, where there is none of these, at the first
-- T line of a partly filled word.
use Rattle.std.specs.Prelude.{ℕ, ◌+◌, ◌≤◌, ◌≡◌, List, [], ◌∷◌, Bool, true, false, ◌&&◌, leb}
use Rattle.fields.specs.Split.{Lines, split, lines}
use Rattle.fields.specs.Split.Lines.{done, cut, line}
use Rattle.file.specs.Line.{parsed}
use Rattle.file.specs.File.{File, nothing, after_line}
use Rattle.file.specs.Reading.{Test, tests, complete, partly_filled, read_on}
use Rattle.file.specs.Reading.Reading.{accepted}
use Rattle.file.specs.declared.line.Line.{Line}

-- Every test of a list passes.
pub data Passed : List Test → Type 0 where
  none : Passed []
  pass : {t : Test} {ts : List Test} → t.passes ≡ true → Passed ts → Passed (t ∷ ts)

-- A test with number n fails.
pub data Fails (n : ℕ) : List Test → Type 0 where
  this : {t : Test} {ts : List Test} → t.number ≡ n → t.passes ≡ false → Fails n (t ∷ ts)
  other : {t : Test} {ts : List Test} → Fails n ts → Fails n (t ∷ ts)

-- n is the lowest number of a test that fails.
pub record Lowest (n : ℕ) (ts : List Test) : Type 0 where
  pub fails : Fails n ts
  pub least : (m : ℕ) → Fails m ts → n ≤ m

-- The line is faulty, and is refused with the number n.
abbrev pub Faulty : File → Line → ℕ → Type 0
Faulty f l n = Lowest n (tests f l)

-- A text from line `at` on, after what f has said, is refused with a number at a line.
pub data Refused : (f : File) (at : ℕ) → Lines → (number line : ℕ) → Type 0 where
  go_on : {f : File} {at : ℕ} {l : List ℕ} {r : Lines} {n k : ℕ}
      → Passed (tests f (parsed (split 9 l))) → Refused (after_line f (parsed (split 9 l))) (at + 1) r n k → Refused f at (line l r) n k
  faulty : {f : File} {at : ℕ} {l : List ℕ} {r : Lines} {n : ℕ} → Faulty f (parsed (split 9 l)) n → Refused f at (line l r) n at
  cut_off : {f : File} {at : ℕ} {l : List ℕ} → Refused f at (cut l) 1 at
  ended : {f : File} {at : ℕ} → complete f ≡ false → Refused f at done 1 at

-- Of the lines, the first with number n, line k is the first T line of a partly filled word in a
-- table without a free variable.
pub data FirstPartly (f : File) : (n : ℕ) → Lines → (k : ℕ) → Type 0 where
  this : {n : ℕ} {l : List ℕ} {r : Lines} → partly_filled f (parsed (split 9 l)) ≡ true → FirstPartly f n (line l r) n
  later : {n k : ℕ} {l : List ℕ} {r : Lines} → partly_filled f (parsed (split 9 l)) ≡ false → FirstPartly f (n + 1) r k → FirstPartly f n (line l r) k

-- A text is refused with a number at a line.
pub data RefusedText (text : List ℕ) : (number line : ℕ) → Type 0 where
  by_line : {n k : ℕ} → Refused nothing 1 (lines text) n k → RefusedText text n k
  partly-filled : {f : File} {k : ℕ} → read_on nothing 1 (lines text) ≡ accepted f → FirstPartly f 1 (lines text) k → RefusedText text 11 k

-- No number of the tests is below the one before it, the first not below m.
unfoldable pub numbers_rise : (m : ℕ) → List Test → Bool
numbers_rise m [] = true
numbers_rise m (t ∷ ts) = leb m t.number && numbers_rise t.number ts
