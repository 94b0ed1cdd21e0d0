-- Which files have a record, and what the keeper holds of it (docs/SCOPE.md, The keeper): an old file, or a stored
-- file written by a monitor that itself began so and was kept from other hands until then.
use Rattle.std.specs.Prelude.{ℕ, ◌≤◌, ◌≡◌, false, List, length, take}
use Rattle.theory.specs.Keeper.{Book, first_book, keep_steps}
use Rattle.memory.specs.Layout.{terms_words, state_words}
use Rattle.calls.specs.Agreement.{LentStep, fed_steps, Lent, serve_steps}
use Rattle.fields.specs.Split.{lines}
use Rattle.file.specs.File.{File}
use Rattle.file.specs.Reading.{reading}
use Rattle.file.specs.Reading.Reading.{accepted}
use Rattle.file.specs.Said.{said_lines, terms_said, edges_said}
use Rattle.reader.specs.Read.{read_terms}
use Rattle.writer.specs.Write.{store_gives, store_leaves}
use Rattle.writer.specs.Write.Writing.{bytes}
use Rattle.text.specs.Text.{read_state}

-- What the keeper begins with, fed the lines of an old file. Each past-time entry starts at moment 0.
abbrev pub said_book : (text : List ℕ) → Book
said_book text = first_book (terms_said (said_lines (lines text))) (edges_said (said_lines (lines text)))

-- What it holds after a list of steps: the starts are part of it.
abbrev pub later_book : Book → List LentStep → Book
later_book B ss = (keep_steps B (fed_steps ss)).1

-- The memory of a monitor that has read a text.
abbrev pub loaded : (text terms state : List ℕ) → Lent
loaded text terms state = record { terms = read_terms text terms state; state = read_state text terms state; before = state }

-- The memory in use of a monitor that read a text and took a list of steps since.
abbrev pub after_steps : (text terms state : List ℕ) → List LentStep → Lent
after_steps text terms state ss = (serve_steps (loaded text terms state) ss).1

pub data Recorded : (text : List ℕ) → Book → Type 0 where
  old : (text : List ℕ) (f : File) → reading text ≡ accepted f → f.stored ≡ false → Recorded text (said_book text)
  written : (text : List ℕ) (B : Book) → Recorded text B →
      (terms state : List ℕ) → terms_words ≤ length terms → state_words ≤ length state → (ss : List LentStep) →
      (out : List ℕ) (n : ℕ) → store_gives (after_steps text terms state ss).terms (after_steps text terms state ss).state out ≡ bytes n →
      Recorded (take n (store_leaves (after_steps text terms state ss).terms (after_steps text terms state ss).state out)) (later_book B ss)
