-- What reading a text into lent memory gives and leaves, for every text and every lent memory.
use Rattle.std.specs.Prelude.{ℕ, Bool, cond, ◌||◌, List, ◌++◌, ltb, length, drop, Result, Ok, Err}
use Rattle.memory.specs.Layout.{terms_words, state_words, words_of}
use Rattle.memory.specs.Outcome.{Outcome}
use Rattle.memory.specs.Outcome.Outcome.{passed, refused as refusedOutcome}
use Rattle.file.specs.File.{state_said}
use Rattle.file.specs.Reading.{Reading, reading}
use Rattle.file.specs.Reading.Reading.{accepted, refused as refusedReading}
use Rattle.reader.specs.Memory.{memory_of}
use Rattle.memory.specs.declared.refusal.Refusal.{Refusal}
use Rattle.memory.specs.Refusal.{refusal_number, refusal_line}
use Rattle.reader.specs.declared.Form.{Form}
use Rattle.reader.specs.declared.Form.TheVariants.{Old, Stored}

-- A text is of the old form or of the stored one, or it is refused with its number and line.
pub data Filling : Type 0 where
  old : Filling
  stored : Filling
  refused : (number line : ℕ) → Filling

abbrev pub filling_of : Result Form Refusal → Filling
filling_of (Ok Old) = old
filling_of (Ok Stored) = stored
filling_of (Err r) = refused (refusal_number r) (refusal_line r)

-- Memory lengths first (6, 0), then the first faulty line and in it the lowest number.
abbrev pub short : (terms state : List ℕ) → Bool
short terms state = ltb (length terms) terms_words || ltb (length state) state_words

abbrev pub outcome : Reading → Outcome
outcome (accepted f) = passed
outcome (refusedReading n l) = refusedOutcome n l

unfoldable pub read_gives : (text terms state : List ℕ) → Outcome
read_gives text terms state = cond (short terms state) (refusedOutcome 6 0) (outcome (reading text))

-- What filling gives says besides which form it is.
abbrev pub filling : Reading → Filling
filling (accepted f) = cond f.stored stored old
filling (refusedReading n l) = refused n l

unfoldable pub fill_gives : (text terms state : List ℕ) → Filling
fill_gives text terms state = cond (short terms state) (refused 6 0) (filling (reading text))

-- An accepted text fills the named words of terms and of state with what it says, an old one without tables and event;
-- a refusal leaves all memory as lent. Further words are not touched.
abbrev pub filled_terms : List ℕ → Reading → List ℕ
filled_terms terms (accepted f) = memory_of f.terms ++ drop terms_words terms
filled_terms terms (refusedReading n l) = terms

abbrev pub filled_words : List ℕ → Reading → List ℕ
filled_words state (accepted f) = words_of f.terms (state_said f) ++ drop state_words state
filled_words state (refusedReading n l) = state

unfoldable pub read_terms : (text terms state : List ℕ) → List ℕ
read_terms text terms state = cond (short terms state) terms (filled_terms terms (reading text))

unfoldable pub read_words : (text terms state : List ℕ) → List ℕ
read_words text terms state = cond (short terms state) state (filled_words state (reading text))
