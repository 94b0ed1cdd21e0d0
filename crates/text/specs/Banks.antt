-- Reading a text of the old form into two banks, which start together at moment 0: what it gives and leaves, for every
-- text and every lent memory.
use Rattle.std.specs.Prelude.{ℕ, Bool, cond, ◌||◌, List, ◌++◌, ltb, length, drop}
use Rattle.theory.specs.Tables.{opening}
use Rattle.memory.specs.Layout.{terms_words, relation_words, own_words, words_of}
use Rattle.memory.specs.Outcome.{Outcome, short_banks}
use Rattle.memory.specs.Outcome.Outcome.{refused as refusedOutcome}
use Rattle.banking.specs.Banks.{Books, first_books}
use Rattle.banking.specs.Banks.Bank.{left, right}
use Rattle.banking.specs.BankRuns.{Lent, BanksInUse}
use Rattle.fields.specs.Split.{lines}
use Rattle.file.specs.Said.{said_lines, terms_said, edges_said}
use Rattle.file.specs.Reading.{Reading}
use Rattle.file.specs.Reading.Reading.{accepted, refused}
use Rattle.reader.specs.Read.{outcome, filled_terms}
use Rattle.reader.specs.OldForm.{old_reading, filled_relations}

-- Memory lengths first (6, 0), then as reading a text of the old form.
abbrev pub short_read : (terms relations first second : List ℕ) → Bool
short_read terms relations first second = ltb (length terms) terms_words || short_banks relations first second

unfoldable pub banks_read_gives : (text terms relations first second : List ℕ) → Outcome
banks_read_gives text terms relations first second = cond (short_read terms relations first second) (refusedOutcome 6 0) (outcome (old_reading text))

-- An accepted text fills the named words of terms and of relations with what it says, and those of a bank's own with
-- the tables and the event word of moment 0; a refusal leaves all memory as lent. Further words are not touched.
abbrev pub filled_own : List ℕ → Reading → List ℕ
filled_own own (accepted f) = drop relation_words (words_of f.terms (opening f.terms f.edges)) ++ drop own_words own
filled_own own (refused n l) = own

unfoldable pub banks_read_terms : (text terms relations first second : List ℕ) → List ℕ
banks_read_terms text terms relations first second = cond (short_read terms relations first second) terms (filled_terms terms (old_reading text))

unfoldable pub banks_read_relations : (text terms relations first second : List ℕ) → List ℕ
banks_read_relations text terms relations first second =
    cond (short_read terms relations first second) relations (filled_relations relations (old_reading text))

-- Own is either bank's.
unfoldable pub banks_read_own : (text terms relations first second : List ℕ) → (own : List ℕ) → List ℕ
banks_read_own text terms relations first second own = cond (short_read terms relations first second) own (filled_own own (old_reading text))

-- ---- a run

-- What the keeper of two banks begins with, fed the lines of an old file.
abbrev pub said_books : (text : List ℕ) → Books
said_books text = first_books (terms_said (said_lines (lines text))) (edges_said (said_lines (lines text)))

-- The memory of two banks that have read a text.
abbrev pub loaded_banks : (text terms : List ℕ) → Lent → BanksInUse
loaded_banks text terms W = record {
  terms = banks_read_terms text terms W.relations (W.own left) (W.own right);
  lent = record {
    relations = banks_read_relations text terms W.relations (W.own left) (W.own right);
    own = λ d. banks_read_own text terms W.relations (W.own left) (W.own right) (W.own d);
  };
  before = W;
}
