-- Reading the terms and the relations of a text of the old form: what it gives and leaves, for
-- every text and every lent memory.
use Rattle.std.specs.Prelude.{ℕ, Bool, cond, ◌||◌, List, ◌++◌, ltb, length, take, drop}
use Rattle.memory.specs.Layout.{terms_words, relation_words, words_of}
use Rattle.fields.specs.Split.{lines}
use Rattle.file.specs.File.{state_said}
use Rattle.file.specs.Said.{said_lines, stored_said}
use Rattle.file.specs.Reading.{Reading, reading}
use Rattle.file.specs.Reading.Reading.{accepted, refused}
use Rattle.reader.specs.Read.{Filling, filled_terms}
use Rattle.reader.specs.Read.Filling.{old, refused as refusedFilling}

-- The first line is an S line, with which the stored form begins.
unfoldable pub begins_stored : List ℕ → Bool
begins_stored text = stored_said (take 1 (said_lines (lines text)))

-- A stored text is none of the old form: refused with 1 at line 1, where its S stands.
unfoldable pub old_reading : List ℕ → Reading
old_reading text = cond (begins_stored text) (refused 1 1) (reading text)

-- Memory lengths first (6, 0), then the first faulty line and in it the lowest number.
abbrev pub short_relations : (terms relations : List ℕ) → Bool
short_relations terms relations = ltb (length terms) terms_words || ltb (length relations) relation_words

abbrev pub old_filling : Reading → Filling
old_filling (accepted f) = old
old_filling (refused n l) = refusedFilling n l

unfoldable pub old_fill_gives : (text terms relations : List ℕ) → Filling
old_fill_gives text terms relations = cond (short_relations terms relations) (refusedFilling 6 0) (old_filling (old_reading text))

-- An accepted text fills the named words of terms and of relations with what it says; a refusal leaves all memory as
-- lent. Further words are not touched.
abbrev pub filled_relations : List ℕ → Reading → List ℕ
filled_relations relations (accepted f) = take relation_words (words_of f.terms (state_said f)) ++ drop relation_words relations
filled_relations relations (refused n l) = relations

unfoldable pub old_terms : (text terms relations : List ℕ) → List ℕ
old_terms text terms relations = cond (short_relations terms relations) terms (filled_terms terms (old_reading text))

unfoldable pub old_relations : (text terms relations : List ℕ) → List ℕ
old_relations text terms relations = cond (short_relations terms relations) relations (filled_relations relations (old_reading text))
