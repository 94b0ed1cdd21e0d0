-- What the program prints for a terms text and a requests text (docs/SCOPE.md, The program). For an old
-- file that is made of the keeper's answers, for a stored file of those that its tables give: of its text
-- alone nobody can tell whether it has a record. Where it has one, these are the answers of the keeper who
-- goes on with it (`output_recorded`).
use Rattle.std.specs.Prelude.{ℕ, cond, List, ◌++◌, ltb, length, drop}
use Rattle.memory.specs.Layout.{words_of}
use Rattle.file.specs.File.{state_said}
use Rattle.file.specs.Reading.{Reading, reading}
use Rattle.file.specs.Reading.Reading.{accepted, refused}
use Rattle.reader.specs.Memory.{memory_of}
use Rattle.writer.specs.Write.{Writing}
use Rattle.writer.specs.Write.Writing.{bytes, refused as refusedWriting}
use Rattle.transcript.specs.Transcript.{file_line, terms_name, longest, answered}
use Rattle.transcript.specs.Served.{served_all}

abbrev pub after_terms : (terms requests : List ℕ) → Reading → List ℕ
after_terms terms requests (accepted f) =
    cond f.stored (served_all (memory_of f.terms) (words_of f.terms (state_said f)) requests) (answered terms requests)
after_terms terms requests (refused n l) = file_line terms_name n l

-- What is printed. Terms come first.
unfoldable pub output : (terms requests : List ℕ) → List ℕ
output terms requests =
    cond (ltb longest (length terms)) (file_line terms_name 6 0) (after_terms terms requests (reading terms))

-- What `transcript` gives and leaves: the count of bytes and the bytes, or 6 where the output is too
-- short, and then nothing is written.
unfoldable pub transcript_gives : (terms requests out : List ℕ) → Writing
transcript_gives terms requests out =
    cond (ltb (length out) (length (output terms requests))) (refusedWriting 6 0) (bytes (length (output terms requests)))

unfoldable pub transcript_leaves : (terms requests out : List ℕ) → List ℕ
transcript_leaves terms requests out =
    cond (ltb (length out) (length (output terms requests))) out (output terms requests ++ drop (length (output terms requests)) out)
