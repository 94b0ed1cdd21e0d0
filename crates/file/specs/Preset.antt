-- The preset's text (docs/SCOPE.md, The preset terms, whole), byte by byte, and what its lines say.
use Rattle.std.specs.Prelude.{ℕ, List, [], ◌∷◌, ◌≡◌}
use Rattle.fields.specs.Split.{lines}
use Rattle.file.specs.File.{File, nothing, after_line}
use Rattle.file.specs.Said.{said_lines}
use Rattle.file.specs.declared.line.Line.{Line}
use Rattle.file.specs.Reading.{reading}
use Rattle.file.specs.Reading.Reading.{accepted}
use Rattle.theory.specs.Terms.{Alike}
use Rattle.theory.specs.Cases.{preset, own}

unfoldable pub preset_text : List ℕ
preset_text =
    77 ∷ 9 ∷ 51 ∷ 10  -- M 3
    ∷ 76 ∷ 9 ∷ 49 ∷ 9 ∷ 51 ∷ 10  -- L 1 3
    ∷ 70 ∷ 9 ∷ 48 ∷ 9 ∷ 118 ∷ 97 ∷ 114 ∷ 9 ∷ 49 ∷ 9 ∷ 48 ∷ 10  -- F 0 var 1 0
    ∷ 70 ∷ 9 ∷ 49 ∷ 9 ∷ 111 ∷ 117 ∷ 116 ∷ 9 ∷ 49 ∷ 9 ∷ 48 ∷ 10  -- F 1 out 1 0
    ∷ 70 ∷ 9 ∷ 50 ∷ 9 ∷ 111 ∷ 117 ∷ 116 ∷ 9 ∷ 50 ∷ 9 ∷ 48 ∷ 10  -- F 2 out 2 0
    ∷ 70 ∷ 9 ∷ 51 ∷ 9 ∷ 110 ∷ 111 ∷ 116 ∷ 9 ∷ 50 ∷ 9 ∷ 48 ∷ 10  -- F 3 not 2 0
    ∷ 70 ∷ 9 ∷ 52 ∷ 9 ∷ 115 ∷ 105 ∷ 110 ∷ 99 ∷ 101 ∷ 9 ∷ 51 ∷ 9 ∷ 49 ∷ 10  -- F 4 since 3 1
    ∷ 70 ∷ 9 ∷ 53 ∷ 9 ∷ 105 ∷ 110 ∷ 9 ∷ 48 ∷ 9 ∷ 52 ∷ 10  -- F 5 in 0 4
    ∷ 70 ∷ 9 ∷ 54 ∷ 9 ∷ 97 ∷ 116 ∷ 9 ∷ 48 ∷ 9 ∷ 53 ∷ 10  -- F 6 at 0 5
    ∷ 70 ∷ 9 ∷ 55 ∷ 9 ∷ 98 ∷ 105 ∷ 110 ∷ 100 ∷ 9 ∷ 49 ∷ 9 ∷ 54 ∷ 10  -- F 7 bind 1 6
    ∷ 70 ∷ 9 ∷ 56 ∷ 9 ∷ 116 ∷ 111 ∷ 112 ∷ 9 ∷ 48 ∷ 9 ∷ 48 ∷ 10  -- F 8 top 0 0
    ∷ 80 ∷ 9 ∷ 48 ∷ 9 ∷ 56 ∷ 10  -- P 0 8
    ∷ 80 ∷ 9 ∷ 49 ∷ 9 ∷ 56 ∷ 10  -- P 1 8
    ∷ 80 ∷ 9 ∷ 50 ∷ 9 ∷ 55 ∷ 10  -- P 2 7
    ∷ 71 ∷ 9 ∷ 48 ∷ 9 ∷ 48 ∷ 9 ∷ 50 ∷ 10  -- G 0 0 2
    ∷ []

-- What is said once lines are taken in one after the other.
unfoldable pub taken_in : File → List Line → File
taken_in f [] = f
taken_in f (l ∷ ls) = taken_in (after_line f l) ls

unfoldable pub preset_file : File
preset_file = taken_in nothing (said_lines (lines preset_text))

-- Reading the text gives the terms and first edges of the marked cases.
pub record ReadsPreset : Type 0 where
  pub read : reading preset_text ≡ accepted preset_file
  pub terms : Alike preset_file.terms preset
  pub edges : (k a b : ℕ) → preset_file.edges k a b ≡ own k a b
