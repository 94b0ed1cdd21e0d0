-- A text in its normal form: each number field is the digits of its value, all else stays. A
-- plain text has no padded number.
use Rattle.std.specs.Prelude.{ℕ, Bool, true, cond, not, ◌&&◌, List, [], ◌∷◌, map, ◌≡◌}
use Rattle.fields.specs.Split.{Lines, split, join, lines, unlines}
use Rattle.fields.specs.Split.Lines.{done, cut, line}
use Rattle.fields.specs.Number.{is_number, padded, normal}
use Rattle.file.specs.File.{File}
use Rattle.file.specs.Reading.{reading}
use Rattle.file.specs.Reading.Reading.{accepted}

-- A field with a number in its normal form; any other field as it is.
abbrev pub normal_field : List ℕ → List ℕ
normal_field f = cond (is_number f) (normal f) f

abbrev pub normal_line : List ℕ → List ℕ
normal_line l = join 9 (map normal_field (split 9 l))

unfoldable pub normal_lines : Lines → Lines
normal_lines done = done
normal_lines (cut l) = cut (normal_line l)
normal_lines (line l r) = line (normal_line l) (normal_lines r)

unfoldable pub normal_text : List ℕ → List ℕ
normal_text text = unlines (normal_lines (lines text))

-- No field is a padded number.
unfoldable pub plain_fields : List (List ℕ) → Bool
plain_fields [] = true
plain_fields (f ∷ fs) = not (is_number f && padded f) && plain_fields fs

unfoldable pub plain_lines : Lines → Bool
plain_lines done = true
plain_lines (cut l) = plain_fields (split 9 l)
plain_lines (line l r) = plain_fields (split 9 l) && plain_lines r

unfoldable pub is_plain : List ℕ → Bool
is_plain text = plain_lines (lines text)

-- What reading the normal form of a text gives, where reading the text gave f: the same form, terms and state.
pub record Unpadded (text : List ℕ) (f g : File) : Type 0 where
  pub accepts : reading (normal_text text) ≡ accepted g
  pub form : g.stored ≡ f.stored
  pub terms : g.terms ≡ f.terms
  pub edges : g.edges ≡ f.edges
  pub table : g.table ≡ f.table
  pub last : g.last ≡ f.last
