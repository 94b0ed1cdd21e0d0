-- A line of a terms file and what it says (docs/SCOPE.md, The terms file): each kind's fields, read and written.
use Rattle.std.specs.Prelude.{ℕ, Bool, cond, ◌||◌, List, [], ◌∷◌, eqb, ltb, length, get_or}
use Rattle.theory.specs.Fit.{every}
use Rattle.fields.specs.Split.{join}
use Rattle.fields.specs.Number.{is_number, value_of, digits}
use Rattle.file.specs.Words.{operator_words, action_words, direction_words, kind_words, operator_of, action_of, direction_of, kind_of}
use Rattle.file.specs.declared.line.Line.{Line}
use Rattle.file.specs.declared.line.Line.TheVariants.{Members, Labels, Entry, Policy, Effect, Edge, Form, TableBit, PairBit, EventEdge, Mark, Malformed}
use Rattle.theory.specs.Formula.{reach_operator, many_operator, operators}

-- The value of field k; whether the fields numbered in the list are numbers.
abbrev pub num : List (List ℕ) → ℕ → ℕ
num fs k = value_of (get_or fs k [])

abbrev pub is_num : List (List ℕ) → ℕ → Bool
is_num fs k = is_number (get_or fs k [])

-- A line of each kind: its field count, number forms and words, and what it says. (The action is 1 add, 2
-- del; the direction 0 fwd, 1 back.)

-- A line of one number: the members, a form or a kept event.
unfoldable pub single_line : (ℕ → Line) → List (List ℕ) → Line
single_line says fs = cond (every (eqb (length fs) 2 ∷ is_num fs 1 ∷ [])) (says (num fs 1)) Malformed

unfoldable pub labels_line : List (List ℕ) → Line
labels_line fs = cond (every (eqb (length fs) 3 ∷ is_num fs 1 ∷ is_num fs 2 ∷ [])) (Labels (num fs 1) (num fs 2)) Malformed

-- An F line of five fields, its third operand 0; and one of six.
unfoldable pub short_entry_line : List (List ℕ) → Line
short_entry_line fs =
    cond (every (eqb (length fs) 5 ∷ is_num fs 1 ∷ ltb (operator_of (get_or fs 2 [])) operators ∷ is_num fs 3 ∷ is_num fs 4 ∷ []))
    (Entry (num fs 1) (operator_of (get_or fs 2 [])) (num fs 3) (num fs 4) 0) Malformed

unfoldable pub long_entry_line : List (List ℕ) → Line
long_entry_line fs =
    cond (every (eqb (length fs) 6 ∷ is_num fs 1 ∷ is_num fs 3 ∷ is_num fs 4 ∷ is_num fs 5 ∷ []))
    (Entry (num fs 1) (operator_of (get_or fs 2 [])) (num fs 3) (num fs 4) (num fs 5)) Malformed

-- Only reach and many have a third operand, and lines of six fields.
abbrev pub has_third : ℕ → Bool
has_third o = eqb o reach_operator || eqb o many_operator

unfoldable pub entry_line : List (List ℕ) → Line
entry_line fs = cond (has_third (operator_of (get_or fs 2 []))) (long_entry_line fs) (short_entry_line fs)

unfoldable pub policy_line : List (List ℕ) → Line
policy_line fs = cond (every (eqb (length fs) 3 ∷ is_num fs 1 ∷ is_num fs 2 ∷ [])) (Policy (num fs 1) (num fs 2)) Malformed

unfoldable pub effect_line : List (List ℕ) → Line
effect_line fs =
    cond (every (eqb (length fs) 5 ∷ is_num fs 1 ∷ ltb 0 (action_of (get_or fs 2 [])) ∷ is_num fs 3 ∷ ltb (direction_of (get_or fs 4 [])) 2 ∷ []))
    (Effect (num fs 1) (action_of (get_or fs 2 [])) (num fs 3) (direction_of (get_or fs 4 []))) Malformed

-- A line of three numbers: an edge, a bit of a table or an event edge.
unfoldable pub triple_line : (ℕ → ℕ → ℕ → Line) → List (List ℕ) → Line
triple_line says fs =
    cond (every (eqb (length fs) 4 ∷ is_num fs 1 ∷ is_num fs 2 ∷ is_num fs 3 ∷ [])) (says (num fs 1) (num fs 2) (num fs 3)) Malformed

-- A T line of a table with two columns has a field more.
unfoldable pub pair_line : List (List ℕ) → Line
pair_line fs =
    cond (every (eqb (length fs) 5 ∷ is_num fs 1 ∷ is_num fs 2 ∷ is_num fs 3 ∷ is_num fs 4 ∷ [])) (PairBit (num fs 1) (num fs 2) (num fs 3) (num fs 4)) Malformed

unfoldable pub table_line : List (List ℕ) → Line
table_line fs = cond (eqb (length fs) 5) (pair_line fs) (triple_line TableBit fs)

-- What a line of kind k, in the order of the kinds' words, says.
unfoldable pub line_of : ℕ → List (List ℕ) → Line
line_of k fs =
    get_or (
    single_line Members fs
    ∷ labels_line fs
    ∷ entry_line fs
    ∷ policy_line fs
    ∷ effect_line fs
    ∷ triple_line Edge fs
    ∷ single_line Form fs
    ∷ table_line fs
    ∷ triple_line EventEdge fs
    ∷ single_line Mark fs
    ∷ []
    ) k Malformed

-- What the fields of a line say.
unfoldable pub parsed : List (List ℕ) → Line
parsed fs = line_of (kind_of (get_or fs 0 [])) fs

-- The fields of a line that says this, and its bytes without the line feed.
unfoldable pub fields_of : Line → List (List ℕ)
fields_of (Members n) = get_or kind_words 0 [] ∷ digits n ∷ []
fields_of (Labels r e) = get_or kind_words 1 [] ∷ digits r ∷ digits e ∷ []
fields_of (Entry n o a b c) = get_or kind_words 2 [] ∷ digits n ∷ get_or operator_words o [] ∷ digits a ∷ digits b ∷ cond (has_third o) (digits c ∷ []) []
fields_of (Policy j n) = get_or kind_words 3 [] ∷ digits j ∷ digits n ∷ []
fields_of (Effect j c k d) = get_or kind_words 4 [] ∷ digits j ∷ get_or ([] ∷ action_words) c [] ∷ digits k ∷ get_or direction_words d [] ∷ []
fields_of (Edge k a b) = get_or kind_words 5 [] ∷ digits k ∷ digits a ∷ digits b ∷ []
fields_of (Form n) = get_or kind_words 6 [] ∷ digits n ∷ []
fields_of (TableBit t a b) = get_or kind_words 7 [] ∷ digits t ∷ digits a ∷ digits b ∷ []
fields_of (PairBit t a b c) = get_or kind_words 7 [] ∷ digits t ∷ digits a ∷ digits b ∷ digits c ∷ []
fields_of (EventEdge j u v) = get_or kind_words 8 [] ∷ digits j ∷ digits u ∷ digits v ∷ []
fields_of (Mark j) = get_or kind_words 9 [] ∷ digits j ∷ []
fields_of Malformed = []

abbrev pub printed : Line → List ℕ
printed l = join 9 (fields_of l)
