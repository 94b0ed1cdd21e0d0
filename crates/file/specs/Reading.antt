-- A file read line by line: the tests of the next line, and what is made of the whole text.
use Rattle.std.specs.Prelude.{ℕ, ◌+◌, Bool, true, false, cond, not, ◌&&◌, ◌||◌, List, [], ◌∷◌, eqb, ltb, leb, length}
use Rattle.sets.specs.Sets.{all_below}
use Rattle.theory.specs.Formula.{Operand, first_operand, second_operand, third_operand, number, is_past, columns, reach_operator}
use Rattle.theory.specs.Formula.Operand.{unused, variable, binder, label, entry, count}
use Rattle.theory.specs.Terms.{labels, formula, tables, past_entry}
use Rattle.theory.specs.Columns.{columns_fit, pair_member, pair_first, pair_last}
use Rattle.theory.specs.Fit.{◌⇒◌, only_free, closed, reach_fits}
use Rattle.theory.specs.Limits.{max_members, max_relations, max_events, max_entries, max_tables, max_effects, variables, max_count}
use Rattle.fields.specs.Split.{Lines, split, lines}
use Rattle.fields.specs.Split.Lines.{done, cut, line}
use Rattle.file.specs.Line.{parsed}
use Rattle.file.specs.File.{File, nothing, with_entry, event_named, pair_table, after_line}
use Rattle.file.specs.declared.line.Line.{Line}
use Rattle.file.specs.declared.line.Line.TheVariants.{Members, Labels, Entry, Policy, Effect, Edge, Form, TableBit, PairBit, EventEdge, Mark, Malformed}

-- An operand that is no entry is in its range; one that is an entry is lower than its own.
unfoldable pub in_range : Operand → (labels v : ℕ) → Bool
in_range unused labels v = eqb v 0
in_range variable labels v = ltb v variables
in_range binder labels v = ltb 0 v && ltb v variables
in_range label labels v = ltb v labels
in_range entry labels v = true
in_range count labels v = ltb 0 v && leb v max_count

unfoldable pub is_lower : Operand → (n v : ℕ) → Bool
is_lower unused n v = true
is_lower variable n v = true
is_lower binder n v = true
is_lower label n v = true
is_lower entry n v = ltb v n
is_lower count n v = true

-- All policies have been given, so that K, E, G, T and V lines, or the end, are due.
abbrev pub complete : File → Bool
complete f = leb 2 f.phase && eqb f.policies f.terms.events

-- An edge (kind 6) or a bit of a table (kind 7) comes after the last of its kind, by relation or table, from, to.
abbrev pub rises : (kind : ℕ) → File → (k a b : ℕ) → Bool
rises kind f k a b =
    ltb f.phase kind
    || (ltb f.relation k || (eqb f.relation k && (ltb f.from a || (eqb f.from a && ltb f.to b))))

-- The same of a table with two columns, by table, member, and the members of both columns, as they are written.
abbrev pub rises_pair : File → (t a b c : ℕ) → Bool
rises_pair f t a b c =
    ltb f.phase 7
    || (ltb f.relation t || (eqb f.relation t && (ltb (pair_member f.from) a || (eqb (pair_member f.from) a
    && (ltb (pair_first f.from f.to) b || (eqb (pair_first f.from f.to) b && ltb (pair_last f.to) c))))))

-- A test of a line: the number that it is refused with where the test fails, and whether it passes.
pub record Test : Type 0 where
  pub number : ℕ
  pub passes : Bool

abbrev pub test : ℕ → Bool → Test
test n b = record { number = n; passes = b }

-- The tests of a line, their numbers never falling (docs/SCOPE.md, Refusals).
unfoldable pub tests : File → Line → List Test
tests f (Members n) =
    test 1 (eqb f.phase 0)
    ∷ test 2 (ltb 0 n)
    ∷ test 2 (ltb n (1 + max_members))
    ∷ []
tests f (Labels r e) =
    test 1 (eqb f.phase 1)
    ∷ test 2 (ltb r (1 + max_relations))
    ∷ test 2 (ltb 0 e)
    ∷ test 2 (ltb e (1 + max_events))
    ∷ []
tests f (Entry n o a b c) =
    test 1 (eqb f.phase 2 || eqb f.phase 3)
    ∷ test 1 (eqb n f.terms.entries)
    ∷ test 2 (ltb n max_entries)
    ∷ test 2 (in_range (first_operand o) (labels f.terms) a)
    ∷ test 2 (in_range (second_operand o) (labels f.terms) b)
    ∷ test 2 (in_range (third_operand o) (labels f.terms) c)
    ∷ test 2 (is_past o ⇒ ltb (number f.terms.entry n) max_tables)
    ∷ test 3 (is_lower (first_operand o) n a)
    ∷ test 3 (is_lower (second_operand o) n b)
    ∷ test 3 (is_lower (third_operand o) n c)
    ∷ test 4 (is_past o ⇒ columns_fit f.terms.members (columns (formula (with_entry f.terms n o a b c) n)))
    ∷ test 10 (eqb o reach_operator ⇒ reach_fits a (formula f.terms b) (formula f.terms c))
    ∷ []
tests f (Policy j n) =
    test 1 (leb 2 f.phase && leb f.phase 4)
    ∷ test 1 (eqb j f.policies)
    ∷ test 1 (ltb j f.terms.events)
    ∷ test 2 (ltb n f.terms.entries)
    ∷ test 5 (only_free 0 (formula f.terms n))
    ∷ []
tests f (Effect j c k d) =
    test 1 (complete f)
    ∷ test 1 (leb f.phase 5)
    ∷ test 1 (leb f.event j)
    ∷ test 2 (ltb j f.terms.events)
    ∷ test 2 (ltb (length (f.terms.effects j)) max_effects)
    ∷ test 2 (ltb k f.terms.relations)
    ∷ []
tests f (Edge k a b) =
    test 1 (complete f)
    ∷ test 1 (leb f.phase 6)
    ∷ test 1 (rises 6 f k a b)
    ∷ test 2 (ltb k f.terms.relations)
    ∷ test 2 (ltb a f.terms.members)
    ∷ test 2 (ltb b f.terms.members)
    ∷ []
tests f (Form n) =
    test 1 (eqb f.phase 0)
    ∷ test 1 (not f.stored)
    ∷ test 2 (eqb n 2)
    ∷ []
tests f (TableBit t a b) =
    test 1 f.stored
    ∷ test 1 (complete f)
    ∷ test 1 (leb f.phase 7)
    ∷ test 1 (rises 7 f t a b)
    ∷ test 1 (not (pair_table f.terms t))
    ∷ test 2 (ltb t (tables f.terms))
    ∷ test 2 (ltb a f.terms.members)
    ∷ test 2 (ltb b f.terms.members)
    ∷ []
tests f (PairBit t a b c) =
    test 1 f.stored
    ∷ test 1 (complete f)
    ∷ test 1 (leb f.phase 7)
    ∷ test 1 (rises_pair f t a b c)
    ∷ test 1 (pair_table f.terms t)
    ∷ test 2 (ltb a f.terms.members)
    ∷ test 2 (ltb b f.terms.members)
    ∷ test 2 (ltb c f.terms.members)
    ∷ []
tests f (EventEdge j u v) =
    test 1 f.stored
    ∷ test 1 (complete f)
    ∷ test 1 (leb f.phase 7)
    ∷ test 2 (ltb (event_named j) f.terms.events)
    ∷ test 2 (ltb u f.terms.members)
    ∷ test 2 (ltb v f.terms.members)
    ∷ []
tests f (Mark j) =
    test 1 (complete f)
    ∷ test 1 (leb f.phase 4)
    ∷ test 1 (leb f.marks j)
    ∷ test 2 (ltb j f.terms.events)
    ∷ []
tests f Malformed = test 1 false ∷ []

-- What comes of reading: the file, or the refusal's number and line.
pub data Reading : Type 0 where
  accepted : File → Reading
  refused : (number line : ℕ) → Reading

-- A line goes on where every test passes; else the first that fails gives the number.
unfoldable pub tried : List Test → (line : ℕ) → Reading → Reading
tried [] n r = r
tried (t ∷ ts) n r = cond t.passes (tried ts n r) (refused t.number n)

-- The lines from number n on, after what f has said.
unfoldable pub read_on : File → (n : ℕ) → Lines → Reading
read_on f n done = cond (complete f) (accepted f) (refused 1 n)
read_on f n (cut l) = refused 1 n
read_on f n (line l r) = tried (tests f (parsed (split 9 l))) n (read_on (after_line f (parsed (split 9 l))) (n + 1) r)

-- Word a of table t, which has a bit, is partly filled, and the table is one without a free variable.
unfoldable pub partly : File → (t a : ℕ) → Bool
partly f t a = closed (formula f.terms (past_entry f.terms t)) && not (all_below f.terms.members (f.table t a))

-- A line is a T line of such a word.
abbrev pub partly_filled : File → Line → Bool
partly_filled f (Members n) = false
partly_filled f (Labels r e) = false
partly_filled f (Entry n o a b c) = false
partly_filled f (Policy j n) = false
partly_filled f (Effect j c k d) = false
partly_filled f (Edge k a b) = false
partly_filled f (Form n) = false
partly_filled f (TableBit t a b) = partly f t a
partly_filled f (PairBit t a b c) = false
partly_filled f (EventEdge j u v) = false
partly_filled f (Mark j) = false
partly_filled f Malformed = false

-- The number of the first such line, from line n on; 0 if there is none. As T lines rise, it is the first
-- T line of the first such word.
unfoldable pub partly_at : File → (n : ℕ) → Lines → ℕ
partly_at f n done = 0
partly_at f n (cut l) = 0
partly_at f n (line l r) = cond (partly_filled f (parsed (split 9 l))) n (partly_at f (n + 1) r)

-- It is looked for (refusal 11) only where no line has another fault.
unfoldable pub levelled : Lines → Reading → Reading
levelled ls (accepted f) = cond (eqb (partly_at f 1 ls) 0) (accepted f) (refused 11 (partly_at f 1 ls))
levelled ls (refused n l) = refused n l

-- What comes of reading a text.
unfoldable pub reading : List ℕ → Reading
reading text = levelled (lines text) (read_on nothing 1 (lines text))
