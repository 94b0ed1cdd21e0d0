-- What the lines of a text say, taken line by line and with no test: the terms and the first edges that the keeper is
-- fed, and the state of a stored file.
use Rattle.std.specs.Prelude.{ℕ, Bool, true, false, cond, ◌&&◌, ◌||◌, List, [], ◌∷◌, eqb, length, get_or, ◌≡◌}
use Rattle.theory.specs.Formula as formulas
use Rattle.theory.specs.Columns.{pair_word, pair_bit}
use Rattle.theory.specs.Terms as terms
use Rattle.theory.specs.Terms.{Terms}
use Rattle.theory.specs.Moment.{Relations, Event}
use Rattle.theory.specs.Moment.Event.{none}
use Rattle.theory.specs.Tables.{Tables}
use Rattle.fields.specs.Split.{Lines, split}
use Rattle.fields.specs.Split.Lines.{done, cut, line}
use Rattle.file.specs.Line.{parsed}
use Rattle.file.specs.File.{event_said, File}
use Rattle.file.specs.declared.line.Line.{Line}
use Rattle.file.specs.declared.line.Line.TheVariants.{Members, Labels, Entry, Policy, Effect, Edge, Form, TableBit, PairBit, EventEdge, Mark, Malformed}

-- The lines of a text.
unfoldable pub said_lines : Lines → List Line
said_lines done = []
said_lines (cut l) = []
said_lines (line l r) = parsed (split 9 l) ∷ said_lines r

-- ---- what one line adds

abbrev pub members_in : Line → ℕ → ℕ
members_in (Members n) rest = n
members_in (Labels r e) rest = rest
members_in (Entry n o a b c) rest = rest
members_in (Policy j n) rest = rest
members_in (Effect j c k d) rest = rest
members_in (Edge k a b) rest = rest
members_in (Form n) rest = rest
members_in (TableBit t a b) rest = rest
members_in (PairBit t a b c) rest = rest
members_in (EventEdge j u v) rest = rest
members_in (Mark j) rest = rest
members_in Malformed rest = rest

abbrev pub relations_in : Line → ℕ → ℕ
relations_in (Members n) rest = rest
relations_in (Labels r e) rest = r
relations_in (Entry n o a b c) rest = rest
relations_in (Policy j n) rest = rest
relations_in (Effect j c k d) rest = rest
relations_in (Edge k a b) rest = rest
relations_in (Form n) rest = rest
relations_in (TableBit t a b) rest = rest
relations_in (PairBit t a b c) rest = rest
relations_in (EventEdge j u v) rest = rest
relations_in (Mark j) rest = rest
relations_in Malformed rest = rest

abbrev pub events_in : Line → ℕ → ℕ
events_in (Members n) rest = rest
events_in (Labels r e) rest = e
events_in (Entry n o a b c) rest = rest
events_in (Policy j n) rest = rest
events_in (Effect j c k d) rest = rest
events_in (Edge k a b) rest = rest
events_in (Form n) rest = rest
events_in (TableBit t a b) rest = rest
events_in (PairBit t a b c) rest = rest
events_in (EventEdge j u v) rest = rest
events_in (Mark j) rest = rest
events_in Malformed rest = rest

abbrev pub entry_in : Line → List formulas.Entry → List formulas.Entry
entry_in (Members n) rest = rest
entry_in (Labels r e) rest = rest
entry_in (Entry n o a b c) rest = record { op = o; a = a; b = b; c = c } ∷ rest
entry_in (Policy j n) rest = rest
entry_in (Effect j c k d) rest = rest
entry_in (Edge k a b) rest = rest
entry_in (Form n) rest = rest
entry_in (TableBit t a b) rest = rest
entry_in (PairBit t a b c) rest = rest
entry_in (EventEdge j u v) rest = rest
entry_in (Mark j) rest = rest
entry_in Malformed rest = rest

abbrev pub policy_in : Line → List ℕ → List ℕ
policy_in (Members n) rest = rest
policy_in (Labels r e) rest = rest
policy_in (Entry n o a b c) rest = rest
policy_in (Policy j n) rest = n ∷ rest
policy_in (Effect j c k d) rest = rest
policy_in (Edge k a b) rest = rest
policy_in (Form n) rest = rest
policy_in (TableBit t a b) rest = rest
policy_in (PairBit t a b c) rest = rest
policy_in (EventEdge j u v) rest = rest
policy_in (Mark j) rest = rest
policy_in Malformed rest = rest

-- An effect of event i.
abbrev pub effect_in : ℕ → Line → List terms.Effect → List terms.Effect
effect_in i (Members n) rest = rest
effect_in i (Labels r e) rest = rest
effect_in i (Entry n o a b c) rest = rest
effect_in i (Policy j n) rest = rest
effect_in i (Effect j c k d) rest = cond (eqb i j) (record { adds = eqb c 1; relation = k; back = eqb d 1 } ∷ rest) rest
effect_in i (Edge k a b) rest = rest
effect_in i (Form n) rest = rest
effect_in i (TableBit t a b) rest = rest
effect_in i (PairBit t a b c) rest = rest
effect_in i (EventEdge j u v) rest = rest
effect_in i (Mark j) rest = rest
effect_in i Malformed rest = rest

-- Event i is kept.
abbrev pub mark_in : Line → (i : ℕ) → Bool
mark_in (Members n) i = false
mark_in (Labels r e) i = false
mark_in (Entry n o a b c) i = false
mark_in (Policy j n) i = false
mark_in (Effect j c k d) i = false
mark_in (Edge k a b) i = false
mark_in (Form n) i = false
mark_in (TableBit t a b) i = false
mark_in (PairBit t a b c) i = false
mark_in (EventEdge j u v) i = false
mark_in (Mark j) i = eqb i j
mark_in Malformed i = false

abbrev pub edge_in : Line → Relations
edge_in (Members n) l c d = false
edge_in (Labels r e) l c d = false
edge_in (Entry n o a b c'') l c d = false
edge_in (Policy j n) l c d = false
edge_in (Effect j c' k d') l c d = false
edge_in (Edge k a b) l c d = eqb l k && (eqb c a && eqb d b)
edge_in (Form n) l c d = false
edge_in (TableBit t a b) l c d = false
edge_in (PairBit t a b c') l c d = false
edge_in (EventEdge j u v) l c d = false
edge_in (Mark j) l c d = false
edge_in Malformed l c d = false

abbrev pub table_in : Line → Tables
table_in (Members n) l c d = false
table_in (Labels r e) l c d = false
table_in (Entry n o a b c'') l c d = false
table_in (Policy j n) l c d = false
table_in (Effect j c' k d') l c d = false
table_in (Edge k a b) l c d = false
table_in (Form n) l c d = false
table_in (TableBit t a b) l c d = eqb l t && (eqb c a && eqb d b)
table_in (PairBit t a b c') l c d = eqb l t && (eqb c (pair_word a b) && eqb d (pair_bit b c'))
table_in (EventEdge j u v) l c d = false
table_in (Mark j) l c d = false
table_in Malformed l c d = false

abbrev pub last_in : Line → Event → Event
last_in (Members n) rest = rest
last_in (Labels r e) rest = rest
last_in (Entry n o a b c) rest = rest
last_in (Policy j n) rest = rest
last_in (Effect j c k d) rest = rest
last_in (Edge k a b) rest = rest
last_in (Form n) rest = rest
last_in (TableBit t a b) rest = rest
last_in (PairBit t a b c) rest = rest
last_in (EventEdge j u v) rest = event_said j u v
last_in (Mark j) rest = rest
last_in Malformed rest = rest

abbrev pub form_in : Line → Bool → Bool
form_in (Members n) rest = rest
form_in (Labels r e) rest = rest
form_in (Entry n o a b c) rest = rest
form_in (Policy j n) rest = rest
form_in (Effect j c k d) rest = rest
form_in (Edge k a b) rest = rest
form_in (Form n) rest = true
form_in (TableBit t a b) rest = rest
form_in (PairBit t a b c) rest = rest
form_in (EventEdge j u v) rest = rest
form_in (Mark j) rest = rest
form_in Malformed rest = rest

-- ---- what all lines say

unfoldable pub members_said : List Line → ℕ
members_said [] = 0
members_said (l ∷ ls) = members_in l (members_said ls)

unfoldable pub relations_said : List Line → ℕ
relations_said [] = 0
relations_said (l ∷ ls) = relations_in l (relations_said ls)

unfoldable pub events_said : List Line → ℕ
events_said [] = 0
events_said (l ∷ ls) = events_in l (events_said ls)

unfoldable pub entries_said : List Line → List formulas.Entry
entries_said [] = []
entries_said (l ∷ ls) = entry_in l (entries_said ls)

unfoldable pub policies_said : List Line → List ℕ
policies_said [] = []
policies_said (l ∷ ls) = policy_in l (policies_said ls)

unfoldable pub effects_said : ℕ → List Line → List terms.Effect
effects_said j [] = []
effects_said j (l ∷ ls) = effect_in j l (effects_said j ls)

unfoldable pub kept_said : List Line → (j : ℕ) → Bool
kept_said [] j = false
kept_said (l ∷ ls) j = mark_in l j || kept_said ls j

unfoldable pub edges_said : List Line → Relations
edges_said [] k a b = false
edges_said (l ∷ ls) k a b = edge_in l k a b || edges_said ls k a b

unfoldable pub tables_said : List Line → Tables
tables_said [] t a b = false
tables_said (l ∷ ls) t a b = table_in l t a b || tables_said ls t a b

unfoldable pub last_said : List Line → Event
last_said [] = none
last_said (l ∷ ls) = last_in l (last_said ls)

-- Whether the lines are those of a stored file: one of them is an S line.
unfoldable pub stored_said : List Line → Bool
stored_said [] = false
stored_said (l ∷ ls) = form_in l (stored_said ls)

-- The terms that the lines say.
unfoldable pub terms_said : List Line → Terms
terms_said ls = record {
  members = members_said ls;
  relations = relations_said ls;
  events = events_said ls;
  entries = length (entries_said ls);
  entry = λ n. get_or (entries_said ls) n (record { op = 0; a = 0; b = 0; c = 0 });
  policy = λ j. get_or (policies_said ls) j 0;
  effects = λ j. effects_said j ls;
  kept = kept_said ls;
}

-- What the lines say is what the file says.
pub record SaidBy (ls : List Line) (f : File) : Type 0 where
  pub terms : terms_said ls ≡ f.terms
  pub edges : (k a b : ℕ) → edges_said ls k a b ≡ f.edges k a b
  pub bits : (t a b : ℕ) → tables_said ls t a b ≡ f.table t a b
  pub last : last_said ls ≡ f.last
  pub form : stored_said ls ≡ f.stored
