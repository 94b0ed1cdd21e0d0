-- The lines of a text kind by kind, as `all_lines` and `stored_lines` have them one after the other.
use Rattle.std.specs.Prelude.{ℕ, ◌+◌, ◌*◌, ◌≡◌, Bool, true, false, cond, List, [], ◌∷◌, ◌++◌, eqb, length, get_or}
use Rattle.sets.specs.Sets.{bit}
use Rattle.theory.specs.Columns.{pair_member, pair_first, pair_last}
use Rattle.theory.specs.Terms.{Terms}
use Rattle.theory.specs.Moment.{Relations}
use Rattle.theory.specs.Tables.{Tables}
use Rattle.fields.specs.Split.{join}
use Rattle.fields.specs.private.Put.{Put}
use Rattle.file.specs.Writing.{listed, line_of_entry, mark_line, effect_lines, bit_at, table_says}
use Rattle.file.specs.File.{pair_table}
use Rattle.file.specs.declared.line.Line.{Line}
use Rattle.file.specs.declared.line.Line.TheVariants.{Members, Labels, Policy, Effect, Edge, TableBit, PairBit}

abbrev pub front_lines : Terms → List Line
front_lines T = Members T.members ∷ Labels T.relations T.events ∷ []

-- The line of entry n, and all of them; so for policies, marks and effects.
abbrev pub entry_of : Terms → ℕ → List Line
entry_of T n = line_of_entry T n ∷ []

abbrev pub entry_lines : Terms → List Line
entry_lines T = listed T.entries (entry_of T)

abbrev pub policy_of : Terms → ℕ → List Line
policy_of T j = Policy j (T.policy j) ∷ []

abbrev pub policy_lines : Terms → List Line
policy_lines T = listed T.events (policy_of T)

abbrev pub mark_lines : Terms → List Line
mark_lines T = listed T.events (mark_line T)

abbrev pub effects_of : Terms → ℕ → List Line
effects_of T j = effect_lines j (T.effects j)

abbrev pub event_lines : Terms → List Line
event_lines T = listed T.events (effects_of T)

abbrev pub edge_lines : Relations → List Line
edge_lines R = listed 65536 (bit_at Edge R)

abbrev pub table_lines : Terms → Tables → List Line
table_lines T X = listed 131072 (bit_at (table_says T) X)

-- ---- as memory holds them

-- The effect of event j in the three words from a word on.
abbrev pub triple_of : List ℕ → (j from : ℕ) → List Line
triple_of w j from = Effect j (cond (eqb (get_or w from 0) 1) 1 2) (get_or w (from + 1) 0) (cond (eqb (get_or w (from + 2) 0) 1) 1 0) ∷ []

-- The tables with two columns are those of a set.
abbrev pub Paired : Terms → ℕ → Type 0
Paired T pairs = (t : ℕ) → bit pairs t ≡ pair_table T t

-- What a set bit of a relation or of a table says, where the tables with two columns are those of a set.
abbrev pub says : (table : Bool) → (pairs k a b : ℕ) → Line
says false pairs = Edge
says true pairs = λ t i k. cond (bit pairs t) (PairBit t (pair_member i) (pair_first i k) (pair_last k)) (TableBit t i k)

-- The line of bit b of word i of the relations or tables, where that word is w; the lines of all its bits; and those of
-- n words from word `first` of a state on.
abbrev pub bit_of : (table : Bool) → (pairs w i b : ℕ) → List Line
bit_of table pairs w i b = bit_at (says table pairs) (λ k a. bit w) (64 * i + b)

abbrev pub row_of : (table : Bool) → (pairs w i : ℕ) → List Line
row_of table pairs w i = listed 64 (bit_of table pairs w i)

abbrev pub rows_of : (table : Bool) → (pairs : ℕ) → (state : List ℕ) → (first n : ℕ) → List Line
rows_of table pairs state first n = listed n (λ i. row_of table pairs (get_or state (first + i) 0) i)

-- A line of a letter and some fields ends at r, past the end of an output.
abbrev pub Skipped : (at r : ℕ) → List (List ℕ) → Type 0
Skipped at r fs = (k : List ℕ) → length k ≡ 1 → Put [] [] at r (join 9 (k ∷ fs) ++ (10 ∷ []))
