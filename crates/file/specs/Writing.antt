-- The terms with given relations as a text (docs/SCOPE.md, The terms file), and with a whole state (The stored form).
use Rattle.std.specs.Prelude.{ℕ, zero, suc, ◌+◌, ◌/◌, ◌%◌, Bool, cond, List, [], ◌∷◌, ◌++◌}
use Rattle.theory.specs.Columns.{pair_member, pair_first, pair_last}
use Rattle.theory.specs.Terms.{Terms}
use Rattle.theory.specs.Terms as terms
use Rattle.theory.specs.Moment.{Relations, Event}
use Rattle.theory.specs.Moment.Event.{none, happened, tried}
use Rattle.theory.specs.Tables.{State}
use Rattle.theory.specs.Limits.{max_events}
use Rattle.file.specs.Line.{printed}
use Rattle.file.specs.File.{pair_table, File, state_said}
use Rattle.file.specs.declared.line.Line.{Line}
use Rattle.file.specs.declared.line.Line.TheVariants.{Members, Labels, Entry, Policy, Effect, Edge, Form, TableBit, PairBit, EventEdge, Mark}

-- The lists f 0, f 1, .. f (n − 1), one after the other.
unfoldable pub listed : ℕ → (ℕ → List Line) → List Line
listed zero f = []
listed (suc n) f = listed n f ++ f n

abbrev pub line_of_entry : Terms → ℕ → Line
line_of_entry T n = Entry n (T.entry n).op (T.entry n).a (T.entry n).b (T.entry n).c

-- The line of event j, if it is kept.
abbrev pub mark_line : Terms → ℕ → List Line
mark_line T j = cond (T.kept j) (Mark j ∷ []) []

-- The effects of event j, in listed order.
unfoldable pub effect_lines : ℕ → List terms.Effect → List Line
effect_lines j [] = []
effect_lines j (e ∷ es) = Effect j (cond e.adds 1 2) e.relation (cond e.back 1 0) ∷ effect_lines j es

-- The line of bit number q, by relation or table, from, to, if it is set.
abbrev pub bit_at : (ℕ → ℕ → ℕ → Line) → ((k a b : ℕ) → Bool) → ℕ → List Line
bit_at says R q = cond (R (q / 4096) (q / 64 % 64) (q % 64)) (says (q / 4096) (q / 64 % 64) (q % 64) ∷ []) []

-- The line of bit k of word i of table t.
abbrev pub table_says : Terms → (t i k : ℕ) → Line
table_says T t i k = cond (pair_table T t) (PairBit t (pair_member i) (pair_first i k) (pair_last k)) (TableBit t i k)

-- The lines of the terms with the relations R.
unfoldable pub all_lines : Terms → Relations → List Line
all_lines T R =
    Members T.members
    ∷ Labels T.relations T.events
    ∷ (listed T.entries (λ n. line_of_entry T n ∷ [])
    ++ (listed T.events (λ j. Policy j (T.policy j) ∷ [])
    ++ (listed T.events (mark_line T)
    ++ (listed T.events (λ j. effect_lines j (T.effects j))
    ++ listed 65536 (bit_at Edge R)))))

-- The line of the event edge, if there is one: a denied event is written as its number plus 16.
abbrev pub event_edge_line : Event → List Line
event_edge_line none = []
event_edge_line (happened j u v) = EventEdge j u v ∷ []
event_edge_line (tried j u v) = EventEdge (max_events + j) u v ∷ []

-- The lines of the stored form: S 2, the lines above, each set bit of a table, the event edge.
unfoldable pub stored_lines : Terms → State → List Line
stored_lines T S =
    Form 2 ∷ (all_lines T S.now.edge ++ (listed 131072 (bit_at (table_says T) S.table) ++ event_edge_line S.now.event))

-- Lines as a text: each ends with a line feed.
unfoldable pub printed_all : List Line → List ℕ
printed_all [] = []
printed_all (l ∷ ls) = printed l ++ (10 ∷ printed_all ls)

unfoldable pub written : Terms → Relations → List ℕ
written T R = printed_all (all_lines T R)

unfoldable pub stored : Terms → State → List ℕ
stored T S = printed_all (stored_lines T S)

-- The text of what a file says, in its own form.
abbrev pub text_said : File → List ℕ
text_said f = cond f.stored (stored f.terms (state_said f)) (written f.terms f.edges)
