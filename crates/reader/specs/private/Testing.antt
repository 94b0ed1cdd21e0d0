-- The tests of a line, on numbers: against the counters in place of what the lines have said.
use Rattle.std.specs.Prelude.{ℕ, ◌+◌, ◌*◌, ◌<◌, ◌≡◌, Bool, true, false, cond, not, ◌&&◌, ◌||◌, List, [], ◌∷◌, eqb, ltb, leb, get_or, Result, Ok, Err}
use Rattle.sets.specs.Sets.{bit}
use Rattle.theory.specs.Formula.{Formula, node, free, first_operand, second_operand, third_operand, is_past, reach_operator}
use Rattle.theory.specs.Formula.Operand.{variable, entry}
use Rattle.theory.specs.Columns.{pair_member, pair_first, pair_last}
use Rattle.theory.specs.Fit.{◌⇒◌}
use Rattle.theory.specs.Limits.{max_members, max_relations, max_events, max_entries, max_tables, max_effects}
use Rattle.memory.specs.Layout.{terms_of}
use Rattle.memory.specs.declared.refusal.Fault.{Fault}
use Rattle.memory.specs.Refusal.{fault_number}
use Rattle.memory.specs.TableIndex.{rest_of, set_fits, reach_sets}
use Rattle.theory.specs.Terms.{past_entry}
use Rattle.file.specs.File.{event_named}
use Rattle.file.specs.Reading.{Test, test, in_range, is_lower}
use Rattle.file.specs.declared.line.Line.{Line}
use Rattle.file.specs.declared.line.Line.TheVariants.{Members, Labels, Entry, Policy, Effect, Edge, Form, TableBit, PairBit, EventEdge, Mark, Malformed}
use Rattle.reader.specs.declared.step.Context.{Context}
use Rattle.reader.specs.private.Stepping.{is_complete, slot}

-- ---- the number of the first test that fails, or 0

-- The number of what is found wrong; 0 where nothing is.
abbrev pub found : Result Unit Fault → ℕ
found (Ok u) = 0
found (Err f) = fault_number f

-- A number k from the tests before t: it stays, and where it is 0, t gives its own if it fails.
unfoldable pub refused_by : ℕ → Test → ℕ
refused_by k t = cond (eqb k 0) (cond t.passes 0 t.number) k

unfoldable pub number_from : ℕ → List Test → ℕ
number_from k [] = k
number_from k (t ∷ ts) = number_from (refused_by k t) ts

-- ---- the tests of a line

-- An edge (kind 6) or a bit of a table (kind 7) comes after the last of its kind, by relation or table, from, to.
abbrev pub rising : (kind : ℕ) → Context → (k a b : ℕ) → Bool
rising kind c k a b =
    ltb c.phase kind
    || (ltb c.relation k || (eqb c.relation k && (ltb c.from a || (eqb c.from a && ltb c.to b))))

-- The same of a table with two columns, by table, member, and the members of both columns, as they are written.
abbrev pub rising_pair : Context → (t a b d : ℕ) → Bool
rising_pair c t a b d =
    ltb c.phase 7
    || (ltb c.relation t || (eqb c.relation t && (ltb (pair_member c.from) a || (eqb (pair_member c.from) a
    && (ltb (pair_first c.from c.to) b || (eqb (pair_first c.from c.to) b && ltb (pair_last c.to) d))))))

-- Table t is there and has two columns, where m is the set of the free variables of its entry.
abbrev pub is_pair : Context → (m t : ℕ) → Bool
is_pair c m t = ltb t c.tables && not (eqb (rest_of m) 0)

-- The tests of Reading, against counters. m is the set of the free variables of an F line's entry, or of a P line's, or
-- of the entry of a T line's table; reaches says whether an F line's entry, if it is a reach, may be one.
unfoldable pub context_tests : Context → (m : ℕ) → (reaches : Bool) → Line → List Test
context_tests c m reaches (Members n) =
    test 1 (eqb c.phase 0)
    ∷ test 2 (ltb 0 n)
    ∷ test 2 (ltb n (1 + max_members))
    ∷ []
context_tests c m reaches (Labels r e) =
    test 1 (eqb c.phase 1)
    ∷ test 2 (ltb r (1 + max_relations))
    ∷ test 2 (ltb 0 e)
    ∷ test 2 (ltb e (1 + max_events))
    ∷ []
context_tests c m reaches (Entry n o a b d) =
    test 1 (eqb c.phase 2 || eqb c.phase 3)
    ∷ test 1 (eqb n c.entries)
    ∷ test 2 (ltb n max_entries)
    ∷ test 2 (in_range (first_operand o) (c.relations + 2 * c.events) a)
    ∷ test 2 (in_range (second_operand o) (c.relations + 2 * c.events) b)
    ∷ test 2 (in_range (third_operand o) (c.relations + 2 * c.events) d)
    ∷ test 2 (is_past o ⇒ ltb c.tables max_tables)
    ∷ test 3 (is_lower (first_operand o) n a)
    ∷ test 3 (is_lower (second_operand o) n b)
    ∷ test 3 (is_lower (third_operand o) n d)
    ∷ test 4 (is_past o ⇒ set_fits c.members m)
    ∷ test 10 reaches
    ∷ []
context_tests c m reaches (Policy j n) =
    test 1 (leb 2 c.phase && leb c.phase 4)
    ∷ test 1 (eqb j c.policies)
    ∷ test 1 (ltb j c.events)
    ∷ test 2 (ltb n c.entries)
    ∷ test 5 (ltb m 2)
    ∷ []
context_tests c m reaches (Effect j a k d) =
    test 1 (is_complete c)
    ∷ test 1 (leb c.phase 5)
    ∷ test 1 (leb c.event j)
    ∷ test 2 (ltb j c.events)
    ∷ test 2 (ltb (slot c j) max_effects)
    ∷ test 2 (ltb k c.relations)
    ∷ []
context_tests c m reaches (Edge k a b) =
    test 1 (is_complete c)
    ∷ test 1 (leb c.phase 6)
    ∷ test 1 (rising 6 c k a b)
    ∷ test 2 (ltb k c.relations)
    ∷ test 2 (ltb a c.members)
    ∷ test 2 (ltb b c.members)
    ∷ []
context_tests c m reaches (Form n) =
    test 1 (eqb c.phase 0)
    ∷ test 1 (not c.stored)
    ∷ test 2 (eqb n 2)
    ∷ []
context_tests c m reaches (TableBit t a b) =
    test 1 c.stored
    ∷ test 1 (is_complete c)
    ∷ test 1 (leb c.phase 7)
    ∷ test 1 (rising 7 c t a b)
    ∷ test 1 (not (is_pair c m t))
    ∷ test 2 (ltb t c.tables)
    ∷ test 2 (ltb a c.members)
    ∷ test 2 (ltb b c.members)
    ∷ []
context_tests c m reaches (PairBit t a b d) =
    test 1 c.stored
    ∷ test 1 (is_complete c)
    ∷ test 1 (leb c.phase 7)
    ∷ test 1 (rising_pair c t a b d)
    ∷ test 1 (is_pair c m t)
    ∷ test 2 (ltb a c.members)
    ∷ test 2 (ltb b c.members)
    ∷ test 2 (ltb d c.members)
    ∷ []
context_tests c m reaches (EventEdge j u v) =
    test 1 c.stored
    ∷ test 1 (is_complete c)
    ∷ test 1 (leb c.phase 7)
    ∷ test 2 (ltb (event_named j) c.events)
    ∷ test 2 (ltb u c.members)
    ∷ test 2 (ltb v c.members)
    ∷ []
context_tests c m reaches (Mark j) =
    test 1 (is_complete c)
    ∷ test 1 (leb c.phase 4)
    ∷ test 1 (leb c.marks j)
    ∷ test 2 (ltb j c.events)
    ∷ []
context_tests c m reaches Malformed = test 1 false ∷ []

-- The free variables of the entry of table t, where masks has the sets of the entries so far, which terms has.
abbrev pub table_set : (terms masks : List ℕ) → (t : ℕ) → ℕ
table_set terms masks t = get_or masks (past_entry (terms_of terms) t) 0

-- m is that set of the table of the last line, if it was a T line.
abbrev pub LastSet : (terms masks : List ℕ) → (phase table m : ℕ) → Type 0
LastSet terms masks phase table m = phase ≡ 7 → m ≡ table_set terms masks table

-- m is the set that a line is tested by.
abbrev pub FreeIn : (terms masks : List ℕ) → Line → (m : ℕ) → Type 0
FreeIn terms masks (Members n) m = Unit {0}
FreeIn terms masks (Labels r e) m = Unit {0}
FreeIn terms masks (Entry n o a b c) m =
    (t d e x : ℕ) (h : ℕ → Formula) → (first_operand o ≡ variable → a < 64)
    → (first_operand o ≡ entry → bit (get_or masks a 0) x ≡ free (h a) x)
    → (second_operand o ≡ entry → bit (get_or masks b 0) x ≡ free (h d) x)
    → (third_operand o ≡ entry → bit (get_or masks c 0) x ≡ free (h e) x)
    → bit m x ≡ free (node t h o a d e) x
FreeIn terms masks (Policy j n) m = m ≡ get_or masks n 0
FreeIn terms masks (Effect j a k d) m = Unit {0}
FreeIn terms masks (Edge k a b) m = Unit {0}
FreeIn terms masks (Form n) m = Unit {0}
FreeIn terms masks (TableBit t a b) m = m ≡ table_set terms masks t
FreeIn terms masks (PairBit t a b c) m = m ≡ table_set terms masks t
FreeIn terms masks (EventEdge j u v) m = Unit {0}
FreeIn terms masks (Mark j) m = Unit {0}
FreeIn terms masks Malformed m = Unit {0}

-- An F line's entry, if it is a reach, may be one by those sets.
abbrev pub reach_in : List ℕ → Line → Bool
reach_in masks (Members n) = true
reach_in masks (Labels r e) = true
reach_in masks (Entry n o a b c) = eqb o reach_operator ⇒ reach_sets a (get_or masks b 0) (get_or masks c 0)
reach_in masks (Policy j n) = true
reach_in masks (Effect j a k d) = true
reach_in masks (Edge k a b) = true
reach_in masks (Form n) = true
reach_in masks (TableBit t a b) = true
reach_in masks (PairBit t a b c) = true
reach_in masks (EventEdge j u v) = true
reach_in masks (Mark j) = true
reach_in masks Malformed = true
