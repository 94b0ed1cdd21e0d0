-- The counters of the reader, in place of what the lines have said: before the first line,
-- and after each that has passed.
use Rattle.std.specs.Prelude.{ℕ, suc, ◌+◌, ◌<◌, ◌*◌, ◌≡◌, Bool, true, false, cond, ◌&&◌, eqb, leb}
use Rattle.theory.specs.Formula.{is_past, operators}
use Rattle.theory.specs.Columns.{pair_word, pair_bit}
use Rattle.file.specs.declared.line.Line.{Line}
use Rattle.file.specs.declared.line.Line.TheVariants.{Members, Labels, Entry, Policy, Effect, Edge, Form, TableBit, PairBit, EventEdge, Mark, Malformed}
use Rattle.reader.specs.declared.step.Context.{Context}
use Rattle.theory.specs.Limits.{max_members, max_relations, max_events, max_entries, max_effects, max_tables, pair_members}

-- No line yet.
abbrev pub begun : Context
begun = record {
  stored = false;
  phase = 0;
  members = 0;
  relations = 0;
  events = 0;
  entries = 0;
  tables = 0;
  policies = 0;
  marks = 0;
  event = 0;
  effects = 0;
  relation = 0;
  from = 0;
  to = 0;
}

-- All policies have been given.
abbrev pub is_complete : Context → Bool
is_complete c = leb 2 c.phase && eqb c.policies c.events

-- How many effects of event j there are. (Events never fall, so a later one has none.)
abbrev pub slot : Context → ℕ → ℕ
slot c j = cond (eqb j c.event) c.effects 0

-- ---- a line that has passed

-- The ranges of what it says.
abbrev pub Ranges : Context → Line → Type 0
Ranges c (Members n) = n < 1 + max_members
Ranges c (Labels r e) = (r < 1 + max_relations) × (e < 1 + max_events)
Ranges c (Entry n o a b d) = (n < max_entries) × (o < operators) × (a < max_entries) × (b < max_entries) × (d < max_entries)
Ranges c (Policy j n) = (j < max_events) × (n < max_entries)
Ranges c (Effect j a k d) = (j < max_events) × (slot c j < max_effects) × (a < 3) × (k < max_relations) × (d < 2)
Ranges c (Edge k a b) = (k < max_relations) × (a < max_members) × (b < max_members)
Ranges c (Form n) = n ≡ 2
Ranges c (TableBit t a b) = (t < max_tables) × (a < max_members) × (b < max_members)
Ranges c (PairBit t a b d) = (t < max_tables) × (a < pair_members) × (b < pair_members) × (d < pair_members)
Ranges c (EventEdge j u v) = (j < 2 * max_events) × (u < max_members) × (v < max_members)
Ranges c (Mark j) = j < max_events
Ranges c Malformed = ⊥

-- The counters after it.
unfoldable pub stepped : Context → Line → Context
stepped c (Members n) = record {
  stored = c.stored;
  phase = 1;
  members = n;
  relations = c.relations;
  events = c.events;
  entries = c.entries;
  tables = c.tables;
  policies = c.policies;
  marks = c.marks;
  event = c.event;
  effects = c.effects;
  relation = c.relation;
  from = c.from;
  to = c.to;
}
stepped c (Labels r e) = record {
  stored = c.stored;
  phase = 2;
  members = c.members;
  relations = r;
  events = e;
  entries = c.entries;
  tables = c.tables;
  policies = c.policies;
  marks = c.marks;
  event = c.event;
  effects = c.effects;
  relation = c.relation;
  from = c.from;
  to = c.to;
}
stepped c (Entry n o a b d) = record {
  stored = c.stored;
  phase = 3;
  members = c.members;
  relations = c.relations;
  events = c.events;
  entries = n + 1;
  tables = cond (is_past o) (suc c.tables) c.tables;
  policies = c.policies;
  marks = c.marks;
  event = c.event;
  effects = c.effects;
  relation = c.relation;
  from = c.from;
  to = c.to;
}
stepped c (Policy j n) = record {
  stored = c.stored;
  phase = 4;
  members = c.members;
  relations = c.relations;
  events = c.events;
  entries = c.entries;
  tables = c.tables;
  policies = j + 1;
  marks = c.marks;
  event = c.event;
  effects = c.effects;
  relation = c.relation;
  from = c.from;
  to = c.to;
}
stepped c (Effect j a k d) = record {
  stored = c.stored;
  phase = 5;
  members = c.members;
  relations = c.relations;
  events = c.events;
  entries = c.entries;
  tables = c.tables;
  policies = c.policies;
  marks = c.marks;
  event = j;
  effects = slot c j + 1;
  relation = c.relation;
  from = c.from;
  to = c.to;
}
stepped c (Edge k a b) = record {
  stored = c.stored;
  phase = 6;
  members = c.members;
  relations = c.relations;
  events = c.events;
  entries = c.entries;
  tables = c.tables;
  policies = c.policies;
  marks = c.marks;
  event = c.event;
  effects = c.effects;
  relation = k;
  from = a;
  to = b;
}
stepped c (Form n) = record {
  stored = true;
  phase = c.phase;
  members = c.members;
  relations = c.relations;
  events = c.events;
  entries = c.entries;
  tables = c.tables;
  policies = c.policies;
  marks = c.marks;
  event = c.event;
  effects = c.effects;
  relation = c.relation;
  from = c.from;
  to = c.to;
}
stepped c (TableBit t a b) = record {
  stored = c.stored;
  phase = 7;
  members = c.members;
  relations = c.relations;
  events = c.events;
  entries = c.entries;
  tables = c.tables;
  policies = c.policies;
  marks = c.marks;
  event = c.event;
  effects = c.effects;
  relation = t;
  from = a;
  to = b;
}
stepped c (PairBit t a b d) = record {
  stored = c.stored;
  phase = 7;
  members = c.members;
  relations = c.relations;
  events = c.events;
  entries = c.entries;
  tables = c.tables;
  policies = c.policies;
  marks = c.marks;
  event = c.event;
  effects = c.effects;
  relation = t;
  from = pair_word a b;
  to = pair_bit b d;
}
stepped c (EventEdge j u v) = record {
  stored = c.stored;
  phase = 8;
  members = c.members;
  relations = c.relations;
  events = c.events;
  entries = c.entries;
  tables = c.tables;
  policies = c.policies;
  marks = c.marks;
  event = c.event;
  effects = c.effects;
  relation = c.relation;
  from = c.from;
  to = c.to;
}
stepped c (Mark j) = record {
  stored = c.stored;
  phase = 4;
  members = c.members;
  relations = c.relations;
  events = c.events;
  entries = c.entries;
  tables = c.tables;
  policies = c.policies;
  marks = j + 1;
  event = c.event;
  effects = c.effects;
  relation = c.relation;
  from = c.from;
  to = c.to;
}
stepped c Malformed = c
