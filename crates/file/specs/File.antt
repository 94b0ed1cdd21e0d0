-- What the lines of a file have said so far, and what a line more makes of it (docs/SCOPE.md, The
-- terms file and The stored form).
use Rattle.std.specs.Prelude.{ℕ, ◌+◌, ◌-◌, Bool, true, false, cond, ◌&&◌, List, [], ◌∷◌, ◌++◌, eqb, ltb}
use Rattle.theory.specs.Formula.{columns}
use Rattle.theory.specs.Columns.{pair_word, pair_bit}
use Rattle.theory.specs.Terms.{Terms, formula, tables, past_entry}
use Rattle.theory.specs.Moment.{Relations, Event}
use Rattle.theory.specs.Moment.Event.{none, happened, tried}
use Rattle.theory.specs.Tables.{Tables, State}
use Rattle.theory.specs.Limits.{max_events}
use Rattle.file.specs.declared.line.Line.{Line}
use Rattle.file.specs.declared.line.Line.TheVariants.{Members, Labels, Entry, Policy, Effect, Edge, Form, TableBit, PairBit, EventEdge, Mark, Malformed}

-- What the lines so far have said. It is the stored form if it began with an S line. The phase is the number of the
-- last kind: 0 none or S, 1 M, 2 L, 3 F, 4 P or K, 5 E, 6 G, 7 T, 8 V. Marks is one past the last event marked as kept.
-- The last edge or bit of a table is relation (or table), from (or word), to (or bit).
pub record File : Type 0 where
  pub stored : Bool
  pub phase : ℕ
  pub terms : Terms
  pub edges : Relations
  pub table : Tables
  pub last : Event
  pub policies : ℕ
  pub marks : ℕ
  pub event : ℕ
  pub relation : ℕ
  pub from : ℕ
  pub to : ℕ

-- The state that a stored file says.
abbrev pub state_said : File → State
state_said f = record { now = record { edge = f.edges; event = f.last }; table = f.table }

-- Nothing yet.
unfoldable pub nothing : File
nothing = record {
  stored = false;
  phase = 0;
  terms = record {
    members = 0;
    relations = 0;
    events = 0;
    entries = 0;
    entry = λ n. record { op = 0; a = 0; b = 0; c = 0 };
    policy = λ j. 0;
    effects = λ j. [];
    kept = λ j. false;
  };
  edges = λ k a b. false;
  table = λ t a b. false;
  last = none;
  policies = 0;
  marks = 0;
  event = 0;
  relation = 0;
  from = 0;
  to = 0;
}

-- g with v at n.
abbrev pub update : {A : Type 0} → (ℕ → A) → ℕ → A → ℕ → A
update g n v k = cond (eqb k n) v (g k)

-- The terms with one entry more; with the policy of event j; with one effect more of event j; with event j kept.
abbrev pub with_entry : Terms → (n o a b c : ℕ) → Terms
with_entry T n o a b c = record {
  members = T.members;
  relations = T.relations;
  events = T.events;
  entries = n + 1;
  entry = update T.entry n (record { op = o; a = a; b = b; c = c });
  policy = T.policy;
  effects = T.effects;
  kept = T.kept;
}

abbrev pub with_policy : Terms → (j n : ℕ) → Terms
with_policy T j n = record {
  members = T.members;
  relations = T.relations;
  events = T.events;
  entries = T.entries;
  entry = T.entry;
  policy = update T.policy j n;
  effects = T.effects;
  kept = T.kept;
}

abbrev pub with_effect : Terms → (j c k d : ℕ) → Terms
with_effect T j c k d = record {
  members = T.members;
  relations = T.relations;
  events = T.events;
  entries = T.entries;
  entry = T.entry;
  policy = T.policy;
  effects = update T.effects j (T.effects j ++ (record { adds = eqb c 1; relation = k; back = eqb d 1 } ∷ []));
  kept = T.kept;
}

abbrev pub with_mark : Terms → (j : ℕ) → Terms
with_mark T j = record {
  members = T.members;
  relations = T.relations;
  events = T.events;
  entries = T.entries;
  entry = T.entry;
  policy = T.policy;
  effects = T.effects;
  kept = update T.kept j true;
}

-- The bits with one more, of k, a and b.
abbrev pub with_bit : ((k a b : ℕ) → Bool) → (k a b : ℕ) → (l c d : ℕ) → Bool
with_bit R k a b l c d = cond (eqb l k && (eqb c a && eqb d b)) true (R l c d)

-- Table t is there and has two columns: its T lines have a field more.
abbrev pub has_two : List ℕ → Bool
has_two [] = false
has_two (x ∷ []) = false
has_two (x ∷ y ∷ zs) = true

abbrev pub pair_table : Terms → (t : ℕ) → Bool
pair_table T t = ltb t (tables T) && has_two (columns (formula T (past_entry T t)))

-- A V line names a granted event by its number, a denied one by its number plus 16 (docs/SCOPE.md, The stored form):
-- which event it is, and the event edge.
abbrev pub event_named : ℕ → ℕ
event_named j = cond (ltb j max_events) j (j - max_events)

abbrev pub event_said : (j u v : ℕ) → Event
event_said j u v = cond (ltb j max_events) (happened j u v) (tried (j - max_events) u v)

-- With bit k of word i of table t, after a T line.
abbrev pub with_table_bit : File → (t i k : ℕ) → File
with_table_bit f t i k = record {
  stored = f.stored;
  phase = 7;
  terms = f.terms;
  edges = f.edges;
  table = with_bit f.table t i k;
  last = f.last;
  policies = f.policies;
  marks = f.marks;
  event = f.event;
  relation = t;
  from = i;
  to = k;
}

-- What has been said once a line is taken in.
unfoldable pub after_line : File → Line → File
after_line f (Members n) = record {
  stored = f.stored;
  phase = 1;
  terms = record {
    members = n;
    relations = f.terms.relations;
    events = f.terms.events;
    entries = f.terms.entries;
    entry = f.terms.entry;
    policy = f.terms.policy;
    effects = f.terms.effects;
    kept = f.terms.kept;
  };
  edges = f.edges;
  table = f.table;
  last = f.last;
  policies = f.policies;
  marks = f.marks;
  event = f.event;
  relation = f.relation;
  from = f.from;
  to = f.to;
}
after_line f (Labels r e) = record {
  stored = f.stored;
  phase = 2;
  terms = record {
    members = f.terms.members;
    relations = r;
    events = e;
    entries = f.terms.entries;
    entry = f.terms.entry;
    policy = f.terms.policy;
    effects = f.terms.effects;
    kept = f.terms.kept;
  };
  edges = f.edges;
  table = f.table;
  last = f.last;
  policies = f.policies;
  marks = f.marks;
  event = f.event;
  relation = f.relation;
  from = f.from;
  to = f.to;
}
after_line f (Entry n o a b c) = record {
  stored = f.stored;
  phase = 3;
  terms = with_entry f.terms n o a b c;
  edges = f.edges;
  table = f.table;
  last = f.last;
  policies = f.policies;
  marks = f.marks;
  event = f.event;
  relation = f.relation;
  from = f.from;
  to = f.to;
}
after_line f (Policy j n) = record {
  stored = f.stored;
  phase = 4;
  terms = with_policy f.terms j n;
  edges = f.edges;
  table = f.table;
  last = f.last;
  policies = j + 1;
  marks = f.marks;
  event = f.event;
  relation = f.relation;
  from = f.from;
  to = f.to;
}
after_line f (Effect j c k d) = record {
  stored = f.stored;
  phase = 5;
  terms = with_effect f.terms j c k d;
  edges = f.edges;
  table = f.table;
  last = f.last;
  policies = f.policies;
  marks = f.marks;
  event = j;
  relation = f.relation;
  from = f.from;
  to = f.to;
}
after_line f (Edge k a b) = record {
  stored = f.stored;
  phase = 6;
  terms = f.terms;
  edges = with_bit f.edges k a b;
  table = f.table;
  last = f.last;
  policies = f.policies;
  marks = f.marks;
  event = f.event;
  relation = k;
  from = a;
  to = b;
}
after_line f (Form n) = record {
  stored = true;
  phase = f.phase;
  terms = f.terms;
  edges = f.edges;
  table = f.table;
  last = f.last;
  policies = f.policies;
  marks = f.marks;
  event = f.event;
  relation = f.relation;
  from = f.from;
  to = f.to;
}
after_line f (TableBit t a b) = with_table_bit f t a b
after_line f (PairBit t a b c) = with_table_bit f t (pair_word a b) (pair_bit b c)
after_line f (EventEdge j u v) = record {
  stored = f.stored;
  phase = 8;
  terms = f.terms;
  edges = f.edges;
  table = f.table;
  last = event_said j u v;
  policies = f.policies;
  marks = f.marks;
  event = f.event;
  relation = f.relation;
  from = f.from;
  to = f.to;
}
after_line f (Mark j) = record {
  stored = f.stored;
  phase = 4;
  terms = with_mark f.terms j;
  edges = f.edges;
  table = f.table;
  last = f.last;
  policies = f.policies;
  marks = j + 1;
  event = f.event;
  relation = f.relation;
  from = f.from;
  to = f.to;
}
after_line f Malformed = f
