-- How many rows a request may work out, by terms: a row is one entry, worked out at one member. It is counted from the
-- highest entry down how often each entry is asked for, and for how many rows. Every number is cut at the most that is
-- counted.
use Rattle.std.specs.Prelude.{ℕ, zero, suc, ◌+◌, ◌-◌, ◌*◌, Bool, true, false, cond, ◌&&◌, ◌||◌, List, eqb, ltb, get_or, set, replicate}
use Rattle.sets.specs.Sets.{pack}
use Rattle.theory.specs.Formula.{Entry, Operand, first_operand, second_operand, third_operand, is_past, out_operator, bind_operator}
use Rattle.theory.specs.Formula.Operand.{unused, variable, binder, label, entry, count}
use Rattle.theory.specs.Limits.{max_entries, pair_members}
use Rattle.theory.specs.Terms.{Terms}
use Rattle.memory.specs.Layout.{terms_of}
use Rattle.memory.specs.TableIndex.{in_free, rest_of}

unfoldable pub smaller : ℕ → ℕ → ℕ
smaller x y = cond (ltb y x) y x

-- 2 ^ 31.
abbrev pub most : ℕ
most = 2147483648

abbrev pub cut : ℕ → ℕ
cut x = smaller x most

abbrev pub times : (n x : ℕ) → ℕ
times n x = cut (n * cut x)

-- ---- the variables that entries read

-- The set of variables that an entry reads, from the sets f, g and h of its operands. A past-time one that reads none
-- has the column of variable 0.
unfoldable pub set_of : (op a f g h : ℕ) → ℕ
set_of op a f g h = let s = pack 64 (in_free op a f g h) in cond (is_past op && eqb s 0) 1 s

-- A list with the sets of the first n entries.
unfoldable pub sets_of : Terms → ℕ → List ℕ
sets_of T zero = replicate max_entries 0
sets_of T (suc n) =
    let w = sets_of T n in
    let e = T.entry n in
    set w n (set_of e.op e.a (get_or w e.a 0) (get_or w e.b 0) (get_or w e.c 0))

-- Entry p reads at most one variable.
unfoldable pub is_one : (sets : List ℕ) → (p : ℕ) → Bool
is_one sets p = eqb (rest_of (get_or sets p 0)) 0

-- ---- what an entry costs

-- Leaves and past-time entries are read, not worked out. What is asked for is worked out; of an entry that reads at
-- most one variable no more than a limit, since its rows are kept.
unfoldable pub rows_of : (op : ℕ) → (one : Bool) → (asked limit : ℕ) → ℕ
rows_of op one asked limit = cond (ltb op 2 || is_past op) 0 (cond one (smaller asked limit) asked)

-- How often an entry that is worked out so often, for so many rows, asks for each of its operands. A bind asks for each
-- row apart. A past-time entry's table asks once, or, with two columns, once for each member.
unfoldable pub calls_of : (members op : ℕ) → (one : Bool) → (works rows : ℕ) → ℕ
calls_of N op one works rows = cond (is_past op) (cond one 1 N) (cond (eqb op bind_operator) rows works)

-- For how many rows: not, or and bind for as many as their own, any other for those of all members each time.
unfoldable pub asked_of : (members op : ℕ) → (one : Bool) → (works rows : ℕ) → ℕ
asked_of N op one works rows = cond (is_past op) (cond one N (N * N)) (cond (ltb op out_operator || eqb op bind_operator) rows (times N works))

-- ---- counting

-- Word k of a list with x more, if there is such a word.
unfoldable pub more : (k x : ℕ) → List ℕ → List ℕ
more k x w = cond (ltb k max_entries) (set w k (cut (get_or w k 0 + x))) w

-- The same if it is to be so.
unfoldable pub more_if : Bool → (k x : ℕ) → List ℕ → List ℕ
more_if b k x w = cond b (more k x w) w

unfoldable pub is_entry : Operand → Bool
is_entry unused = false
is_entry variable = false
is_entry binder = false
is_entry label = false
is_entry entry = true
is_entry count = false

-- The words of the operands that are entries with x more.
unfoldable pub more_of : Entry → ℕ → List ℕ → List ℕ
more_of e x w =
    more_if (is_entry (third_operand e.op)) e.c x
    (more_if (is_entry (second_operand e.op)) e.b x (more_if (is_entry (first_operand e.op)) e.a x w))

-- The policies of the first n events are asked for once each.
unfoldable pub policies : Terms → ℕ → List ℕ
policies T zero = replicate max_entries 0
policies T (suc n) = more (T.policy n) 1 (policies T n)

-- For each entry how often it is asked for, and for how many rows; and the rows of the entries that are done.
pub record Count : Type 0 where
  pub calls : List ℕ
  pub asked : List ℕ
  pub rows : ℕ

module _ (T : Terms) (sets : List ℕ) (limit : ℕ) where
  abbrev pub rows_at : (asked : List ℕ) → (p : ℕ) → ℕ
  rows_at asked p = rows_of (T.entry p).op (is_one sets p) (get_or asked p 0) limit

  abbrev pub works_at : (calls asked : List ℕ) → (p : ℕ) → ℕ
  works_at calls asked p = smaller (get_or calls p 0) (rows_at asked p)

  abbrev pub calls_after : (calls asked : List ℕ) → (p : ℕ) → List ℕ
  calls_after calls asked p =
      more_of (T.entry p) (calls_of T.members (T.entry p).op (is_one sets p) (works_at calls asked p) (rows_at asked p)) calls

  abbrev pub asked_after : (calls asked : List ℕ) → (p : ℕ) → List ℕ
  asked_after calls asked p =
      more_of (T.entry p) (asked_of T.members (T.entry p).op (is_one sets p) (works_at calls asked p) (rows_at asked p)) asked

  -- Entry p is done.
  abbrev pub turn : Count → (p : ℕ) → Count
  turn k p = record {
    calls = calls_after k.calls k.asked p;
    asked = asked_after k.calls k.asked p;
    rows = cut (k.rows + rows_at k.asked p);
  }

  -- The last i entries are done.
  unfoldable pub count_after : ℕ → Count
  count_after zero = record { calls = policies T T.events; asked = policies T T.events; rows = 0 }
  count_after (suc i) = turn (count_after i) (T.entries - suc i)

  unfoldable pub total : ℕ
  total = (count_after T.entries).rows

-- ---- the bound

-- A memo works out each member and value of the one variable once, and each whole row once: for the decision, for the
-- prev tables and for the since tables.
abbrev pub memo_rows : (members : ℕ) → ℕ
memo_rows N = 3 * (N * N + N)

-- What is decided without a memo: 1,024 entries for the decision and 1,024 for the tables, at each member, and for each
-- member once more where tables may have two columns.
unfoldable pub brief : (members : ℕ) → ℕ
brief N = 2048 * N * cond (ltb pair_members N) 1 N

-- Fewer entries than ten may be decided without a memo whatever they cost.
abbrev pub effort_of : Terms → ℕ
effort_of T =
    let sets = sets_of T T.entries in
    let plain = total T sets most in
    cond (ltb T.entries 10) plain (smaller plain (cut (total T sets (memo_rows T.members) + brief T.members)))

-- How many rows a request may work out by accepted terms; of other words it says nothing.
unfoldable pub effort : List ℕ → ℕ
effort w = cond (ltb max_entries (terms_of w).entries) most (effort_of (terms_of w))
