-- What the private functions that move the state on ask of, and leave in, the lent memory.
use Rattle.std.specs.Prelude.{ℕ, ◌+◌, ◌≤◌, ◌≡◌, Bool, true, cond, List, ◌++◌, eqb, length, get_or, take, drop}
use Rattle.theory.specs.Terms.{Effect, Terms}
use Rattle.theory.specs.Moment.{Relations, Event, graph, affect, affect_all}
use Rattle.theory.specs.Moment.Event.{none, happened, tried}
use Rattle.memory.specs.Layout.{terms_words, terms_of, words_of}
use Rattle.memory.specs.Checks.{good_memory}
use Rattle.theory.specs.Tables.{named, Tables, State, prev_step, since_step, prev_tables, since_tables, made}
use Rattle.memory.specs.TableIndex.{Indexed}

-- The event edge, if any, is of an event and members that there are.
abbrev pub known : Terms → Event → Bool
known T none = true
known T (happened j u v) = named T j u v
known T (tried j u v) = named T j u v

-- The memory m has the words of S, and then the words rest.
pub record HasState (T : Terms) (S : State) (rest m : List ℕ) : Type 0 where
  pub words : m ≡ words_of T S ++ rest
  pub event : known T S.now.event ≡ true

-- What the memory must be for the tables to be moved: it has the words of some state.
pub record Movable (terms index m : List ℕ) : Type 0 where
  pub long_terms : terms_words ≤ length terms
  pub good : good_memory terms ≡ true
  pub indexed : Indexed (terms_of terms) index
  pub state : State
  pub rest : List ℕ
  pub has : HasState (terms_of terms) state rest m

-- Whatever state the memory m has, m' has the state that f makes of it, and the same further words.
pub record Becomes (terms : List ℕ) (f : Terms → State → State) (m m' : List ℕ) : Type 0 where
  pub each : (S : State) (rest : List ℕ) → HasState (terms_of terms) S rest m → HasState (terms_of terms) (f (terms_of terms) S) rest m'

-- A list with the words vs put in from a place on.
abbrev pub put : ℕ → (vs l : List ℕ) → List ℕ
put s vs l = take s l ++ (vs ++ drop (s + length vs) l)

-- A state with other tables, other edges.
abbrev pub tabled : State → Tables → State
tabled S X = record { now = S.now; table = X }

abbrev pub edged : State → Relations → State
edged S R = record { now = record { edge = R; event = S.now.event }; table = S.table }

-- The steps to the next moment, and the turns that they are made of.
abbrev pub prev_at : ℕ → Terms → State → State
prev_at n T S = tabled S (prev_step T (graph T S.now) n S.table)

abbrev pub prev_moved : Terms → State → State
prev_moved T S = tabled S (prev_tables T (graph T S.now) T.entries S.table)

-- The effect in three words of terms from a word on.
abbrev pub effect_of : List ℕ → ℕ → Effect
effect_of w at = record { adds = eqb (get_or w at 0) 1; relation = get_or w (at + 1) 0; back = eqb (get_or w (at + 2) 0) 1 }

abbrev pub affected : (u v : ℕ) → Effect → Terms → State → State
affected u v e T S = edged S (affect u v e S.now.edge)

abbrev pub all_affected : (j u v : ℕ) → Terms → State → State
all_affected j u v T S = edged S (affect_all u v (T.effects j) S.now.edge)

-- The event edge of a request, granted or denied.
abbrev pub occurring : (granted : Bool) → (j u v : ℕ) → Event
occurring granted j u v = cond granted (happened j u v) (tried j u v)

abbrev pub evented : Event → Terms → State → State
evented e T S = record { now = record { edge = S.now.edge; event = e }; table = S.table }

abbrev pub entered : (granted : Bool) → (j u v : ℕ) → Terms → State → State
entered granted j u v T S = record { now = made T S.now granted j u v; table = S.table }

abbrev pub since_at : ℕ → Terms → State → State
since_at n T S = tabled S (since_step T (graph T S.now) n S.table)

abbrev pub since_below : ℕ → Terms → State → State
since_below n T S = tabled S (since_tables T (graph T S.now) n S.table)

abbrev pub since_moved : Terms → State → State
since_moved T S = since_below T.entries T S
