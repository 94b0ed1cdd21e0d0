-- What the private functions that remember rows ask of, and leave in, the lent memo: a slot for each entry.
use Rattle.std.specs.Prelude.{ℕ, ◌+◌, ◌*◌, ◌/◌, ◌%◌, ◌^◌, ◌<◌, ◌≤◌, ◌≡◌, Bool, true, false, cond, not, ◌&&◌, ◌||◌, List, [], ◌∷◌, eqb, ltb, length, get_or, take, drop}
use Rattle.std.specs.Int.Bits.{bit_or, bit_and}
use Rattle.sets.specs.Sets.{bit}
use Rattle.theory.specs.Formula.{Formula, columns}
use Rattle.theory.specs.Formula.Formula.{top, var, neg, or, out, into, prev, since, bind, at, reach, many}
use Rattle.theory.specs.Meaning.{Assignment}
use Rattle.theory.specs.Terms.{Terms, formula}
use Rattle.theory.specs.Limits.{max_members, variables}
use Rattle.memory.specs.Layout.{relation_words, block_words}
use Rattle.deciding.specs.private.Rows.{past_words, cell, Vars, Has}

-- x is one of a list.
unfoldable pub is_one : List ℕ → ℕ → Bool
is_one [] x = false
is_one (y ∷ ys) x = eqb x y || is_one ys x

-- The variables that the present meaning of a formula looks at: the free ones, but of a past-time formula its columns.
unfoldable pub reads : Formula → ℕ → Bool
reads top x = false
reads (var y) x = eqb x y
reads (neg f) x = reads f x
reads (or f h) x = reads f x || reads h x
reads (out l f) x = reads f x
reads (into l f) x = reads f x
reads (prev t f) x = is_one (columns (prev t f)) x
reads (since t f h) x = is_one (columns (since t f h)) x
reads (bind y f) x = not (eqb x y) && reads f x
reads (at y f) x = eqb x y || reads f x
reads (reach y f h) x = reads h x
reads (many l f k) x = reads f x

-- The slot of entry k: 64 rows, two words whose bytes tell what 16 variables stood for, the set of members
-- that have a row, a set of variables, one of them as the column, and for each member the set of those
-- whose bits in its row are known.
abbrev pub slot_words : ℕ
slot_words = 133

abbrev pub slot_of : ℕ → List ℕ → List ℕ
slot_of k m = take slot_words (drop (slot_words * k) m)

-- Byte i of a word.
abbrev pub byte_of : (w i : ℕ) → ℕ
byte_of w i = w / 2 ^ (8 * i) % 256

-- What variable y stood for.
abbrev pub value_of : List ℕ → (y : ℕ) → ℕ
value_of s y = byte_of (get_or s (block_words + y / 8) 0) (y % 8)

abbrev pub have_of : List ℕ → ℕ
have_of s = get_or s 66 0

abbrev pub reads_of : List ℕ → ℕ
reads_of s = get_or s 67 0

abbrev pub column_of : List ℕ → ℕ
column_of s = get_or s 68 0

-- Bit b of the row of a is known.
abbrev pub knows : List ℕ → (a b : ℕ) → Bool
knows s a b = bit (have_of s) a && bit (get_or s (69 + a) 0) b

-- The rows of slot s are those under g, whatever the column stands for.
abbrev pub Under : List ℕ → Assignment → Type 0
Under s g = (y : ℕ) → y < variables → bit (reads_of s) y ≡ true → eqb y (column_of s) ≡ false → value_of s y ≡ g y

-- The slot's set has every variable that entry k reads, and the known bits are those of entry k with the column open.
pub record Slot (T : Terms) (rel past : List ℕ) (k : ℕ) (s : List ℕ) : Type 0 where
  pub covers : (y : ℕ) → reads (formula T k) y ≡ true → bit (reads_of s) y ≡ true
  pub members : (a : ℕ) → bit (have_of s) a ≡ true → a < T.members
  pub right : (g : Assignment) → Vars T.members g → Under s g → (a b : ℕ) → knows s a b ≡ true →
      bit (get_or s a 0) b ≡ cell T rel past g (column_of s) k a b

-- Bit b of a row is asked for, under g with x open: every bit where x is read, and else that
-- of what the column stands for.
abbrev pub asks : List ℕ → Assignment → (x b : ℕ) → Bool
asks s g x b = cond (bit (reads_of s) x) (ltb b max_members) (ltb b max_members && eqb b (g (column_of s)))

-- What is asked for of the row w: its own bits, of those in all, or all or nothing, as it
-- has what the column stands for.
abbrev pub shows : List ℕ → Assignment → (x all w : ℕ) → ℕ
shows s g x all w = cond (bit (reads_of s) x) (bit_and all w) (cond (bit w (g (column_of s))) all 0)

-- The slots of the entries below n, as far as there are any, are right.
pub record Memo (T : Terms) (rel past : List ℕ) (n : ℕ) (m : List ℕ) : Type 0 where
  pub slot : (k : ℕ) → k < n → slot_words * k + slot_words ≤ length m → Slot T rel past k (slot_of k m)

-- The slots of entries from n on are as they were.
pub record Above (n : ℕ) (m m' : List ℕ) : Type 0 where
  pub long : length m' ≡ length m
  pub same : (k : ℕ) → n ≤ k → slot_of k m' ≡ slot_of k m

-- What deciding entries below n leaves of a memo.
pub record Grown (T : Terms) (rel past : List ℕ) (n : ℕ) (m m' : List ℕ) : Type 0 where
  pub memo : Memo T rel past n m'
  pub above : Above n m m'

-- Only the slot of entry k is changed.
pub record Apart (k : ℕ) (m m' : List ℕ) : Type 0 where
  pub long : length m' ≡ length m
  pub same : (j : ℕ) → (j ≡ k → ⊥) → slot_of j m' ≡ slot_of j m

-- The slots from entry n on have no rows.
pub record Fresh (N n : ℕ) (m : List ℕ) : Type 0 where
  pub none : (k : ℕ) → n ≤ k → k < N → slot_words * k + slot_words ≤ length m → have_of (slot_of k m) ≡ 0

-- A slot that is made one for g with x open: need has those of want of whose rows something
-- that is asked for is not known.
pub record Missing (g : Assignment) (x want need : ℕ) (s s' : List ℕ) : Type 0 where
  pub variables : reads_of s' ≡ reads_of s
  pub column : bit (reads_of s') x ≡ true → column_of s' ≡ x
  pub under : Under s' g
  pub same : (a : ℕ) → bit (have_of s') a ≡ true → s' ≡ s
  pub within : (a : ℕ) → bit need a ≡ true → bit want a ≡ true
  pub known : (a : ℕ) → bit want a ≡ true → bit need a ≡ false → (b : ℕ) → asks s' g x b ≡ true → knows s' a b ≡ true

-- A slot that got the bits of ask in the rows of need from r.
pub record Put (ask need : ℕ) (r s s' : List ℕ) : Type 0 where
  pub long : length s' ≡ length s
  pub rows : (a b : ℕ) → a < block_words → bit (get_or s' a 0) b ≡ cond (bit need a && bit ask b) (bit (get_or r a 0) b) (bit (get_or s a 0) b)
  pub values : (y : ℕ) → y < variables → value_of s' y ≡ value_of s y
  pub have : have_of s' ≡ bit_or (have_of s) need
  pub variables : reads_of s' ≡ reads_of s
  pub column : column_of s' ≡ column_of s
  pub known : (a b : ℕ) → a < block_words → knows s' a b ≡ (knows s a b || (bit need a && bit ask b))

-- r' has the words of r, but at the members of set those of f.
abbrev pub Shown : (set : ℕ) → (f : ℕ → ℕ) → (r r' : List ℕ) → Type 0
Shown set f r r' = (i : ℕ) → get_or r' i 0 ≡ cond (bit set i) (f i) (get_or r i 0)

-- A slot that got the rows of need from r, and rows that got those of want that are not in need from the slot.
pub record Stored (g : Assignment) (x all need want : ℕ) (s r s' r' : List ℕ) : Type 0 where
  pub ask : ℕ
  pub asked : Has ask (asks s g x)
  pub put : Put ask need r s s'
  pub long : length r' ≡ block_words
  pub out : (a : ℕ) → a < block_words → get_or r' a 0 ≡ cond (bit want a && not (bit need a)) (shows s g x all (get_or s' a 0)) (get_or r a 0)

-- The same, over the words of a state: relations, and tables with the event word.
abbrev pub MemoOf : Terms → (state : List ℕ) → (n : ℕ) → (m : List ℕ) → Type 0
MemoOf T state n m = Memo T (take relation_words state) (take past_words (drop relation_words state)) n m
