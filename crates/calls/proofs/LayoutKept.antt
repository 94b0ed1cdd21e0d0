-- A moment keeps the layout, and so do new terms, of any state that keeps it and not of those of a record only: a table
-- without a free variable keeps equal bits in a word.
use Prim.Native.Nat.{ℕ, zero, suc, ◌-◌, ◌^◌, ◌≤◌, ◌<◌}
use native.Mathlib.Omega.{arith}
use mathlib.Core.Path.{◌≡◌, refl, sym, ap, ap₂, ◌∙◌}
use mathlib.Core.Bool.{Bool, true, false, cond, not, ◌&&◌, ◌||◌}
use mathlib.Core.List.{List, [], ◌∷◌, ◌++◌}
use mathlib.Core.Logic.{⊎_elim}
use lib.Dec.{eqb, ltb, leb}
use lib.ListN.{get_or}
use borrow.Author.Tests.{eq-eqb, eqb-true, lt-ltb, ltb-true, not-true}
use Rattle.sets.specs.Sets.{all_below, bit}
use Rattle.sets.proofs.Finite.{and_both, any_cong, all_true, all_out, not_both, is_false, or_left, or_right, count_cong}
use Rattle.sets.proofs.Bits.{bit_zero, bit_mask}
use Rattle.theory.specs.Formula.{Formula, number, below, is_past, free, columns, bare}
use Rattle.theory.specs.Formula.Formula.{top, var, neg, or, out, into, prev, since, bind, at, reach, many}
use Rattle.theory.specs.Meaning.{Graph, Assignment, assign, alone}
use Rattle.theory.specs.Columns.{inside}
use Rattle.theory.specs.Terms.{Terms, formula, tables}
use Rattle.theory.specs.Fit.{◌⇒◌, closed, Good}
use Rattle.theory.specs.Moment.{Event, Moment, graph}
use Rattle.theory.specs.Moment.Event.{none as eventless, happened, tried}
use Rattle.theory.specs.Tables.{Tables, recalled, holds_now, store, operand_now, since_bits, since_step, prev_tables, since_tables, State, advance, taken, start_bits, start_tables, revised}
use Rattle.memory.specs.Layout.{table_at, table_columns, state_of, words_of}
use Rattle.memory.specs.Checks.{level, good_relations, state_tests, good_state, Inside, EventInside}
use Rattle.theory.proofs.Unfolding.{Visible, table_of, or_cases, number_lt, number_apart, spelled_prev, spelled_since, table_spelled, visible_below}
use Rattle.theory.proofs.Good.{small, implied, implies, every_at, every_in}
use Rattle.theory.proofs.Places.{Among, among_assign, among_alone, closed_columns, columns_free, place_cong}
use Rattle.theory.proofs.Past.{past_is}
use Rattle.theory.proofs.Sweeps.{prev_keeps, prev_worked}
use Rattle.theory.proofs.Renumbered.{free_renumbered, past_same}
use Rattle.theory.proofs.CarriedOver.{first_has}
use Rattle.memory.proofs.Row.{fits_row, table_fits_row, level_row}
use Rattle.memory.proofs.Inside.{state_inside, good-event}
use Rattle.memory.proofs.Words.{length_words, word_relation, word_of_table, word_event}
use Rattle.memory.proofs.Front.{good_front}

-- ---- the meaning at the present moment: only the free variables count

module _ (N : ℕ) (G : Graph) (X : Tables) where
  -- Where φ has no free variable, the bits of its table's words are equal.
  record Even (φ : Formula) : Type 0 where
    pub below_16 : (x : ℕ) → free φ x ≡ true → x < 16
    pub level : ((x : ℕ) → free φ x ≡ true → ⊥) → (a b c : ℕ) → a < N → b < N → c < N → X (table_of φ) a b ≡ X (table_of φ) a c

  even_recalled : (φ : Formula) → Even φ → (g h : Assignment) (m : ℕ) → Among N g → Among N h → m < N →
      ((x : ℕ) → free φ x ≡ true → h x ≡ g x) → recalled X (table_of φ) (columns φ) h m ≡ recalled X (table_of φ) (columns φ) g m
  even_recalled φ c g h m wg wh ml v =
      ⊎_elim
      (λ f. let p = place_cong (columns φ) g h m (λ x i. v x (f x i)) in ap₂ (X (table_of φ)) p.0 p.1)
      (λ n. rw n.1 (c.level (λ x f. not_both (free φ x) f (n.0 x (c.below_16 x f))) m (h 0) (g 0) ml (wh 0) (wg 0)))
      (columns_free φ)

  bound : (x m y : ℕ) (g h : Assignment) (F : Bool) → F ≡ true → (not (eqb y x) && F ≡ true → h y ≡ g y) → assign h x m y ≡ assign g x m y
  bound x m y g h F f e = go (eqb y x) refl
    where
      go : (c : Bool) → eqb y x ≡ c → cond c m (h y) ≡ cond c m (g y)
      go true z = refl
      go false z = e (rw (z, f))

  now_free : (f : Formula) → Visible Even f → (g h : Assignment) (m : ℕ) → Among N g → Among N h → m < N →
      ((x : ℕ) → free f x ≡ true → h x ≡ g x) → holds_now N G X f h m ≡ holds_now N G X f g m
  unfolding holds_now free
  now_free top s g h m wg wh ml v = refl
  now_free (var x) s g h m wg wh ml v = ap (eqb m) (v x (eq-eqb x x refl))
  now_free (neg f) s g h m wg wh ml v = ap not (now_free f s g h m wg wh ml v)
  now_free (or f k) s g h m wg wh ml v =
      ap₂ ◌||◌ (now_free f s.0 g h m wg wh ml (λ x e. v x (or_left (free f x) (free k x) e)))
      (now_free k s.1 g h m wg wh ml (λ x e. v x (or_right (free f x) (free k x) e)))
  now_free (out l f) s g h m wg wh ml v = any_cong N (λ k kl. ap (λ b. G l m k && b) (now_free f s g h k wg wh kl v))
  now_free (into l f) s g h m wg wh ml v = any_cong N (λ k kl. ap (λ b. G l k m && b) (now_free f s g h k wg wh kl v))
  now_free (prev t f) s g h m wg wh ml v = even_recalled (prev t f) s g h m wg wh ml v
  now_free (since t f k) s g h m wg wh ml v = even_recalled (since t f k) s g h m wg wh ml v
  now_free (bind x f) s g h m wg wh ml v =
      now_free f s (assign g x m) (assign h x m) m (among_assign N g x m wg ml) (among_assign N h x m wh ml) ml
      (λ y e. bound x m y g h (free f y) e (v y))
  now_free (at x f) s g h m wg wh ml v =
      ap (holds_now N G X f h) (v x (or_left (eqb x x) (free f x) (eq-eqb x x refl)))
      ∙ now_free f s g h (g x) wg wh (wg x) (λ y e. v y (or_right (eqb y x) (free f y) e))
  now_free (reach x f k) s g h m wg wh ml v =
      any_cong N (λ n nl. ap (λ b. holds_now N G X f (alone x n) m && b) (now_free k s.1 g h n wg wh nl v))
  now_free (many l f n) s g h m wg wh ml v = ap (leb n) (count_cong N (λ k kl. ap (λ b. G l m k && b) (now_free f s g h k wg wh kl v)))

-- ---- the tables of all past-time entries

-- Check 8: a table without a free variable has equal bits in a word.
abbrev pub LevelTables : Terms → Tables → Type 0
LevelTables T X = (n : ℕ) → n < T.entries → is_past (T.entry n).op ≡ true → ((x : ℕ) → free (formula T n) x ≡ true → ⊥) →
    (a b c : ℕ) → a < T.members → b < T.members → c < T.members → X (number T.entry n) a b ≡ X (number T.entry n) a c

-- What is free in an operand is free in its entry.
module _ (T : Terms) (n : ℕ) where
  pub free_prev : (T.entry n).op ≡ 6 → (x : ℕ) → free (below T.entry n (T.entry n).a) x ≡ true → free (formula T n) x ≡ true
  unfolding free
  free_prev e x f = ap (λ (φ : Formula). free φ x) (spelled_prev T.entry n e) ∙ f

  pub free_since_a : (T.entry n).op ≡ 7 → (x : ℕ) → free (below T.entry n (T.entry n).a) x ≡ true → free (formula T n) x ≡ true
  unfolding free
  free_since_a e x f = ap (λ (φ : Formula). free φ x) (spelled_since T.entry n e)
      ∙ or_left (free (below T.entry n (T.entry n).a) x) (free (below T.entry n (T.entry n).b) x) f

  pub free_since_b : (T.entry n).op ≡ 7 → (x : ℕ) → free (below T.entry n (T.entry n).b) x ≡ true → free (formula T n) x ≡ true
  unfolding free
  free_since_b e x f = ap (λ (φ : Formula). free φ x) (spelled_since T.entry n e)
      ∙ or_right (free (below T.entry n (T.entry n).a) x) (free (below T.entry n (T.entry n).b) x) f

pub by_kind : {A : Type 0} (o : ℕ) → is_past o ≡ true → (o ≡ 6 → A) → (o ≡ 7 → A) → A
by_kind o e six seven = or_cases (eqb o 6) (eqb o 7) e (λ z. six (eqb-true o 6 z)) (λ z. seven (eqb-true o 7 z))

-- An entry without a free variable has a table with one column.
module _ (T : Terms) (n : ℕ) (none : (x : ℕ) → free (formula T n) x ≡ true → ⊥) where
  one_column : columns (formula T n) ≡ 0 ∷ []
  one_column = closed_columns (formula T n) (λ x l. is_false (free (formula T n) x) (none x))

  pub one_inside : (a b : ℕ) → a < T.members → b < T.members → inside T.members (columns (formula T n)) a b ≡ true
  one_inside a b al bl = rw one_column (and_both _ _ (lt-ltb a T.members al) (lt-ltb b T.members bl))

module _ (T : Terms) (fine : Good T) (G : Graph) where
  -- An operand of an entry without a free variable does not depend on the column.
  operand_level : (X : Tables) → LevelTables T X → (n : ℕ) → n < T.entries → ((x : ℕ) → free (formula T n) x ≡ true → ⊥) →
      (k : ℕ) → ((x : ℕ) → free (below T.entry n k) x ≡ true → ⊥) →
      (a b c : ℕ) → a < T.members → b < T.members → c < T.members → operand_now T G n k X a b ≡ operand_now T G n k X a c
  operand_level X lev n l closed k none a b c al bl cl =
      rw (one_column T n closed)
      (now_free T.members G X (below T.entry n k)
      (visible_below T.entry (Even T.members G X) n (λ j jl e. record {
        below_16 = small T fine j (omega arith);
        level = rw (table_spelled T.entry j e) (lev j (omega arith) e);
      }) k)
      (alone 0 c) (alone 0 b) a (among_alone T.members 0 c cl) (among_alone T.members 0 b bl) al
      (λ x f. absurd (none x f)))

  pub prev_level : (X : Tables) → LevelTables T X → LevelTables T (prev_tables T G T.entries X)
  prev_level X lev n l e none a b c al bl cl = by_kind (T.entry n).op e six seven
    where
      six : (T.entry n).op ≡ 6 → prev_tables T G T.entries X (number T.entry n) a b ≡ prev_tables T G T.entries X (number T.entry n) a c
      six z =
          prev_worked T G fine T.entries (omega arith) X n l z a b (one_inside T n none a b al bl)
          ∙ operand_level X lev n l none (T.entry n).a (λ x f. none x (free_prev T n z x f)) a b c al bl cl
          ∙ sym (prev_worked T G fine T.entries (omega arith) X n l z a c (one_inside T n none a c al cl))

      seven : (T.entry n).op ≡ 7 → prev_tables T G T.entries X (number T.entry n) a b ≡ prev_tables T G T.entries X (number T.entry n) a c
      seven z = prev_keeps T G T.entries X n z a b ∙ lev n l e none a b c al bl cl ∙ sym (prev_keeps T G T.entries X n z a c)

  since_bits_level : (X : Tables) → LevelTables T X → (n : ℕ) → n < T.entries → (T.entry n).op ≡ 7 → ((x : ℕ) → free (formula T n) x ≡ true → ⊥) →
      (a b c : ℕ) → a < T.members → b < T.members → c < T.members → since_bits T G n X a b ≡ since_bits T G n X a c
  since_bits_level X lev n l z none a b c al bl cl =
      ap₂ ◌||◌ (operand_level X lev n l none (T.entry n).b (λ x f. none x (free_since_b T n z x f)) a b c al bl cl)
      (ap₂ ◌&&◌ (operand_level X lev n l none (T.entry n).a (λ x f. none x (free_since_a T n z x f)) a b c al bl cl)
      (lev n l (rw z) none a b c al bl cl))

  -- A table stored, or not.
  store_level : (X : Tables) → LevelTables T X → (n : ℕ) → (D : ℕ → ℕ → Bool) (stores : Bool) → (stores ≡ true → is_past (T.entry n).op ≡ true) →
      (stores ≡ true → ((x : ℕ) → free (formula T n) x ≡ true → ⊥) → (a b c : ℕ) → a < T.members → b < T.members → c < T.members → D a b ≡ D a c) →
      LevelTables T (cond stores (store (number T.entry n) D X) X)
  store_level X lev n D stores past even k kl e none a b c al bl cl = by_op stores refl
    where
      s : ℕ
      s = number T.entry k

      t : ℕ
      t = number T.entry n

      by_table : stores ≡ true → (d : Bool) → eqb s t ≡ d → cond d (D a b) (X s a b) ≡ cond d (D a c) (X s a c)
      by_table z true f =
          let same : k ≡ n = number_apart T.entry k n e (past z) (eqb-true s t f) in
          even z (λ x g. none x (rw same g)) a b c al bl cl
      by_table z false f = lev k kl e none a b c al bl cl

      by_op : (d : Bool) → stores ≡ d → cond d (store t D X) X s a b ≡ cond d (store t D X) X s a c
      by_op true z = by_table z (eqb s t) refl
      by_op false z = lev k kl e none a b c al bl cl

  since_step_level : (X : Tables) → LevelTables T X → (n : ℕ) → n < T.entries → LevelTables T (since_step T G n X)
  since_step_level X lev n l =
      store_level X lev n (since_bits T G n X) (eqb (T.entry n).op 7) (λ z. rw (eqb-true (T.entry n).op 7 z))
      (λ z none. since_bits_level X lev n l (eqb-true (T.entry n).op 7 z) none)

  pub since_level : (X : Tables) → LevelTables T X → (n : ℕ) → n ≤ T.entries → LevelTables T (since_tables T G n X)
  unfolding since_tables
  since_level X lev zero l = lev
  since_level X lev (suc n) l = since_step_level (since_tables T G n X) (since_level X lev n (omega arith)) n l

-- ---- check 8 and equal bits

level_bits : (N w : ℕ) → level N w ≡ true → (b c : ℕ) → b < N → c < N → bit w b ≡ bit w c
level_bits N w e b c bl cl =
    or_cases (eqb w 0) (eqb w (2 ^ N - 1)) e
    (λ z. rw (eqb-true w 0 z) (bit_zero b ∙ sym (bit_zero c)))
    (λ z. rw (eqb-true w (2 ^ N - 1) z) (bit_mask N b ∙ lt-ltb b N bl ∙ sym (bit_mask N c ∙ lt-ltb c N cl)))

module _ (T : Terms) (fine : Good T) where
  -- Words that keep the layout have equal bits where they must.
  pub level_good : (w : List ℕ) → good_state T w ≡ true → LevelTables T (state_of w).table
  unfolding good_state state_of closed
  level_good w g n l e no_free a b c al bl cl =
      ap (λ x. ltb t 32 && (ltb a 64 && x)) (level_bits T.members (get_or w (table_at t a) 0) even b c bl cl)
    where
      t : ℕ
      t = number T.entry n

      even : level T.members (get_or w (table_at t a) 0) ≡ true
      even =
          all_out 64 (λ a. level T.members (get_or w (table_at t a) 0))
          (implied (closed (formula T n)) _ (implied (is_past (T.entry n).op) _
          (all_out T.entries (λ n. is_past (T.entry n).op ⇒ (closed (formula T n) ⇒
          all_below 64 (λ a. level T.members (get_or w (table_at (number T.entry n) a) 0)))) (every_at (state_tests T w) g 2) n l) e)
          (all_true 16 (λ x _. ap not (is_false _ (no_free x))))) a (omega (arith, fine.few_members))

  pub relations_good : (S : State) → good_relations T (words_of T S) ≡ true
  unfolding good_relations
  relations_good S = all_true 16 (λ k kl. all_true 64 (λ a al.
      rw (word_relation T S k a kl al) (fits_row T.members (ltb k T.relations) (S.now.edge k) a)))

  -- And the words of a state that has them keep the layout.
  pub words_level : (S : State) → LevelTables T S.table → Inside T S.now → good_state T (words_of T S) ≡ true
  unfolding good_state closed
  words_level S lev i = every_in (state_tests T (words_of T S)) test
    where
      no_free : (n : ℕ) → n < T.entries → closed (formula T n) ≡ true → (x : ℕ) → free (formula T n) x ≡ true → ⊥
      no_free n l c x f = not_both (free (formula T n) x) f (not-true _ (all_out 16 (λ x. not (free (formula T n) x)) c x (small T fine n l x f)))

      columns_of : (n : ℕ) → n < T.entries → is_past (T.entry n).op ≡ true → table_columns T (number T.entry n) ≡ columns (formula T n)
      columns_of n l p = ap (λ k. columns (formula T k)) (past_is T n l p)

      even : (n : ℕ) → n < T.entries → is_past (T.entry n).op ≡ true → closed (formula T n) ≡ true → (a : ℕ) → a < 64 →
          level T.members (get_or (words_of T S) (table_at (number T.entry n) a) 0) ≡ true
      even n l p c a al =
          let tl : number T.entry n < tables T = number_lt T.entry n T.entries l p in
          rw (word_of_table T S (number T.entry n) a (omega (arith, fine.few_tables)) al, lt-ltb (number T.entry n) (tables T) tl, columns_of n l p, one_column T n (no_free n l c))
          (level_row T.members (S.table (number T.entry n)) a (S.table (number T.entry n) a 0)
          (λ an b bn. lev n l p (no_free n l c) a b 0 an bn fine.some_member))

      test : (k : ℕ) → get_or (state_tests T (words_of T S)) k true ≡ true
      test zero = relations_good S
      test (suc zero) = all_true 32 (λ t tl. all_true 64 (λ a al.
          rw (word_of_table T S t a tl al) (table_fits_row T.members fine.few_members (table_columns T t) (ltb t (tables T)) (S.table t) a)))
      test (suc (suc zero)) = all_true T.entries (λ n l.
          implies (is_past (T.entry n).op) (λ p. implies (closed (formula T n)) (λ c. all_true 64 (even n l p c))))
      test (suc (suc (suc zero))) = rw (word_event T S) (good-event T fine S.now.event i.event)
      test (suc (suc (suc (suc k)))) = refl

  -- Any moment inside the terms keeps the layout of every state that keeps it, true of a record or not.
  pub advance_good : (m : List ℕ) → good_state T m ≡ true → (M : Moment) → Inside T M → (rest : List ℕ) →
      good_state T (words_of T (advance T (state_of m) M) ++ rest) ≡ true
  unfolding advance
  advance_good m g M i rest =
      good_front (words_of T (advance T S M)) rest (omega (arith, length_words T (advance T S M))) T fine
      ∙ words_level (advance T S M)
      (since_level T fine (graph T M) (prev_tables T (graph T S.now) T.entries S.table)
      (prev_level T fine (graph T S.now) S.table (level_good m g)) T.entries (omega arith))
      i
    where
      S : State
      S = state_of m

-- ---- new terms

module _ (T : Terms) (S : State) (lev : LevelTables T S.table) (U : Terms) (fine : Good U) (em : T.members ≡ U.members) where
  abbrev G : Graph
  G = graph U S.now

  start_bits_level : (X : Tables) → LevelTables U X → (n : ℕ) → n < U.entries → is_past (U.entry n).op ≡ true → ((x : ℕ) → free (formula U n) x ≡ true → ⊥) →
      (a b c : ℕ) → a < U.members → b < U.members → c < U.members → start_bits T S U n X a b ≡ start_bits T S U n X a c
  start_bits_level X lower n l p none a b c al bl cl = go (ltb k T.entries) refl
    where
      k : ℕ
      k = taken T S U n

      anew : (d : Bool) → eqb (U.entry n).op 7 ≡ d → (d && operand_now U G n (U.entry n).b X a b) ≡ (d && operand_now U G n (U.entry n).b X a c)
      anew true z = operand_level U fine G X lower n l none (U.entry n).b (λ x f. none x (free_since_b U n (eqb-true (U.entry n).op 7 z) x f)) a b c al bl cl
      anew false z = refl

      go : (d : Bool) → ltb k T.entries ≡ d →
          cond d (S.table (number T.entry k) a b) (eqb (U.entry n).op 7 && operand_now U G n (U.entry n).b X a b)
          ≡ cond d (S.table (number T.entry k) a c) (eqb (U.entry n).op 7 && operand_now U G n (U.entry n).b X a c)
      go true z =
          let kl : k < T.entries = ltb-true k T.entries z in
          let e : bare (formula T k) ≡ bare (formula U n) = first_has T (formula U n) kl in
          lev k kl (past_same T.entry U.entry k n e ∙ p)
          (λ x f. none x (sym (free_renumbered (λ t. 0) (formula U n) x) ∙ ap (λ (φ : Formula). free φ x) (sym e) ∙ free_renumbered (λ t. 0) (formula T k) x ∙ f))
          a b c (omega arith) (omega arith) (omega arith)
      go false z = anew (eqb (U.entry n).op 7) refl

  start_level : (n : ℕ) → n ≤ U.entries → LevelTables U (start_tables T S U n (λ t a b. false))
  unfolding start_tables
  start_level zero l = λ n nl p none a b c al bl cl. refl
  start_level (suc n) l =
      let X : Tables = start_tables T S U n (λ t a b. false) in
      store_level U fine G X (start_level n (omega arith)) n (start_bits T S U n X) (is_past (U.entry n).op) (λ z. z)
      (λ z none. start_bits_level X (start_level n (omega arith)) n l z none)

-- What is inside T is inside terms of the same size.
pub inside_size : (T U : Terms) → T.members ≡ U.members → T.relations ≡ U.relations → T.events ≡ U.events → (M : Moment) → Inside T M → Inside U M
inside_size T U em er ee M i = record {
  edges = λ k a b h. let x = i.edges k a b h in (omega (arith, x.0), omega (arith, x.1), omega (arith, x.2));
  event = at M.event i.event;
}
  where
    at : (e : Event) → EventInside T e → EventInside U e
    at eventless x = tt
    at (happened j u v) x = (omega (arith, x.0), omega (arith, x.1), omega (arith, x.2))
    at (tried j u v) x = (omega (arith, x.0), omega (arith, x.1), omega (arith, x.2))

-- New terms of the same size begin with a state that keeps their layout, whatever state it was
-- that kept the old terms' layout.
pub revised_good : (T U : Terms) → Good T → Good U → T.members ≡ U.members → T.relations ≡ U.relations → T.events ≡ U.events →
    (m : List ℕ) → good_state T m ≡ true → (rest : List ℕ) → good_state U (words_of U (revised T (state_of m) U) ++ rest) ≡ true
unfolding revised
revised_good T U old fine em er ee m g rest =
    let S : State = state_of m in
    good_front (words_of U (revised T S U)) rest (omega (arith, length_words U (revised T S U))) U fine
    ∙ words_level U fine (revised T S U) (start_level T S (level_good T old m g) U fine em U.entries (omega arith))
    (inside_size T U em er ee S.now (state_inside T m g))
