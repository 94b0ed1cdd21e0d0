-- What is decided from the parts of the lent memory is decided from the state whose words it has.
use Prim.Native.Nat.{ℕ, ◌+◌, ◌-◌, ◌*◌, ◌/◌, ◌%◌, ◌≤◌, ◌<◌}
use native.Mathlib.Omega.{arith}
use mathlib.Core.Path.{◌≡◌, refl, sym, ap, ap₂, ◌∙◌}
use mathlib.Core.List.{List}
use mathlib.Core.Bool.{Bool, true, false, cond, ◌&&◌, ◌||◌, and_assoc, false≢true}
use lib.Dec.{eqb, ltb}
use lib.ListN.{length, get_or, take, drop, length-append, length-drop, get_or-append}
use lib.Seq.{get_or-take, get_or-drop, length-take-le}
use borrow.Author.Tests.{eq-eqb, ne_eqb, eqb-true, lt-ltb, le-ltb, ltb-true}
use Rattle.sets.specs.Sets.{bit}
use Rattle.sets.proofs.Finite.{bool_iff, and_left, and_right}
use Rattle.theory.specs.Formula.{number, below, columns, is_past}
use Rattle.theory.specs.Meaning.{Assignment}
use Rattle.theory.specs.Columns.{inside, standing, member}
use Rattle.theory.specs.Terms.{Terms, formula}
use Rattle.theory.specs.Moment.{Event, graph, event_edge}
use Rattle.theory.specs.Moment.Event.{none, happened, tried}
use Rattle.memory.specs.Layout.{terms_words, state_words, terms_of, relation_at, table_at, event_at, event_word, row, table_columns, table_row, words_of}
use Rattle.theory.specs.Terms.{tables}
use Rattle.memory.specs.Checks.{good_memory}
use Rattle.theory.specs.Tables.{named, State, holds_now, prev_bits, since_bits}
use Rattle.theory.specs.Fit.{Good}
use Rattle.deciding.specs.private.Rows.{labelled, fired, edge, table_bit, past_event, now_at, operand_bits, next_prev, next_since, Ready}
use Rattle.memory.specs.TableIndex.{Indexed}
use Rattle.deciding.specs.private.Moving.{known, HasState}
use Rattle.theory.proofs.Unfolding.{number_lt, table_spelled, visible_spelled, below_spelled}
use Rattle.theory.proofs.Good.{first_lower, second_lower}
use Rattle.theory.proofs.Places.{Among, inside_among, inside_member, inside_word}
use Rattle.theory.proofs.Past.{past_is}
use Rattle.theory.proofs.MeaningNow.{Same, SameAt, SameTable, now_cong}
use Rattle.memory.proofs.Words.{length_words, word_relation, word_of_table, word_event, word_edge, word_table}

-- What `&state[0..1024]` and `&state[1024..3073]` lend.
abbrev pub relations_of : List ℕ → List ℕ
relations_of m = take 1024 m

abbrev pub past_of : List ℕ → List ℕ
past_of m = take 2049 (drop 1024 m)

module _ {T : Terms} {S : State} {rest m : List ℕ} (has : HasState T S rest m) where
  pub has_long : state_words ≤ length m
  has_long = rw has.words (omega (arith, length-append (words_of T S) rest, length_words T S))

  has_word : (i : ℕ) → i < state_words → get_or m i 0 ≡ get_or (words_of T S) i 0
  has_word i l = rw has.words (get_or-append (words_of T S) rest 0 i (omega (arith, length_words T S)))

  pub has_relation : (k a : ℕ) → k < 16 → a < 64 →
      get_or m (relation_at k a) 0 ≡ cond (ltb k T.relations) (row T.members (S.now.edge k) a) 0
  has_relation k a kl al = has_word (relation_at k a) (omega arith) ∙ word_relation T S k a kl al

  pub has_table : (t a : ℕ) → t < 32 → a < 64 → get_or m (table_at t a) 0 ≡ cond (ltb t (tables T)) (table_row T.members (table_columns T t) (S.table t) a) 0
  has_table t a tl al = has_word (table_at t a) (omega arith) ∙ word_of_table T S t a tl al

  pub has_event : get_or m event_at 0 ≡ event_word S.now.event
  has_event = has_word event_at (omega arith) ∙ word_event T S

  -- The same words in the two parts.
  part_relation : (k a : ℕ) → k < 16 → a < 64 → get_or (relations_of m) (64 * k + a) 0 ≡ get_or (words_of T S) (relation_at k a) 0
  part_relation k a kl al = get_or-take 1024 m (64 * k + a) 0 (omega arith) ∙ has_word (relation_at k a) (omega arith)

  part_past : (i : ℕ) → i < 2049 → get_or (past_of m) i 0 ≡ get_or (words_of T S) (1024 + i) 0
  part_past i l = get_or-take 2049 (drop 1024 m) i 0 l ∙ get_or-drop 1024 m i 0 ∙ has_word (1024 + i) (omega arith)

  part_table : (t a : ℕ) → t < 32 → a < 64 → get_or (past_of m) (64 * t + a) 0 ≡ get_or (words_of T S) (table_at t a) 0
  part_table t a tl al = let at : 1024 + (64 * t + a) ≡ table_at t a = omega arith in
      part_past (64 * t + a) (omega arith) ∙ ap (λ i. get_or (words_of T S) i 0) at

  part_event : past_event T (past_of m) ≡ labelled T.events (event_word S.now.event)
  part_event = ap (labelled T.events) (part_past 2048 (omega arith) ∙ word_event T S)

eqb_sym : (m n : ℕ) → eqb m n ≡ eqb n m
eqb_sym m n = bool_iff _ _ (λ e. eq-eqb n m (sym (eqb-true m n e))) (λ e. eq-eqb m n (sym (eqb-true n m e)))

-- The three numbers that a call names.
pub record Named (T : Terms) (j u v : ℕ) : Type 0 where
  pub event : j < T.events
  pub from : u < T.members
  pub to : v < T.members
  pub small : (j < 16) × (u < 64) × (v < 64)

pub all_named : (T : Terms) → Good T → (j u v : ℕ) → named T j u v ≡ true → Named T j u v
all_named T fine j u v e =
    let jl : j < T.events = ltb-true j T.events (and_left (ltb j T.events) _ e) in
    let ul : u < T.members = ltb-true u T.members (and_left (ltb u T.members) _ (and_right (ltb j T.events) _ e)) in
    let vl : v < T.members = ltb-true v T.members (and_right (ltb u T.members) _ (and_right (ltb j T.events) _ e)) in
    let small : (j < 16) × (u < 64) × (v < 64) = (omega (arith, fine.few_events), omega (arith, fine.few_members), omega (arith, fine.few_members)) in
    record { event = jl; from = ul; to = vl; small = small }

module _ (T : Terms) (fine : Good T) where
  -- A word that names event k as labels count it, read as an edge.
  fired_word : (k u v : ℕ) → u < 64 → v < 64 → (j a b : ℕ) → fired (1 + k * 4096 + u * 64 + v) j a b ≡ (eqb j k && eqb a u && eqb b v)
  unfolding fired
  fired_word k u v ul vl j a b =
      let w : ℕ = 1 + k * 4096 + u * 64 + v in
      let no : (w - 1) / 4096 ≡ k = omega arith in
      let from : (w - 1) / 64 % 64 ≡ u = omega arith in
      let to : (w - 1) % 64 ≡ v = omega arith in
      rw (ne_eqb w 0 (λ z. omega arith), no, from, to, eqb_sym k j, eqb_sym u a) (sym (and_assoc (eqb j k) (eqb a u) (eqb b v)))

  -- The event word, read as an edge.
  fired_edge : (e : Event) → known T e ≡ true → (j a b : ℕ) → fired (labelled T.events (event_word e)) j a b ≡ event_edge T.events e j a b
  unfolding fired labelled
  fired_edge none i j a b = refl
  fired_edge (happened k u v) i j a b =
      let small = (all_named T fine k u v i).small in
      rw (le-ltb 65536 (1 + k * 4096 + u * 64 + v) (omega (arith, small))) (fired_word k u v small.1 small.2 j a b)
  fired_edge (tried k u v) i j a b =
      let n = all_named T fine k u v i in
      let w : ℕ = 1 + (16 + k) * 4096 + u * 64 + v in
      let down : w - (16 - T.events) * 4096 ≡ 1 + (T.events + k) * 4096 + u * 64 + v = omega (arith, n.small, fine.few_events) in
      rw (lt-ltb 65536 w (omega arith), down) (fired_word (T.events + k) u v n.small.1 n.small.2 j a b)

  module _ {S : State} {rest m : List ℕ} (has : HasState T S rest m) where
    seen_edge : (l : ℕ) → Same T.members (edge T.relations (relations_of m) (past_event T (past_of m)) l) (graph T S.now l)
    unfolding edge
    seen_edge l a b al bl = go (ltb l T.relations) refl
      where
        go : (c : Bool) → ltb l T.relations ≡ c →
            cond c (bit (get_or (relations_of m) (64 * l + a) 0) b) (fired (past_event T (past_of m)) (l - T.relations) a b)
            ≡ cond c (S.now.edge l a b) (event_edge T.events S.now.event (l - T.relations) a b)
        go true e =
            let kl : l < 16 = omega (arith, ltb-true l T.relations e, fine.few_relations) in
            let a64 : a < 64 = omega (arith, fine.few_members) in
            ap (λ w. bit w b) (part_relation has l a kl a64) ∙ word_edge T S l a b kl a64
            ∙ rw (e, lt-ltb a T.members al, lt-ltb b T.members bl)
        go false e = rw (part_event has) (fired_edge S.now.event has.event (l - T.relations) a b)

    seen_table : (n : ℕ) → n < T.entries → is_past (T.entry n).op ≡ true →
        SameAt T.members (columns (formula T n)) (table_bit (past_of m) (number T.entry n)) (S.table (number T.entry n))
    unfolding table_bit
    seen_table n nl p a b i =
        let t : ℕ = number T.entry n in
        let tl : t < tables T = number_lt T.entry n T.entries nl p in
        let t32 : t < 32 = omega (arith, tl, fine.few_tables) in
        let a64 : a < 64 = inside_word T.members fine.few_members (columns (formula T n)) a b ((fine.entry n nl).columns-fit p) i in
        ap (λ w. bit w b) (part_table has t a t32 a64) ∙ word_table T S fine.few_members t a b t32 a64
        ∙ ap (λ c. c && (inside T.members (table_columns T t) a b && S.table t a b)) (lt-ltb t (tables T) tl)
        ∙ ap (λ c. c && S.table t a b) (ap (λ k. inside T.members (columns (formula T k)) a b) (past_is T n nl p) ∙ i)

    -- An entry holds now by the words where it holds by the state.
    pub seen : (g : Assignment) (n a : ℕ) → n < T.entries → Among T.members g → a < T.members →
        now_at T (relations_of m) (past_of m) g n a ≡ holds_now T.members (graph T S.now) S.table (formula T n) g a
    unfolding now_at
    seen g n a nl w al =
        now_cong T.members (edge T.relations (relations_of m) (past_event T (past_of m))) (graph T S.now) (table_bit (past_of m)) S.table
        seen_edge (formula T n) g a w al
        (visible_spelled T.entry (SameTable T.members (table_bit (past_of m)) S.table) n
        (λ k kl p. record {
          fit = (fine.entry k (omega arith)).columns-fit p;
          bits = rw (table_spelled T.entry k p) (seen_table k (omega arith) p);
        }))

    -- The next bits of a prev and of a since.
    module _ (n : ℕ) (nl : n < T.entries) where
      operand : (k : ℕ) → k < n → SameAt T.members (columns (formula T n))
          (operand_bits T (relations_of m) (past_of m) (columns (formula T n)) k)
          (λ a b. holds_now T.members (graph T S.now) S.table (below T.entry n k) (standing (formula T n) a b) (member (formula T n) a))
      unfolding operand_bits
      operand k kl a b i =
          seen (standing (formula T n) a b) k (member (formula T n) a) (omega arith) (inside_among T.members (columns (formula T n)) a b i)
          (inside_member T.members (columns (formula T n)) a b i)
          ∙ rw (below_spelled T.entry n k kl)

      pub seen_prev : (T.entry n).op ≡ 6 →
          SameAt T.members (columns (formula T n)) (next_prev T (relations_of m) (past_of m) n) (prev_bits T (graph T S.now) n S.table)
      unfolding next_prev
      seen_prev e = operand (T.entry n).a (first_lower (fine.entry n nl) (rw e))

      pub seen_since : (T.entry n).op ≡ 7 →
          SameAt T.members (columns (formula T n)) (next_since T (relations_of m) (past_of m) n) (since_bits T (graph T S.now) n S.table)
      unfolding next_since
      seen_since e a b i =
          ap₂ ◌||◌ (operand (T.entry n).b (second_lower (fine.entry n nl) (rw e)) a b i)
          (ap₂ ◌&&◌ (operand (T.entry n).a (first_lower (fine.entry n nl) (rw e)) a b i)
          (seen_table n nl (rw e) a b i))

-- Memory that has a state is ready to be decided from.
module _ (terms index : List ℕ) (fine : Good (terms_of terms)) {S : State} {rest m : List ℕ} (has : HasState (terms_of terms) S rest m) where
  abbrev T : Terms
  T = terms_of terms

  named_ends : (i u v : ℕ) → named T i u v ≡ true → (x : Bool) (a b : ℕ) → (x && eqb a u && eqb b v) ≡ true → (a < T.members) × (b < T.members)
  named_ends i u v k x a b t =
      let a= : a ≡ u = eqb-true a u (and_right x _ (and_left (x && eqb a u) _ t)) in
      let b= : b ≡ v = eqb-true b v (and_right (x && eqb a u) _ t) in
      (rw a= (all_named T fine i u v k).from, rw b= (all_named T fine i u v k).to)

  event_ends : (e : Event) → known T e ≡ true → (j a b : ℕ) → event_edge T.events e j a b ≡ true → (a < T.members) × (b < T.members)
  event_ends none k j a b t = absurd (false≢true t)
  event_ends (happened i u v) k j a b t = named_ends i u v k (eqb j i) a b t
  event_ends (tried i u v) k j a b t = named_ends i u v k (eqb j (T.events + i)) a b t

  edge_inside : (l a b : ℕ) → a < 64 →
      edge T.relations (relations_of m) (past_event T (past_of m)) l a b ≡ true → (a < T.members) × (b < T.members)
  unfolding edge
  edge_inside l a b al = go (ltb l T.relations) refl
    where
      go : (c : Bool) → ltb l T.relations ≡ c →
          cond c (bit (get_or (relations_of m) (64 * l + a) 0) b) (fired (past_event T (past_of m)) (l - T.relations) a b) ≡ true →
          (a < T.members) × (b < T.members)
      go true e t =
          let kl : l < 16 = omega (arith, ltb-true l T.relations e, fine.few_relations) in
          let s = and_right (ltb l T.relations) _ (sym (ap (λ w. bit w b) (part_relation has l a kl al) ∙ word_edge T S l a b kl al) ∙ t) in
          (ltb-true a T.members (and_left (ltb a T.members) _ s), ltb-true b T.members (and_left (ltb b T.members) _ (and_right (ltb a T.members) _ s)))
      go false e t =
          event_ends S.now.event has.event (l - T.relations) a b
          (sym (ap (λ w. fired w (l - T.relations) a b) (part_event has) ∙ fired_edge T fine S.now.event has.event (l - T.relations) a b) ∙ t)

  pub ready : terms_words ≤ length terms → good_memory terms ≡ true → Indexed T index → Ready terms index (relations_of m) (past_of m)
  ready lt g p = record {
    long_terms = lt;
    good = g;
    indexed = p;
    long_rel = rw (length-take-le 1024 m (omega (arith, has_long has))) (omega arith);
    long_past = rw (length-take-le 2049 (drop 1024 m) (rw (length-drop 1024 m) (omega (arith, has_long has)))) (omega arith);
    inside = λ l a b _ al. edge_inside l a b al;
  }
