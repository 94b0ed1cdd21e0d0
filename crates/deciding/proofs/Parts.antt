-- Relations r and own words o that are lent apart: the parts of one state, of a bank's memory that has
-- further words, of a second state.
use Prim.Native.Nat.{ℕ, ◌+◌, ◌*◌, ◌≤◌, ◌<◌}
use native.Mathlib.Omega.{arith}
use mathlib.Core.Path.{◌≡◌, refl, sym, ap, ap₂, subst, ◌∙◌}
use mathlib.Core.Bool.{Bool, true, false, cond}
use mathlib.Core.List.{List, [], ◌++◌, append-nil, append_assoc}
use lib.Dec.{ltb}
use lib.ListN.{length, get_or, take, drop, set, replicate, length-append, length-set, length-replicate, get_or-replicate, take-append-drop, drop_of_length-le, get_or-append}
use lib.Seq.{length-take-le, take_at, drop_at, drop-drop, take-add, drop-append-add, get_or-append-add, get_or-take, get_or-set_same, get_or-set_other}
use borrow.Rule.Slice.PartMut.{put_mid}
use Rattle.theory.specs.Terms.{Terms, tables}
use Rattle.theory.specs.Moment.{first}
use Rattle.theory.specs.Tables.{State}
use Rattle.theory.specs.Limits.{scratch_words}
use Rattle.theory.specs.Fit.{Good}
use Rattle.memory.specs.Layout.{state_words, relation_words, own_words, block_words, joined, relation_at, table_at, table_row, table_columns, terms_of, state_of, words_of}
use Rattle.memory.specs.Checks.{good_relations, good_state}
use Rattle.memory.proofs.Front.{state_front, good_front}
use Rattle.memory.proofs.Row.{table_row_none}
use Rattle.memory.proofs.Words.{words_by, relation-words}
use Rattle.deciding.specs.private.Rows.{table_words}
use Rattle.deciding.specs.private.Moving.{HasState, Becomes, put}
use Rattle.deciding.specs.private.Starting.{Revising, Begun}
use Rattle.deciding.proofs.SameDecision.{relations_of, past_of}
use Rattle.deciding.proofs.MomentSteps.{held}
use Rattle.deciding.proofs.Apart.{put_behind, past_long}
use Rattle.deciding.proofs.Starting.{begun_none}

-- ---- what stands in r ++ o

module _ (r o : List ℕ) (long : length r ≡ relation_words) where
  front_at : (i : ℕ) → i < relation_words → get_or (r ++ o) i 0 ≡ get_or r i 0
  front_at i l = get_or-append r o 0 i (omega arith)

  behind_at : (i : ℕ) → get_or (r ++ o) (relation_words + i) 0 ≡ get_or o i 0
  behind_at i = ap (λ (n : ℕ). get_or (r ++ o) (n + i) 0) (sym long) ∙ get_or-append-add r o i 0

  drop_behind : (k : ℕ) → drop (relation_words + k) (r ++ o) ≡ drop k o
  drop_behind k = ap (λ (n : ℕ). drop (n + k) (r ++ o)) (sym long) ∙ drop-append-add r o k

  -- Words for one table are put into other own words.
  pub table_behind : (second : List ℕ) {second' : List ℕ} (j k : ℕ) → second' ≡ put k (take block_words (drop j o)) second →
      r ++ second' ≡ put (relation_words + k) (take block_words (drop (relation_words + j) (r ++ o))) (r ++ second)
  table_behind second j k e =
      ap (λ (l : List ℕ). r ++ l) e
      ∙ sym (put_behind r second long k (take block_words (drop j o)))
      ∙ ap (λ (l : List ℕ). put (relation_words + k) (take block_words l) (r ++ second)) (sym (drop_behind j))

-- ---- memory that has exactly the words of a state

pub becomes_words : {terms m m' : List ℕ} {f : Terms → State → State} → Good (terms_of terms) → length m ≡ state_words → good_state (terms_of terms) m ≡ true → Becomes terms f m m' →
    m' ≡ words_of (terms_of terms) (f (terms_of terms) (state_of m))
becomes_words {terms} {m} {m'} {f} fine long g b =
    (b.each (state_of m) (drop state_words m) (held (terms_of terms) fine.few_members m (omega (arith, long)) g)).words
    ∙ ap (λ (z : List ℕ). words_of (terms_of terms) (f (terms_of terms) (state_of m)) ++ z) (drop_of_length-le m {i = state_words} (omega (arith, long)))
    ∙ append-nil (words_of (terms_of terms) (f (terms_of terms) (state_of m)))

-- ---- the parts of one state

module _ (m : List ℕ) (long : state_words ≤ length m) where
  pub relations_long : length (relations_of m) ≡ relation_words
  relations_long = length-take-le relation_words m (omega (arith, long))

  pub parts_long : length (relations_of m ++ past_of m) ≡ state_words
  parts_long = length-append (relations_of m) (past_of m) ∙ omega (arith, past_long m long, relations_long)

  parts_whole : (relations_of m ++ past_of m) ++ drop state_words m ≡ m
  parts_whole = ap (λ (l : List ℕ). l ++ drop state_words m) (sym (take-add relation_words own_words m)) ∙ take-append-drop state_words m

  pub parts_state : state_of (relations_of m ++ past_of m) ≡ state_of m
  parts_state = sym (state_front (relations_of m ++ past_of m) (drop state_words m) (omega (arith, parts_long))) ∙ ap state_of parts_whole

  pub parts_good : (T : Terms) → Good T → good_state T m ≡ true → good_state T (relations_of m ++ past_of m) ≡ true
  parts_good T fine g =
      sym (good_front (relations_of m ++ past_of m) (drop state_words m) (omega (arith, parts_long)) T fine) ∙ ap (good_state T) parts_whole ∙ g

-- A second state whose relations are copied, and whose own words are filled in.
pub filled_in : (m second r o : List ℕ) {w : List ℕ} → state_words ≤ length m → state_words ≤ length second → length o ≡ own_words →
    r ≡ take (length (take relation_words second)) m → take relation_words m ++ o ≡ w →
    put_mid relation_words own_words (put_mid 0 relation_words second r) o ≡ w ++ drop state_words second
filled_in m second r o {w} long long_second size copied e =
    let same : r ≡ take relation_words m = copied ∙ ap (λ (n : ℕ). take n m) (length-take-le relation_words second (omega (arith, long_second))) in
    let r-long : length r ≡ relation_words = ap length same ∙ length-take-le relation_words m (omega (arith, long)) in
    let kept : take relation_words (r ++ drop relation_words second) ≡ r = take_at r (drop relation_words second) relation_words r-long in
    let left : drop own_words (drop relation_words (r ++ drop relation_words second)) ≡ drop state_words second =
    ap (drop own_words) (drop_at r (drop relation_words second) relation_words r-long) ∙ drop-drop own_words relation_words second in
    ap₂ (λ (x y : List ℕ). x ++ (o ++ y)) (kept ∙ same) left
    ∙ sym (append_assoc (take relation_words m) o (drop state_words second))
    ∙ ap (λ (l : List ℕ). l ++ drop state_words second) e

-- ---- a bank's memory, with further words

pub joined_long : (relations own : List ℕ) → relation_words ≤ length relations → own_words ≤ length own → length (joined relations own) ≡ state_words
joined_long relations own lr lo =
    length-append (take relation_words relations) (take own_words own) ∙ ap₂ ◌+◌ (length-take-le relation_words relations lr) (length-take-le own_words own lo)

-- Parts that were lent and came back.
pub joined_back : (relations own r o : List ℕ) → length r ≡ relation_words → length o ≡ own_words →
    joined (put_mid 0 relation_words relations r) (put_mid 0 own_words own o) ≡ r ++ o
joined_back relations own r o lr lo =
    ap₂ (λ (x y : List ℕ). x ++ y) (take_at r (drop relation_words relations) relation_words lr) (take_at o (drop own_words own) own_words lo)

-- Scratch that is cleared.
pub cleared_all : (l zs : List ℕ) → scratch_words ≤ length l → zs ≡ replicate (length (take scratch_words l)) 0 →
    put_mid 0 scratch_words l zs ≡ replicate scratch_words 0 ++ drop scratch_words l
cleared_all l zs h q =
    ap (λ (z : List ℕ). z ++ drop scratch_words l) (q ∙ ap (λ (n : ℕ). replicate n 0) (length-take-le scratch_words l h))

-- ---- own words that are cleared

-- Nothing but the event word carries over into them.
pub begun_apart : {old before new index : List ℕ} (r o : List ℕ) {zs : List ℕ} → Revising old before (r ++ o) new index → length r ≡ relation_words → zs ≡ replicate own_words 0 →
    Begun old (r ++ o) new 0 [] (r ++ set zs table_words (get_or o table_words 0))
begun_apart r o {zs} rv lr z =
    begun_none rv (r ++ second) (length-append r second ∙ omega (arith, lr, size))
    (λ i l. front_at r second lr i l ∙ sym (front_at r o lr i l))
    (λ i l. behind_at r second lr i ∙ get_or-set_other zs table_words i _ 0 (λ e. omega arith) ∙ ap (λ (l : List ℕ). get_or l i 0) z ∙ get_or-replicate own_words i 0 0 (omega arith))
    (behind_at r second lr table_words ∙ get_or-set_same zs table_words _ 0 (omega (arith, zeros)) ∙ sym (behind_at r o lr table_words))
  where
    second : List ℕ
    second = set zs table_words (get_or o table_words 0)

    zeros : length zs ≡ own_words
    zeros = ap length z ∙ length-replicate {A = ℕ} own_words 0

    size : length second ≡ own_words
    size = length-set zs table_words (get_or o table_words 0) ∙ zeros

-- The moment before moment 0.
pub cleared_apart : (T : Terms) (relations : List ℕ) {zs : List ℕ} → relation_words ≤ length relations → good_relations T relations ≡ true → zs ≡ replicate own_words 0 →
    HasState T (record { now = first (state_of relations).now.edge; table = λ t a b. false }) [] (take relation_words relations ++ zs)
cleared_apart T relations {zs} long g z = record {
  words = words_by T S m (omega (arith, size))
      (λ k a kl al. front_at r zs lr (relation_at k a) (omega arith) ∙ get_or-take relation_words relations (relation_at k a) 0 (omega arith) ∙ relation-words T relations g k a kl al)
      (λ t a tl al. (let i : relation_words + (block_words * t + a) ≡ table_at t a = omega arith in subst (λ (n : ℕ). get_or m n 0 ≡ 0) i (blank (block_words * t + a) (omega arith)))
      ∙ sym (none (ltb t (tables T)) t a))
      (blank table_words (omega arith))
      ∙ ap (λ (l : List ℕ). words_of T S ++ l) (drop_of_length-le m {i = state_words} (omega (arith, size)));
  event = refl;
}
  where
    S : State
    S = record { now = first (state_of relations).now.edge; table = λ t a b. false }

    r : List ℕ
    r = take relation_words relations

    m : List ℕ
    m = r ++ zs

    lr : length r ≡ relation_words
    lr = length-take-le relation_words relations long

    size : length m ≡ state_words
    size = length-append r zs ∙ omega (arith, lr, ap length z ∙ length-replicate {A = ℕ} own_words 0)

    blank : (i : ℕ) → i < own_words → get_or m (relation_words + i) 0 ≡ 0
    blank i l = behind_at r zs lr i ∙ ap (λ (l : List ℕ). get_or l i 0) z ∙ get_or-replicate own_words i 0 0 l

    none : (c : Bool) (t a : ℕ) → cond c (table_row T.members (table_columns T t) (λ a b. false) a) 0 ≡ 0
    none true t a = table_row_none T.members (table_columns T t) a
    none false t a = refl

-- The words of moment 0, before further words that stayed.
pub opened_apart : (r own zs o : List ℕ) {w : List ℕ} → length zs ≡ own_words → length o ≡ own_words → r ++ o ≡ w →
    r ++ put_mid 0 own_words (put_mid 0 own_words own zs) o ≡ w ++ drop own_words own
opened_apart r own zs o {w} lz lo e =
    ap (λ (l : List ℕ). r ++ (o ++ l)) (drop_at zs (drop own_words own) own_words lz)
    ∙ sym (append_assoc r o (drop own_words own))
    ∙ ap (λ (l : List ℕ). l ++ drop own_words own) e
