-- A state's memory in two parts, relations r and own words o: what stands in r ++ o, what a store into a part makes of
-- it, and a part of a whole state that was lent and came back.
use Prim.Native.Nat.{ℕ, ◌+◌, ◌*◌, ◌<◌, ◌≤◌}
use native.Mathlib.Omega.{arith}
use native.Mathlib.Nat.{zero-add, suc-add}
use mathlib.Core.Path.{◌≡◌, sym, ap, subst, ◌∙◌}
use mathlib.Core.Bool.{true, cond}
use mathlib.Core.List.{List, [], ◌∷◌, ◌++◌, append_assoc, append-nil}
use lib.Dec.{eqb}
use lib.ListN.{length, get_or, take, drop, set, take-append-drop, length-append, length-drop, get_or-append}
use lib.Seq.{length-take-le, take_all, take_at, drop_at, take-take, take-append-add, drop-append-add, drop-append-le, set-append_left}
use borrow.Rule.Slice.PartMut.{put_mid}
use Rattle.sets.specs.Sets.{bit}
use Rattle.theory.specs.Formula.{columns}
use Rattle.theory.specs.Terms.{Terms, Effect, formula}
use Rattle.theory.specs.Moment.{Event}
use Rattle.theory.specs.Tables.{State}
use Rattle.theory.specs.Fit.{Good}
use Rattle.memory.specs.TableIndex.{index_table}
use Rattle.memory.specs.Layout.{relation_words, own_words, state_words, relation_at, event_word, terms_of, words_of}
use Rattle.memory.proofs.Words.{length_words}
use Rattle.deciding.specs.private.Rows.{Ready, Table, next_prev, next_since}
use Rattle.deciding.specs.private.Memo.{Memo, MemoOf}
use Rattle.deciding.specs.private.Moving.{known, HasState, Movable, Becomes, put, prev_at, effect_of, affected, evented, since_at}
use Rattle.deciding.proofs.SameDecision.{relations_of, past_of}
use Rattle.deciding.proofs.Stored.{event_stored}
use Rattle.deciding.proofs.MomentSteps.{readied, prev_turned, since_turned, end_member, effect_made}

set_add : (r o : List ℕ) (k v : ℕ) → set (r ++ o) (length r + k) v ≡ r ++ set o k v
set_add [] o k v = ap (λ i. set o i v) (zero-add k)
set_add (x ∷ r) o k v = ap (λ i. set (x ∷ (r ++ o)) i v) (suc-add (length r) k) ∙ ap (λ l. x ∷ l) (set_add r o k v)

-- ---- r ++ o

module _ (r o : List ℕ) (long : length r ≡ relation_words) where
  front : relations_of (r ++ o) ≡ r
  front = take_at r o relation_words long

  behind : drop relation_words (r ++ o) ≡ o
  behind = drop_at r o relation_words long

  own_part : length o ≡ own_words → past_of (r ++ o) ≡ o
  own_part e = ap (take own_words) behind ∙ take_all own_words o (omega (arith, e))

  -- What is said of the two parts is said of the parts of the whole.
  module _ (own_long : length o ≡ own_words) (P : List ℕ → List ℕ → Type 0) where
    pub joined_parts : P r o → P (relations_of (r ++ o)) (past_of (r ++ o))
    joined_parts h = subst (λ x. P x (past_of (r ++ o))) (sym front) (subst (λ y. P r y) (sym (own_part own_long)) h)

    parts_joined : P (relations_of (r ++ o)) (past_of (r ++ o)) → P r o
    parts_joined h = subst (λ y. P r y) (own_part own_long) (subst (λ x. P x (past_of (r ++ o))) front h)

  set_behind : (k v : ℕ) → set (r ++ o) (relation_words + k) v ≡ r ++ set o k v
  set_behind k v = ap (λ n. set (r ++ o) (n + k) v) (sym long) ∙ set_add r o k v

  pub put_behind : (k : ℕ) (vs : List ℕ) → put (relation_words + k) vs (r ++ o) ≡ r ++ put k vs o
  put_behind k vs =
      let taken : take (relation_words + k) (r ++ o) ≡ r ++ take k o = ap (λ n. take (n + k) (r ++ o)) (sym long) ∙ take-append-add r o k in
      let next : relation_words + k + length vs ≡ length r + (k + length vs) = omega (arith, long) in
      let left : drop (relation_words + k + length vs) (r ++ o) ≡ drop (k + length vs) o = ap (λ n. drop n (r ++ o)) next ∙ drop-append-add r o (k + length vs) in
      rw (taken, left) (append_assoc r (take k o) (vs ++ drop (k + length vs) o))

-- ---- a part of the state m that was lent and came back

put_front : (n k : ℕ) (vs l : List ℕ) → k + length vs ≤ n → n ≤ length l → put k vs (take n l) ++ drop n l ≡ put k vs l
put_front n k vs l h z =
    let taken : take k (take n l) ≡ take k l = take-take k n l (omega (arith, h)) in
    let within : k + length vs ≤ length (take n l) = rw (length-take-le n l z) h in
    let left : drop (k + length vs) (take n l) ++ drop n l ≡ drop (k + length vs) l =
    sym (drop-append-le (k + length vs) (take n l) (drop n l) within) ∙ ap (drop (k + length vs)) (take-append-drop n l) in
    append_assoc (take k (take n l)) (vs ++ drop (k + length vs) (take n l)) (drop n l)
    ∙ ap (λ x. take k (take n l) ++ x) (append_assoc vs (drop (k + length vs) (take n l)) (drop n l))
    ∙ rw (taken, left)

pub past_long : (m : List ℕ) → state_words ≤ length m → length (past_of m) ≡ own_words
past_long m long = length-take-le own_words (drop relation_words m) (simp length-drop (omega (arith, long)))

-- Rows stored in its own words.
pub put_lent : (k : ℕ) (vs m ys : List ℕ) → state_words ≤ length m → k + length vs ≤ own_words → ys ≡ put k vs (past_of m) →
    put_mid relation_words own_words m ys ≡ put (relation_words + k) vs m
put_lent k vs m ys long h q =
    let own : List ℕ = drop relation_words m in
    ap (λ l. take relation_words m ++ (l ++ drop own_words own)) q
    ∙ ap (λ l. take relation_words m ++ l) (put_front own_words k vs own h (simp length-drop (omega (arith, long))))
    ∙ sym (put_behind (take relation_words m) own (length-take-le relation_words m (omega (arith, long))) k vs)
    ∙ ap (put (relation_words + k) vs) (take-append-drop relation_words m)

-- The state of memory with no further words is that of the memory with further words.
module _ {terms : List ℕ} {f : Terms → State → State} where
  becomes_more : {m m' : List ℕ} (rest : List ℕ) → length m ≡ state_words → Becomes terms f m m' → Becomes terms f (m ++ rest) (m' ++ rest)
  becomes_more {m} {m'} rest long b = record { each = λ S more has. step S more has }
    where
      step : (S : State) (more : List ℕ) → HasState (terms_of terms) S more (m ++ rest) → HasState (terms_of terms) (f (terms_of terms) S) more (m' ++ rest)
      step S more has =
          let T : Terms = terms_of terms in
          let words : m ≡ words_of T S =
          sym (take_at m rest state_words long) ∙ ap (take state_words) has.words ∙ take_at (words_of T S) more state_words (length_words T S) in
          let further : rest ≡ more =
          sym (drop_at m rest state_words long) ∙ ap (drop state_words) has.words ∙ drop_at (words_of T S) more state_words (length_words T S) in
          let h : HasState T (f T S) [] m' = b.each S [] (record { words = words ∙ sym (append-nil (words_of T S)); event = has.event }) in
          record { words = ap (λ l. l ++ rest) (h.words ∙ append-nil (words_of T (f T S))) ∙ ap (λ l. words_of T (f T S) ++ l) further; event = h.event }

  -- The relations, and the own words, of the state m were lent.
  pub becomes_front : (m r : List ℕ) → ((own : List ℕ) → Becomes terms f (relations_of m ++ own) (r ++ own)) → Becomes terms f m (put_mid 0 relation_words m r)
  becomes_front m r h =
      subst (λ l. Becomes terms f l (r ++ drop relation_words m)) (take-append-drop relation_words m) (h (drop relation_words m))

  pub becomes_behind : (m o : List ℕ) → state_words ≤ length m →
      ((relations : List ℕ) → length relations ≡ relation_words → Becomes terms f (relations ++ past_of m) (relations ++ o)) → Becomes terms f m (put_mid relation_words own_words m o)
  becomes_behind m o long h =
      let r : List ℕ = take relation_words m in
      let own : List ℕ = drop relation_words m in
      let size : length r ≡ relation_words = length-take-le relation_words m (omega (arith, long)) in
      let whole : length (r ++ past_of m) ≡ state_words = omega (arith, length-append r (past_of m), size, past_long m long) in
      let whole-m : (r ++ past_of m) ++ drop own_words own ≡ m =
      append_assoc r (take own_words own) (drop own_words own) ∙ ap (λ l. r ++ l) (take-append-drop own_words own) ∙ take-append-drop relation_words m in
      subst (λ l. Becomes terms f m l) (append_assoc r o (drop own_words own))
      (subst (λ l. Becomes terms f l ((r ++ o) ++ drop own_words own)) whole-m (becomes_more (drop own_words own) whole (h r size)))

-- ---- turns of the sweeps, effects and the event edge, over the parts

module _ {terms index : List ℕ} (r o : List ℕ) (c : Movable terms index (r ++ o)) (long : length r ≡ relation_words) (own_long : length o ≡ own_words) where
  abbrev T : Terms
  T = terms_of terms

  pub ready_apart : Ready terms index r o
  ready_apart = parts_joined r o long own_long (λ rel past. Ready terms index rel past) (readied c)

  pub memo_apart : (n : ℕ) (w : List ℕ) → MemoOf T (r ++ o) n w → Memo T r o n w
  memo_apart n w = parts_joined r o long own_long (λ rel past. Memo T rel past n w)

  pub memo_joined : (n : ℕ) (w : List ℕ) → Memo T r o n w → MemoOf T (r ++ o) n w
  memo_joined n w = joined_parts r o long own_long (λ rel past. Memo T rel past n w)

  module _ (n : ℕ) (nl : n < T.entries) (vs : List ℕ) {o' : List ℕ} (q : o' ≡ put (64 * index_table (get_or index n 0)) vs o) where
    stored : r ++ o' ≡ put (1024 + 64 * index_table (get_or index n 0)) vs (r ++ o)
    stored = ap (λ l. r ++ l) q ∙ sym (put_behind r o long (64 * index_table (get_or index n 0)) vs)

    pub prev_apart : (T.entry n).op ≡ 6 → Table T.members (columns (formula T n)) (next_prev T r o n) vs → Becomes terms (prev_at n) (r ++ o) (r ++ o')
    prev_apart e new = prev_turned c n nl vs stored e (joined_parts r o long own_long (λ rel past. Table T.members (columns (formula T n)) (next_prev T rel past n) vs) new)

    pub since_apart : (T.entry n).op ≡ 7 → Table T.members (columns (formula T n)) (next_since T r o n) vs → Becomes terms (since_at n) (r ++ o) (r ++ o')
    since_apart e new = since_turned c n nl vs stored e (joined_parts r o long own_long (λ rel past. Table T.members (columns (formula T n)) (next_since T rel past n) vs) new)

module _ (w : List ℕ) (fine : Good (terms_of w)) (r o : List ℕ) (long : length r ≡ relation_words) where
  pub event_apart : (x : Event) → known (terms_of w) x ≡ true → Becomes w (evented x) (r ++ o) (r ++ set o 2048 (event_word x))
  event_apart x e =
      subst (λ l. Becomes w (evented x) (r ++ o) l) (set_behind r o long 2048 (event_word x))
      (record { each = λ S rest has. event_stored (terms_of w) fine has x e })

  module _ (at u v : ℕ) (kl : get_or w (at + 1) 0 < (terms_of w).relations) (ul : u < (terms_of w).members) (vl : v < (terms_of w).members) (n : ℕ) where
    abbrev e : Effect
    e = effect_of w at

    abbrev place : ℕ
    place = relation_at e.relation (cond e.back v u)

    there : place < length r
    there = omega (arith, end_member (terms_of w).members e.back vl ul, fine.few_members, fine.few_relations)

    pub effect_apart : ((b : ℕ) → bit n b ≡ cond (eqb b (cond e.back u v)) e.adds (bit (get_or r place 0) b)) →
        Becomes w (affected u v e) (r ++ o) (set r place n ++ o)
    effect_apart bits =
        subst (λ l. Becomes w (affected u v e) (r ++ o) l) (set-append_left r o place n there)
        (effect_made w fine at u v kl ul vl (r ++ o) n
        (λ b. bits b ∙ ap (λ z. cond (eqb b (cond e.back u v)) e.adds (bit z b)) (sym (get_or-append r o 0 place there))))
