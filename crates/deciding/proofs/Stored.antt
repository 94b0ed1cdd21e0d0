-- What a store into the lent memory makes of the state whose words it has: one table, one edge, the event
-- word; and memory that is cleared.
use Prim.Native.Nat.{ℕ, ◌+◌, ◌-◌, ◌*◌, ◌≤◌, ◌<◌}
use native.Mathlib.Omega.{arith}
use native.Mathlib.Numerals.{add-one}
use mathlib.Core.Path.{◌≡◌, refl, sym, ap, subst, ◌∙◌}
use mathlib.Core.List.{List, [], ◌∷◌, ◌++◌, append_assoc}
use mathlib.Core.Bool.{Bool, true, false, cond, ◌&&◌}
use lib.Dec.{eqb, ltb}
use lib.ListN.{length, get_or, take, drop, set, replicate, length-append, length-drop, length-set, get_or-replicate, length-replicate, get_or-append}
use lib.Seq.{length-take-le, get_or-append-add, get_or-take, get_or-drop, get_or-set_same, get_or-set_other, drop-drop, drop_at, drop-set-lt, take-suc, take-suc-set}
use borrow.Author.Tests.{eqb-true, eqb-false, eq-eqb, lt-ltb, ltb-true, ltb-false}
use borrow.Rule.Slice.PartMut.{put_mid, Post-is}
use Rattle.sets.specs.Sets.{bit, pack}
use Rattle.sets.proofs.Bits.{same_bits}
use Rattle.sets.proofs.Finite.{and_left, and_right, and_both, not_both}
use Rattle.theory.specs.Terms.{Terms}
use Rattle.theory.specs.Moment.{Event, first}
use Rattle.theory.specs.Limits.{scratch_words}
use Rattle.memory.specs.Layout.{state_words, relation_at, table_at, event_at, event_word, row, table_columns, table_row, words_of, state_of}
use Rattle.theory.specs.Terms.{tables}
use Rattle.memory.specs.Checks.{good_relations}
use Rattle.theory.specs.Tables.{State, store}
use Rattle.theory.specs.Fit.{Good}
use Rattle.deciding.specs.private.Rows.{Table}
use Rattle.deciding.specs.private.Moving.{known, HasState, put, tabled, edged, evented}
use Rattle.theory.proofs.MeaningNow.{SameAt}
use Rattle.memory.proofs.Row.{bit_row, bit_table, table_row_cong, table_row_none}
use Rattle.memory.proofs.Words.{length_words, words_by, relation-words}
use Rattle.deciding.proofs.SameDecision.{has_long, has_relation, has_table, has_event}

-- Words with the same bits are the same.
table-row : (N : ℕ) → N < 65 → (cs : List ℕ) (p : ℕ → ℕ → Bool) (s : List ℕ) → Table N cs p s → (a : ℕ) → get_or s a 0 ≡ table_row N cs p a
table-row N few cs p s h a = same_bits (get_or s a 0) (table_row N cs p a) (λ b. h.bits a b ∙ sym (bit_table N few cs p a b))

-- One word more copied.
pub copied : (i : ℕ) (vs ws : List ℕ) → i < length vs → i < length ws → take i vs ≡ take i ws →
    take (i + 1) (set vs i (get_or ws i 0)) ≡ take (i + 1) ws
copied i vs ws p q e =
    rw (add-one i) (take-suc-set vs i (get_or ws i 0) p ∙ ap (λ l. l ++ (get_or ws i 0 ∷ [])) e ∙ sym (take-suc ws i 0 q))

-- A list with a part replaced.
module _ (s : ℕ) (vs l : List ℕ) (fits : s + length vs ≤ length l) where
  front : length (take s l) ≡ s
  front = length-take-le s l (omega arith)

  pub put_in : (i : ℕ) → i < length vs → get_or (put s vs l) (s + i) 0 ≡ get_or vs i 0
  put_in i h =
      ap (λ n. get_or (put s vs l) (n + i) 0) (sym front) ∙ get_or-append-add (take s l) (vs ++ drop (s + length vs) l) i 0
      ∙ get_or-append vs (drop (s + length vs) l) 0 i h

  put_drop : drop (s + length vs) (put s vs l) ≡ drop (s + length vs) l
  put_drop =
      ap (drop (s + length vs)) (sym (append_assoc (take s l) vs (drop (s + length vs) l)))
      ∙ drop_at (take s l ++ vs) (drop (s + length vs) l) (s + length vs) (length-append (take s l) vs ∙ ap (λ n. n + length vs) front)

  pub put_after : (e : ℕ) → s + length vs ≤ e → drop e (put s vs l) ≡ drop e l
  put_after e h =
      let back : s + length vs + (e - (s + length vs)) ≡ e = omega arith in
      subst (λ n. drop n (put s vs l) ≡ drop n l) back
      (sym (drop-drop (e - (s + length vs)) (s + length vs) (put s vs l)) ∙ ap (drop (e - (s + length vs))) put_drop
      ∙ drop-drop (e - (s + length vs)) (s + length vs) l)

  pub put_other : (i : ℕ) → (s ≤ i → i < s + length vs → ⊥) → get_or (put s vs l) i 0 ≡ get_or l i 0
  put_other i out = go (ltb i s) refl
    where
      go : (c : Bool) → ltb i s ≡ c → get_or (put s vs l) i 0 ≡ get_or l i 0
      go true e =
          let h : i < s = ltb-true i s e in
          get_or-append (take s l) (vs ++ drop (s + length vs) l) 0 i (rw front h) ∙ get_or-take s l i 0 h
      go false e =
          let lo : s ≤ i = ltb-false i s e in
          let hi : s + length vs ≤ i = omega (arith, out lo) in
          let back : i + 0 ≡ i = omega arith in
          subst (λ n. get_or (put s vs l) n 0 ≡ get_or l n 0) back
          (sym (get_or-drop i (put s vs l) 0 0) ∙ ap (λ x. get_or x 0 0) (put_after i hi) ∙ get_or-drop i l 0 0)

  pub put_length : length (put s vs l) ≡ length l
  put_length = simp (length-append, length-drop, front) (omega arith)

-- A part that was lent and came back.
pub put_back : (a e : ℕ) (l ys vs : List ℕ) → ys ≡ vs → a + length vs ≡ e → put_mid a (e - a) l ys ≡ put a vs l
put_back a e l ys vs q z = rw (q, Post-is a e l (omega arith), z)

-- ---- one table

module _ (T : Terms) (fine : Good T) {S : State} {rest m : List ℕ} (has : HasState T S rest m) where
  pub has_rest : drop state_words m ≡ rest
  has_rest = ap (drop state_words) has.words ∙ drop_at (words_of T S) rest state_words (length_words T S)

  module _ (t : ℕ) (tl : t < tables T) (p B : ℕ → ℕ → Bool) (same : SameAt T.members (table_columns T t) p B) (vs : List ℕ) (new : Table T.members (table_columns T t) p vs) where
    abbrev at : ℕ
    at = 1024 + 64 * t

    t32 : t < 32
    t32 = omega (arith, fine.few_tables)

    fits : at + length vs ≤ length m
    fits = omega (arith, t32, new.long, has_long has)

    kept : (i : ℕ) → (at ≤ i → i < at + 64 → ⊥) → get_or (put at vs m) i 0 ≡ get_or m i 0
    kept i h = put_other at vs m fits i (λ lo hi. h lo (omega (arith, new.long)))

    table : (s a : ℕ) → s < 32 → a < 64 →
        get_or (put at vs m) (table_at s a) 0 ≡ cond (ltb s (tables T)) (table_row T.members (table_columns T s) (store t B S.table s) a) 0
    table s a sl al = go (eqb s t) refl
      where
        go : (c : Bool) → eqb s t ≡ c →
            get_or (put at vs m) (table_at s a) 0 ≡ cond (ltb s (tables T)) (table_row T.members (table_columns T s) (λ a b. cond c (B a b) (S.table s a b)) a) 0
        go true e =
            rw (eqb-true s t e, lt-ltb t (tables T) tl)
            (put_in at vs m fits a (omega (arith, new.long)) ∙ table-row T.members fine.few_members (table_columns T t) p vs new a ∙ table_row_cong T.members fine.few_members (table_columns T t) p B same a)
        go false e = kept (table_at s a) (λ lo hi. omega (arith, eqb-false s t e)) ∙ has_table has s a sl al

    pub table_stored : HasState T (tabled S (store t B S.table)) rest (put at vs m)
    table_stored = record {
      words = words_by T (tabled S (store t B S.table)) (put at vs m) (omega (arith, put_length at vs m fits, has_long has))
          (λ k a kl al. kept (relation_at k a) (λ lo hi. omega arith) ∙ has_relation has k a kl al)
          table
          (kept event_at (λ lo hi. omega (arith, t32)) ∙ has_event has)
          ∙ ap (λ r. words_of T (tabled S (store t B S.table)) ++ r) (put_after at vs m fits state_words (omega (arith, t32, new.long)) ∙ has_rest);
      event = has.event;
    }

  -- ---- one word of a relation: the edge from x to y is added or deleted

  module _ (adds : Bool) (k x y : ℕ) (kl : k < T.relations) (xl : x < T.members) (yl : y < T.members)
      (w : ℕ) (bits : (b : ℕ) → bit w b ≡ cond (eqb b y) adds (bit (get_or m (relation_at k x) 0) b)) where
    abbrev after : State
    after = edged S (λ l a b. cond (eqb l k && eqb a x && eqb b y) adds (S.now.edge l a b))

    k16 : k < 16
    k16 = omega (arith, fine.few_relations)

    x64 : x < 64
    x64 = omega (arith, fine.few_members)

    there : relation_at k x < length m
    there = omega (arith, k16, x64, has_long has)

    new_word : w ≡ row T.members (λ a b. cond (eqb b y) adds (S.now.edge k a b)) x
    new_word = same_bits w _ (λ b.
        bits b
        ∙ ap (λ z. cond (eqb b y) adds (bit z b)) (has_relation has k x k16 x64 ∙ rw (lt-ltb k T.relations kl))
        ∙ ap (cond (eqb b y) adds) (bit_row T.members (S.now.edge k) x b)
        ∙ rw (lt-ltb x T.members xl) (here b (eqb b y) refl)
        ∙ sym (bit_row T.members (λ a b. cond (eqb b y) adds (S.now.edge k a b)) x b))
      where
        here : (b : ℕ) (c : Bool) → eqb b y ≡ c →
            cond c adds (ltb b T.members && S.now.edge k x b) ≡ ltb b T.members && cond c adds (S.now.edge k x b)
        here b true e = rw (eqb-true b y e, lt-ltb y T.members yl)
        here b false e = refl

    relation : (l a : ℕ) → l < 16 → a < 64 →
        get_or (set m (relation_at k x) w) (relation_at l a) 0 ≡ cond (ltb l T.relations) (row T.members (after.now.edge l) a) 0
    relation l a ll al = go (eqb l k && eqb a x) refl
      where
        go : (c : Bool) → (eqb l k && eqb a x) ≡ c → get_or (set m (relation_at k x) w) (relation_at l a) 0
            ≡ cond (ltb l T.relations) (cond (ltb a T.members) (pack T.members (λ b. cond (c && eqb b y) adds (S.now.edge l a b))) 0) 0
        go true e =
            rw (eqb-true l k (and_left (eqb l k) _ e), eqb-true a x (and_right (eqb l k) _ e), lt-ltb k T.relations kl)
            (get_or-set_same m (relation_at k x) w 0 there ∙ new_word)
        go false e =
            get_or-set_other m (relation_at k x) (relation_at l a) w 0
            (λ z. not_both (eqb l k && eqb a x) (and_both (eqb l k) (eqb a x) (eq-eqb l k (omega (arith, x64))) (eq-eqb a x (omega (arith, x64)))) e)
            ∙ has_relation has l a ll al

    pub edge_stored : HasState T after rest (set m (relation_at k x) w)
    edge_stored = record {
      words = words_by T after (set m (relation_at k x) w) (omega (arith, length-set m (relation_at k x) w, has_long has))
          relation
          (λ t a tl al. get_or-set_other m (relation_at k x) (table_at t a) w 0 (λ z. omega (arith, k16, x64)) ∙ has_table has t a tl al)
          (get_or-set_other m (relation_at k x) event_at w 0 (λ z. omega (arith, k16, x64)) ∙ has_event has)
          ∙ ap (λ r. words_of T after ++ r) (drop-set-lt state_words m (relation_at k x) w (omega (arith, k16, x64)) ∙ has_rest);
      event = has.event;
    }

  -- ---- the event word

  pub event_stored : (x : Event) → known T x ≡ true → HasState T (evented x T S) rest (set m event_at (event_word x))
  event_stored x e = record {
    words = words_by T (evented x T S) (set m event_at w) (omega (arith, length-set m event_at w, has_long has))
        (λ k a kl al. get_or-set_other m event_at (relation_at k a) w 0 (λ z. omega arith) ∙ has_relation has k a kl al)
        (λ t a tl al. get_or-set_other m event_at (table_at t a) w 0 (λ z. omega arith) ∙ has_table has t a tl al)
        (get_or-set_same m event_at w 0 (omega (arith, has_long has)))
        ∙ ap (λ r. words_of T (evented x T S) ++ r) (drop-set-lt state_words m event_at w (omega arith) ∙ has_rest);
    event = e;
  }
    where
      w : ℕ
      w = event_word x

-- ---- words cleared: the tables and the event word, and scratch, of which a part was used before

zeros : (n : ℕ) (l zs : List ℕ) → n ≤ length l → zs ≡ replicate (length (take n l)) 0 → zs ≡ replicate n 0
zeros n l zs h e = e ∙ rw (length-take-le n l h)

pub cleared : (T : Terms) (m ys : List ℕ) → state_words ≤ length m → good_relations T m ≡ true → ys ≡ replicate (length (take 2049 (drop 1024 m))) 0 →
    HasState T (record { now = first (state_of m).now.edge; table = λ t a b. false }) (drop state_words m) (put_mid 1024 2049 m ys)
cleared T m ys long g q = record {
  words = put_back 1024 state_words m ys zs (zeros 2049 (drop 1024 m) ys (simp length-drop (omega arith)) q) (omega (arith, size)) ∙ words_by T S (put 1024 zs m) (omega (arith, put_length 1024 zs m fits))
      (λ k a kl al. put_other 1024 zs m fits (relation_at k a) (λ lo hi. omega arith) ∙ relation-words T m g k a kl al)
      (λ t a tl al. (let i : 1024 + (64 * t + a) ≡ table_at t a = omega arith in subst (λ n. get_or (put 1024 zs m) n 0 ≡ 0) i (blank (64 * t + a) (omega arith)))
      ∙ sym (none (ltb t (tables T)) t a))
      (blank 2048 (omega arith))
      ∙ ap (λ r. words_of T S ++ r) (put_after 1024 zs m fits state_words (omega (arith, size)));
  event = refl;
}
  where
    S : State
    S = record { now = first (state_of m).now.edge; table = λ t a b. false }

    zs : List ℕ
    zs = replicate 2049 0

    size : length zs ≡ 2049
    size = length-replicate {A = ℕ} 2049 0

    fits : 1024 + length zs ≤ length m
    fits = omega (arith, size)

    blank : (i : ℕ) → i < 2049 → get_or (put 1024 zs m) (1024 + i) 0 ≡ 0
    blank i l = put_in 1024 zs m fits i (omega (arith, size)) ∙ get_or-replicate 2049 i 0 0 l

    none : (c : Bool) (t a : ℕ) → cond c (table_row T.members (table_columns T t) (λ a b. false) a) 0 ≡ 0
    none true t a = table_row_none T.members (table_columns T t) a
    none false t a = refl

pub cleared_front : (l ys zs : List ℕ) → scratch_words ≤ length l → length ys ≡ 64 → zs ≡ replicate (length (take scratch_words (put_mid 0 64 l ys))) 0 →
    put_mid 0 scratch_words (put_mid 0 64 l ys) zs ≡ replicate scratch_words 0 ++ drop scratch_words l
cleared_front l ys zs h n q =
    let used : put_mid 0 64 l ys ≡ put 0 ys l = put_back 0 64 l ys ys refl (omega arith) in
    let fits : 0 + length ys ≤ length l = omega arith in
    let long : scratch_words ≤ length (put_mid 0 64 l ys) = rw used (omega (arith, put_length 0 ys l fits)) in
    rw (zeros scratch_words (put_mid 0 64 l ys) zs long q)
    (ap (λ r. replicate scratch_words 0 ++ r) (ap (drop scratch_words) used ∙ put_after 0 ys l fits scratch_words (omega arith)))
