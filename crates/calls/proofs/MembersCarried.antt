-- Members renumbered, of any state that keeps the layout, whether or not it is true of a record: what is decided is the
-- same, and so is the next state.
use Prim.Native.Nat.{ℕ, zero, suc, ◌≤◌, ◌<◌}
use native.Mathlib.Omega.{arith}
use mathlib.Core.Path.{◌≡◌, refl, sym, ap, ap₂, subst, ◌∙◌}
use mathlib.Core.Logic.{⊎_elim}
use mathlib.Core.Bool.{Bool, true, false, cond, not, ◌&&◌, ◌||◌}
use mathlib.Core.List.{List}
use lib.Dec.{eqb, leb}
use borrow.Author.Tests.{eq-eqb, eqb-true}
use Rattle.sets.proofs.Finite.{any_cong, not_both, or_left, or_right, count_cong}
use Rattle.theory.specs.Formula.{Formula, number, below, is_past, free, columns}
use Rattle.theory.specs.Formula.Formula.{top, var, neg, or, out, into, prev, since, bind, at, reach, many}
use Rattle.theory.specs.Meaning.{Graph, Assignment, assign, alone}
use Rattle.theory.specs.Columns.{columns_fit, inside, word_for, bit_for, word_under, bit_under, standing, member}
use Rattle.theory.specs.Terms.{Terms, formula}
use Rattle.theory.specs.Moment.{Moment, graph}
use Rattle.theory.specs.Keeper.{target}
use Rattle.theory.specs.Tables.{Tables, recalled, holds_now, store, operand_now, since_bits, since_step, prev_tables, since_tables, State, decide_now, advance}
use Rattle.theory.proofs.Unfolding.{EachReach, Visible, table_of, table_spelled, number_apart, visible_below, visible_spelled}
use Rattle.theory.proofs.Good.{small, column_free}
use Rattle.theory.proofs.Places.{Among, among_assign, among_alone, columns_free, place_cong, place_inside, inside_among, inside_member}
use Rattle.theory.proofs.MembersPlaces.{under_inside, under_member, under_standing, place_under}
use Rattle.theory.proofs.Sweeps.{prev_keeps, prev_worked}
use Rattle.calls.proofs.LayoutKept.{LevelTables, free_prev, free_since_a, free_since_b, by_kind, prev_level, since_level}
use Rattle.theory.specs.NewNumbers.{renumber_moment}
use Rattle.theory.specs.Fit.{Good}
use Rattle.theory.specs.MembersRenumbered.{Renumbering}
use Rattle.theory.proofs.Permuted.{any_permuted, count_permuted}
use Rattle.theory.proofs.Regular.{Only, policy_target, regular, regular_below}
use Rattle.theory.proofs.MembersRenumbered.{permutes, same_both, graph_renumbered}

-- ---- the meaning at the present moment

module _ (N : ℕ) (p q : ℕ → ℕ) (r : Renumbering N p q) (G H : Graph) (edge : (l a b : ℕ) → H l a b ≡ G l (q a) (q b)) (X Y : Tables) where
  -- The table of φ is carried over; where φ has no free variable, its bits in a word are equal.
  record Carried (φ : Formula) : Type 0 where
    pub fit : columns_fit N (columns φ) ≡ true
    pub below_16 : (x : ℕ) → free φ x ≡ true → x < 16
    pub bits : (i k : ℕ) → inside N (columns φ) i k ≡ true → Y (table_of φ) i k ≡ X (table_of φ) (word_under (columns φ) q i k) (bit_under (columns φ) q i k)
    pub level : ((x : ℕ) → free φ x ≡ true → ⊥) → (a b c : ℕ) → a < N → b < N → c < N → X (table_of φ) a b ≡ X (table_of φ) a c

  moved : (l a b : ℕ) → H l (p a) (p b) ≡ G l a b
  moved l a b = edge l (p a) (p b) ∙ ap₂ (G l) (r.back a) (r.back b)

  bound : (x m y : ℕ) (g h : Assignment) (F : Bool) → F ≡ true → (not (eqb y x) && F ≡ true → h y ≡ p (g y)) →
      assign h x (p m) y ≡ p (assign g x m y)
  bound x m y g h F f e = go (eqb y x) refl
    where
      go : (c : Bool) → eqb y x ≡ c → cond c (p m) (h y) ≡ p (cond c m (g y))
      go true z = refl
      go false z = e (rw (z, f))

  carried_recalled : (φ : Formula) → Carried φ → (g h : Assignment) (m : ℕ) → Among N g → Among N h → m < N →
      ((x : ℕ) → free φ x ≡ true → h x ≡ p (g x)) → recalled Y (table_of φ) (columns φ) h (p m) ≡ recalled X (table_of φ) (columns φ) g m
  carried_recalled φ c g h m wg wh ml v =
      let u = place_under N q r.old (columns φ) h (p m) wh (r.new m ml) c.fit in
      c.bits (word_for (columns φ) h (p m)) (bit_for (columns φ) h) (place_inside N h wh (p m) (r.new m ml) (columns φ) c.fit)
      ∙ ap₂ (X (table_of φ)) u.0 u.1
      ∙ ap (recalled X (table_of φ) (columns φ) (λ x. q (h x))) (r.back m)
      ∙ ⊎_elim
      (λ f. let e = place_cong (columns φ) g (λ x. q (h x)) m (λ x i. ap q (v x (f x i)) ∙ r.back (g x)) in ap₂ (X (table_of φ)) e.0 e.1)
      (λ n. rw n.1 (c.level (λ x f. not_both (free φ x) f (n.0 x (c.below_16 x f))) m (q (h 0)) (g 0) ml (r.old (h 0) (wh 0)) (wg 0)))
      (columns_free φ)

  now_renumbered : (f : Formula) → EachReach Only f → Visible Carried f → (g h : Assignment) (m : ℕ) → Among N g → Among N h → m < N →
      ((x : ℕ) → free f x ≡ true → h x ≡ p (g x)) → holds_now N H Y f h (p m) ≡ holds_now N G X f g m
  unfolding holds_now free
  now_renumbered top w s g h m wg wh ml v = refl
  now_renumbered (var x) w s g h m wg wh ml v = ap (eqb (p m)) (v x (eq-eqb x x refl)) ∙ same_both N p q r m (g x)
  now_renumbered (neg f) w s g h m wg wh ml v = ap not (now_renumbered f w s g h m wg wh ml v)
  now_renumbered (or f k) w s g h m wg wh ml v =
      ap₂ ◌||◌ (now_renumbered f w.0 s.0 g h m wg wh ml (λ x e. v x (or_left (free f x) (free k x) e)))
      (now_renumbered k w.1 s.1 g h m wg wh ml (λ x e. v x (or_right (free f x) (free k x) e)))
  now_renumbered (out l f) w s g h m wg wh ml v =
      sym (any_permuted (permutes r) (λ k. H l (p m) k && holds_now N H Y f h k))
      ∙ any_cong N (λ k kl. ap₂ ◌&&◌ (moved l m k) (now_renumbered f w s g h k wg wh kl v))
  now_renumbered (into l f) w s g h m wg wh ml v =
      sym (any_permuted (permutes r) (λ k. H l k (p m) && holds_now N H Y f h k))
      ∙ any_cong N (λ k kl. ap₂ ◌&&◌ (moved l k m) (now_renumbered f w s g h k wg wh kl v))
  now_renumbered (prev t f) w s g h m wg wh ml v = carried_recalled (prev t f) s g h m wg wh ml v
  now_renumbered (since t f k) w s g h m wg wh ml v = carried_recalled (since t f k) s g h m wg wh ml v
  now_renumbered (bind x f) w s g h m wg wh ml v =
      now_renumbered f w s (assign g x m) (assign h x (p m)) m (among_assign N g x m wg ml) (among_assign N h x (p m) wh (r.new m ml)) ml
      (λ y e. bound x m y g h (free f y) e (v y))
  now_renumbered (at x f) w s g h m wg wh ml v =
      ap (holds_now N H Y f h) (v x (or_left (eqb x x) (free f x) (eq-eqb x x refl)))
      ∙ now_renumbered f w s g h (g x) wg wh (wg x) (λ y e. v y (or_right (eqb y x) (free f y) e))
  now_renumbered (reach x f k) w s g h m wg wh ml v =
      sym (any_permuted (permutes r) (λ n. holds_now N H Y f (alone x n) (p m) && holds_now N H Y k h n))
      ∙ any_cong N (λ n nl. ap₂ ◌&&◌
      (now_renumbered f w.1 s.0 (alone x n) (alone x (p n)) m (among_alone N x n nl) (among_alone N x (p n) (r.new n nl)) ml
      (λ y e. rw (eq-eqb y x (w.0 y e))))
      (now_renumbered k w.2 s.1 g h n wg wh nl v))
  now_renumbered (many l f c) w s g h m wg wh ml v =
      ap (leb c) (sym (count_permuted (permutes r) (λ k. H l (p m) k && holds_now N H Y f h k))
      ∙ count_cong N (λ k kl. ap₂ ◌&&◌ (moved l m k) (now_renumbered f w s g h k wg wh kl v)))

-- ---- the tables of all past-time entries

-- Y is X renumbered, at the places of members.
abbrev pub Carry : Terms → (ℕ → ℕ) → Tables → Tables → Type 0
Carry T q X Y = (n : ℕ) → n < T.entries → is_past (T.entry n).op ≡ true → (i k : ℕ) → inside T.members (columns (formula T n)) i k ≡ true →
    Y (number T.entry n) i k ≡ X (number T.entry n) (word_under (columns (formula T n)) q i k) (bit_under (columns (formula T n)) q i k)

-- Two graphs and tables, the second the first renumbered.
module _ (T : Terms) (good : Good T) (p q : ℕ → ℕ) (r : Renumbering T.members p q) (G H : Graph) (edge : (l a b : ℕ) → H l a b ≡ G l (q a) (q b))
    (X Y : Tables) (carry : Carry T q X Y) (level : LevelTables T X)
  where
    abbrev N : ℕ
    N = T.members

    carried : (n : ℕ) → n < T.entries → is_past (T.entry n).op ≡ true → Carried N p q r G H edge X Y (formula T n)
    carried n l e = record {
      fit = (good.entry n l).columns-fit e;
      below_16 = small T good n l;
      bits = rw (table_spelled T.entry n e) (carry n l e);
      level = rw (table_spelled T.entry n e) (level n l e);
    }

    policy_carried : (j : ℕ) → j < T.events → (u v : ℕ) → u < N → v < N →
        holds_now N H Y (formula T (T.policy j)) (target (p v)) (p u) ≡ holds_now N G X (formula T (T.policy j)) (target v) u
    policy_carried j jl u v ul vl =
        let l : T.policy j < T.entries = good.policy_exists j jl in
        now_renumbered N p q r G H edge X Y (formula T (T.policy j)) (regular T good (T.policy j) l)
        (visible_spelled T.entry (Carried N p q r G H edge X Y) (T.policy j) (λ k kl e. carried k (omega arith) e))
        (target v) (target (p v)) u (among_alone N 0 v vl) (among_alone N 0 (p v) (r.new v vl)) ul
        (λ x f. rw (policy_target T good j jl x f))

    operand-now : (n : ℕ) → n < T.entries → (k : ℕ) → (g h : Assignment) (m : ℕ) → Among N g → Among N h → m < N →
        ((x : ℕ) → free (below T.entry n k) x ≡ true → h x ≡ p (g x)) →
        holds_now N H Y (below T.entry n k) h (p m) ≡ holds_now N G X (below T.entry n k) g m
    operand-now n l k =
        now_renumbered N p q r G H edge X Y (below T.entry n k) (regular_below T good n (omega arith) k)
        (visible_below T.entry (Carried N p q r G H edge X Y) n (λ j jl e. carried j (omega arith) e) k)

    operand_carried : (n : ℕ) → n < T.entries → is_past (T.entry n).op ≡ true → (j : ℕ) →
        ((x : ℕ) → free (below T.entry n j) x ≡ true → free (formula T n) x ≡ true) → (i k : ℕ) → inside N (columns (formula T n)) i k ≡ true →
        operand_now T H n j Y i k ≡ operand_now T G n j X (word_under (columns (formula T n)) q i k) (bit_under (columns (formula T n)) q i k)
    operand_carried n l e j Free-in i k o =
        let cs : List ℕ = columns (formula T n) in
        let fit = (good.entry n l).columns-fit e in
        let w : ℕ = word_under cs q i k in
        let b : ℕ = bit_under cs q i k in
        let there = under_inside N q r.old cs i k fit o in
        let same : member (formula T n) w ≡ q (member (formula T n) i) = under_member N q r.old cs i k fit o in
        ap (holds_now N H Y (below T.entry n j) (standing (formula T n) i k)) (sym (ap p same ∙ r.forth (member (formula T n) i)))
        ∙ operand-now n l j (standing (formula T n) w b) (standing (formula T n) i k) (member (formula T n) w)
        (inside_among N cs w b there) (inside_among N cs i k o) (inside_member N cs w b there)
        (λ x f. sym (ap p (under_standing N q r.old cs i k fit o x (column_free T good n l x (Free-in x f))) ∙ r.forth (standing (formula T n) i k x)))

module _ (T : Terms) (good : Good T) (p q : ℕ → ℕ) (r : Renumbering T.members p q) (G H : Graph) (edge : (l a b : ℕ) → H l a b ≡ G l (q a) (q b)) where
  prev_carried : (X Y : Tables) → Carry T q X Y → LevelTables T X → Carry T q (prev_tables T G T.entries X) (prev_tables T H T.entries Y)
  prev_carried X Y carry level n l e i k o = by_kind (T.entry n).op e six seven
    where
      t : ℕ
      t = number T.entry n

      w : ℕ
      w = word_under (columns (formula T n)) q i k

      b : ℕ
      b = bit_under (columns (formula T n)) q i k

      six : (T.entry n).op ≡ 6 → prev_tables T H T.entries Y t i k ≡ prev_tables T G T.entries X t w b
      six z =
          prev_worked T H good T.entries (omega arith) Y n l z i k o
          ∙ operand_carried T good p q r G H edge X Y carry level n l e (T.entry n).a (free_prev T n z) i k o
          ∙ sym (prev_worked T G good T.entries (omega arith) X n l z w b
          (under_inside T.members q r.old (columns (formula T n)) i k ((good.entry n l).columns-fit e) o))

      seven : (T.entry n).op ≡ 7 → prev_tables T H T.entries Y t i k ≡ prev_tables T G T.entries X t w b
      seven z = prev_keeps T H T.entries Y n z i k ∙ carry n l e i k o ∙ sym (prev_keeps T G T.entries X n z w b)

  since_step_carried : (X Y : Tables) → Carry T q X Y → LevelTables T X → (n : ℕ) → n < T.entries → Carry T q (since_step T G n X) (since_step T H n Y)
  since_step_carried X Y carry level n l j jl e i k o = by_op (eqb (T.entry n).op 7) refl
    where
      s : ℕ
      s = number T.entry j

      t : ℕ
      t = number T.entry n

      w : ℕ → ℕ
      w d = word_under (columns (formula T d)) q i k

      b : ℕ → ℕ
      b d = bit_under (columns (formula T d)) q i k

      B : ℕ → ℕ → Bool
      B = since_bits T G n X

      C : ℕ → ℕ → Bool
      C = since_bits T H n Y

      bits : (T.entry n).op ≡ 7 → inside T.members (columns (formula T n)) i k ≡ true → C i k ≡ B (w n) (b n)
      bits z here =
          let past : is_past (T.entry n).op ≡ true = rw z in
          ap₂ ◌||◌ (operand_carried T good p q r G H edge X Y carry level n l past (T.entry n).b (free_since_b T n z) i k here)
          (ap₂ ◌&&◌ (operand_carried T good p q r G H edge X Y carry level n l past (T.entry n).a (free_since_a T n z) i k here)
          (carry n l past i k here))

      by_table : (T.entry n).op ≡ 7 → (d : Bool) → eqb s t ≡ d → cond d (C i k) (Y s i k) ≡ cond d (B (w j) (b j)) (X s (w j) (b j))
      by_table z true f =
          let same : j ≡ n = number_apart T.entry j n e (rw z) (eqb-true s t f) in
          subst (λ d. inside T.members (columns (formula T d)) i k ≡ true → C i k ≡ B (w d) (b d)) (sym same) (bits z) o
      by_table z false f = carry j jl e i k o

      by_op : (d : Bool) → eqb (T.entry n).op 7 ≡ d → cond d (store t C Y) Y s i k ≡ cond d (store t B X) X s (w j) (b j)
      by_op true z = by_table (eqb-true (T.entry n).op 7 z) (eqb s t) refl
      by_op false z = carry j jl e i k o

  since_carried : (X Y : Tables) → Carry T q X Y → LevelTables T X → (n : ℕ) → n ≤ T.entries → Carry T q (since_tables T G n X) (since_tables T H n Y)
  unfolding since_tables
  since_carried X Y carry level zero l = carry
  since_carried X Y carry level (suc n) l =
      since_step_carried (since_tables T G n X) (since_tables T H n Y) (since_carried X Y carry level n (omega arith))
      (since_level T good G X level n (omega arith)) n l

-- ---- runs

module _ (T : Terms) (good : Good T) (p q : ℕ → ℕ) (r : Renumbering T.members p q) where
  -- S' is S renumbered, at members, and S keeps the layout.
  pub record Matched (S S' : State) : Type 0 where
    pub now : S'.now ≡ renumber_moment p q S.now
    pub tables : Carry T q S.table S'.table
    pub level : LevelTables T S.table

  graph_matched : (M M' : Moment) → M' ≡ renumber_moment p q M → (l a b : ℕ) → graph T M' l a b ≡ graph T M l (q a) (q b)
  graph_matched M M' e l a b = ap (λ (L : Moment). graph T L l a b) e ∙ graph_renumbered T p q r M l a b

  pub decide_matched : (S S' : State) → Matched S S' → (j u v : ℕ) → j < T.events → u < T.members → v < T.members →
      decide_now T S' j (p u) (p v) ≡ decide_now T S j u v
  decide_matched S S' m j u v jl ul vl =
      policy_carried T good p q r (graph T S.now) (graph T S'.now) (graph_matched S.now S'.now m.now) S.table S'.table
      m.tables m.level j jl u v ul vl

  pub advance_matched : (S S' : State) → Matched S S' → (M : Moment) → Matched (advance T S M) (advance T S' (renumber_moment p q M))
  unfolding advance
  advance_matched S S' m M = record {
    now = refl;
    tables = since_carried T good p q r (graph T M) (graph T (renumber_moment p q M)) (graph_renumbered T p q r M) X Y
        (prev_carried T good p q r (graph T S.now) (graph T S'.now) (graph_matched S.now S'.now m.now) S.table S'.table m.tables m.level)
        level T.entries (omega arith);
    level = since_level T good (graph T M) X level T.entries (omega arith);
  }
    where
      X : Tables
      X = prev_tables T (graph T S.now) T.entries S.table

      Y : Tables
      Y = prev_tables T (graph T S'.now) T.entries S'.table

      level : LevelTables T X
      level = prev_level T good (graph T S.now) S.table m.level
