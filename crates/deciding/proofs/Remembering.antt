-- Laws of remembered rows: what the present meaning reads, what a slot says after it is used, and
-- what deciding leaves of a memo.
use Prim.Native.Nat.{ℕ, ◌+◌, ◌*◌, ◌<◌, ◌≤◌}
use native.Mathlib.Omega.{arith}
use mathlib.Core.Path.{◌≡◌, refl, sym, ap, ap₂, ◌∙◌, subst}
use mathlib.Core.Bool.{Bool, true, false, cond, not, ◌&&◌, ◌||◌, true≢false, and-true, and-false}
use mathlib.Core.List.{List, [], ◌∷◌}
use mathlib.Core.Logic.{⊎_elim, inl, inr}
use lib.Bits.{bit_and}
use lib.Dec.{eqb, ltb, leb}
use lib.ListN.{length, get_or}
use borrow.Author.Tests.{eq-eqb, eqb-true, eqb-false, lt-ltb, ltb-true, ltb-false}
use Rattle.std.specs.declared.option.Option.{Option}
use Rattle.std.specs.Prelude.{Some, None, MatchOption, IfSome}
use Rattle.sets.specs.Sets.{bit}
use Rattle.sets.proofs.Finite.{any_cong, count_cong, and_left, and_right, and_both, or_left, or_right, or_cases, not_both, is_false, and_under}
use Rattle.sets.proofs.Bits.{bit-or, bit_zero, bit-and}
use Rattle.theory.specs.Formula.{Formula, columns}
use Rattle.theory.specs.Formula.Formula.{top, var, neg, or, out, into, prev, since, bind, at, reach, many}
use Rattle.theory.specs.Meaning.{Graph, Assignment, assign, alone}
use Rattle.theory.specs.Terms.{Terms, formula}
use Rattle.theory.specs.Tables.{Tables, recalled, holds_now}
use Rattle.theory.proofs.Places.{In, place_cong}
use Rattle.deciding.specs.private.Rows.{opened, now_at, cell, Rows, Vars}
use Rattle.deciding.specs.private.Memo.{is_one, reads, slot_of, have_of, reads_of, Under, Slot, Memo, Grown, Apart, Fresh, Missing, Stored, column_of, knows, asks, shows}

-- ---- the variables that are read are all that counts
one_in : (cs : List ℕ) (x : ℕ) → In x cs → is_one cs x ≡ true
unfolding is_one
one_in [] x i = absurd i
one_in (y ∷ ys) x (inl e) = or_left (eqb x y) (is_one ys x) (eq-eqb x y e)
one_in (y ∷ ys) x (inr i) = or_right (eqb x y) (is_one ys x) (one_in ys x i)

module _ (N : ℕ) (G : Graph) (X : Tables) where
  reads_recalled : (t : ℕ) (cs : List ℕ) (g g' : Assignment) (m : ℕ) → ((x : ℕ) → is_one cs x ≡ true → g x ≡ g' x) → recalled X t cs g m ≡ recalled X t cs g' m
  reads_recalled t cs g g' m h = let p = place_cong cs g' g m (λ x i. h x (one_in cs x i)) in ap₂ (X t) p.0 p.1

  now_reads : (f : Formula) (g g' : Assignment) (m : ℕ) → ((x : ℕ) → reads f x ≡ true → g x ≡ g' x) → holds_now N G X f g m ≡ holds_now N G X f g' m
  unfolding holds_now reads
  now_reads top g g' m h = refl
  now_reads (var x) g g' m h = ap (eqb m) (h x (eq-eqb x x refl))
  now_reads (neg f) g g' m h = ap not (now_reads f g g' m h)
  now_reads (or f k) g g' m h =
      ap₂ ◌||◌ (now_reads f g g' m (λ x q. h x (or_left (reads f x) (reads k x) q))) (now_reads k g g' m (λ x q. h x (or_right (reads f x) (reads k x) q)))
  now_reads (out l f) g g' m h = any_cong N (λ k kl. ap (λ (b : Bool). G l m k && b) (now_reads f g g' k h))
  now_reads (into l f) g g' m h = any_cong N (λ k kl. ap (λ (b : Bool). G l k m && b) (now_reads f g g' k h))
  now_reads (prev t f) g g' m h = reads_recalled t (columns (prev t f)) g g' m h
  now_reads (since t f k) g g' m h = reads_recalled t (columns (since t f k)) g g' m h
  now_reads (bind y f) g g' m h = now_reads f (assign g y m) (assign g' y m) m (λ x q. go x q (eqb x y) refl)
    where
      go : (x : ℕ) → reads f x ≡ true → (c : Bool) → eqb x y ≡ c → cond c m (g x) ≡ cond c m (g' x)
      go x q true e = refl
      go x q false e = h x (and_both (not (eqb x y)) (reads f x) (ap not e) q)
  now_reads (at y f) g g' m h =
      now_reads f g g' (g y) (λ x q. h x (or_right (eqb x y) (reads f x) q))
      ∙ ap (holds_now N G X f g') (h y (or_left (eqb y y) (reads f y) (eq-eqb y y refl)))
  now_reads (reach y f k) g g' m h = any_cong N (λ j jl. ap (λ (b : Bool). holds_now N G X f (alone y j) m && b) (now_reads k g g' j h))
  now_reads (many l f n) g g' m h = ap (leb n) (count_cong N (λ k kl. ap (λ (b : Bool). G l m k && b) (now_reads f g g' k h)))

-- What stands for a variable, with another open.
pick : (b : ℕ) (c d : Bool) {u u' : ℕ} → (d ≡ false → u ≡ u') → (d ≡ true → c ≡ false → u ≡ u') → cond (c && d) b u ≡ cond (c && d) b u'
pick b true true h k = refl
pick b true false h k = h refl
pick b false true h k = k refl refl
pick b false false h k = h refl

other : (c d : Bool) (b u : ℕ) → c ≡ false → cond (c && d) b u ≡ u
other true d b u e = absurd (true≢false e)
other false d b u e = refl

itself : (c d : Bool) (u v : ℕ) → (c ≡ true → u ≡ v) → cond (c && d) u v ≡ v
itself true true u v h = h refl
itself true false u v h = refl
itself false d u v h = refl

twice : (c n : Bool) → (c && (c && n)) ≡ (c && n)
twice true n = refl
twice false n = refl

-- Every variable, and what is none, stands for a member.
stands : {N : ℕ} {g : Assignment} → Vars N g → (z : ℕ) → g z < N
stands {N} {g} v z = go (ltb z 16) refl
  where
    go : (c : Bool) → ltb z 16 ≡ c → g z < N
    go true e = v.low z (ltb-true z 16 e)
    go false e = let some : g 0 < N = v.low 0 (omega arith) in rw (v.high z (ltb-false z 16 e)) (omega arith)

module _ (T : Terms) (rel past : List ℕ) (few : T.members < 65) where
  now_as : (g g' : Assignment) (k m : ℕ) → ((y : ℕ) → reads (formula T k) y ≡ true → g y ≡ g' y) → now_at T rel past g k m ≡ now_at T rel past g' k m
  unfolding now_at
  now_as g g' k m h = now_reads T.members _ _ (formula T k) g g' m h

  cell_inside : (g : Assignment) (x k a b : ℕ) → (ltb b T.members && cell T rel past g x k a b) ≡ cell T rel past g x k a b
  unfolding cell
  cell_inside g x k a b = twice (ltb b T.members) _

  -- ---- a slot
  module _ {k : ℕ} {s : List ℕ} (h : Slot T rel past k s) where
    -- With the column open, what it stands for does not count.
    column_as : {g g' : Assignment} → Vars T.members g → Vars T.members g' → Under s g → Under s g' → (a b : ℕ)
        → cell T rel past g (column_of s) k a b ≡ cell T rel past g' (column_of s) k a b
    unfolding cell
    column_as {g} {g'} v v' u u' a b =
        ap (λ (z : Bool). ltb b T.members && z)
        (now_as (opened g (column_of s) b) (opened g' (column_of s) b) k a
        (λ y q. pick b (eqb y (column_of s)) (ltb y 16)
        (λ e. v.high y (ltb-false y 16 e) ∙ sym (v'.high y (ltb-false y 16 e)))
        (λ e n. sym (u y (ltb-true y 16 e) (h.covers y q) n) ∙ u' y (ltb-true y 16 e) (h.covers y q) n)))

    -- What is open, but not read, does not count.
    closed_cell : (g : Assignment) (x : ℕ) → bit (reads_of s) x ≡ false → (a b : ℕ) → cell T rel past g x k a b ≡ (ltb b T.members && now_at T rel past g k a)
    unfolding cell
    closed_cell g x n a b =
        ap (λ (z : Bool). ltb b T.members && z)
        (now_as (opened g x b) g k a (λ y q. other (eqb y x) (ltb y 16) b (g y) (is_false (eqb y x) (λ e.
        not_both (bit (reads_of s) x) (subst (λ (z : ℕ). bit (reads_of s) z ≡ true) (eqb-true y x e) (h.covers y q)) n))))

    -- The bit of what the column stands for.
    own_cell : (g : Assignment) → (a : ℕ) → cell T rel past g (column_of s) k a (g (column_of s)) ≡ (ltb (g (column_of s)) T.members && now_at T rel past g k a)
    unfolding cell
    own_cell g a =
        ap (λ (z : Bool). ltb (g (column_of s)) T.members && z)
        (now_as (opened g (column_of s) (g (column_of s))) g k a
        (λ y q. itself (eqb y (column_of s)) (ltb y 16) (g (column_of s)) (g y) (λ e. ap g (sym (eqb-true y (column_of s) e)))))

    asked_cell : (g : Assignment) (x : ℕ) → (bit (reads_of s) x ≡ true → column_of s ≡ x) → (a b : ℕ) → asks s g x b ≡ true
        → cell T rel past g x k a b ≡ cell T rel past g (column_of s) k a b
    asked_cell g x col a b = go (bit (reads_of s) x) refl
      where
        go : (c : Bool) → bit (reads_of s) x ≡ c → cond c (ltb b 64) (ltb b 64 && eqb b (g (column_of s))) ≡ true
            → cell T rel past g x k a b ≡ cell T rel past g (column_of s) k a b
        go true e q = ap (λ (z : ℕ). cell T rel past g z k a b) (sym (col e))
        go false e q =
            let is : b ≡ g (column_of s) = eqb-true b (g (column_of s)) (and_right (ltb b 64) (eqb b (g (column_of s))) q) in
            closed_cell g x e a b ∙ ap (λ (z : ℕ). ltb z T.members && now_at T rel past g k a) is
            ∙ sym (own_cell g a) ∙ ap (λ (z : ℕ). cell T rel past g (column_of s) k a z) (sym is)

  missing_slot : {g : Assignment} {x want need k : ℕ} {s s' : List ℕ} → Slot T rel past k s → Missing g x want need s s' → Slot T rel past k s'
  missing_slot {g} {x} {want} {need} {k} {s} {s'} h q = record {
    covers = λ y r. ap (λ (w : ℕ). bit w y) q.variables ∙ h.covers y r;
    members = λ a e. h.members a (subst (λ (z : List ℕ). bit (have_of z) a ≡ true) (q.same a e) e);
    right = λ g' v u a b e.
        let same : s' ≡ s = q.same a (and_left (bit (have_of s') a) _ e) in
        subst (λ (z : List ℕ). bit (get_or z a 0) b ≡ cell T rel past g' (column_of z) k a b) (sym same)
        (h.right g' v (subst (λ (z : List ℕ). Under z g') same u) a b (subst (λ (z : List ℕ). knows z a b ≡ true) same e));
  }

  module _ {g : Assignment} (x : ℕ) {all want need k : ℕ} {s r s' r' : List ℕ} (v : Vars T.members g) (wanted : (a : ℕ) → bit want a ≡ true → a < T.members)
      (all-is : (b : ℕ) → bit all b ≡ ltb b T.members) (h : Slot T rel past k s) (col : bit (reads_of s) x ≡ true → column_of s ≡ x) (under : Under s g)
      (within : (a : ℕ) → bit need a ≡ true → bit want a ≡ true)
      (known : (a : ℕ) → bit want a ≡ true → bit need a ≡ false → (b : ℕ) → asks s g x b ≡ true → knows s a b ≡ true)
      (d : Rows need (cell T rel past g x k) r) (q : Stored g x all need want s r s' r') where
    low : (a : ℕ) → a < T.members → a < 64
    low a l = omega arith

    same_under : {g' : Assignment} → Under s' g' → Under s g'
    same_under u y l t n =
        sym (q.put.values y l) ∙ u y l (ap (λ (w : ℕ). bit w y) q.put.variables ∙ t) (ap (eqb y) q.put.column ∙ n)

    row_is : (a b : ℕ) → a < T.members → (c : Bool) → (bit need a && bit q.ask b) ≡ c → bit (get_or s' a 0) b ≡ cond c (bit (get_or r a 0) b) (bit (get_or s a 0) b)
    row_is a b l c e = q.put.rows a b (low a l) ∙ ap (λ (z : Bool). cond z (bit (get_or r a 0) b) (bit (get_or s a 0) b)) e

    pub stored_slot : Slot T rel past k s'
    stored_slot = record {
      covers = λ y e. ap (λ (w : ℕ). bit w y) q.put.variables ∙ h.covers y e;
      members = members;
      right = λ g' v' u a b e.
          go g' v' (same_under u) a b (members a (and_left (bit (have_of s') a) _ e)) e (bit need a && bit q.ask b) refl
          ∙ ap (λ (z : ℕ). cell T rel past g' z k a b) (sym q.put.column);
    }
      where
        members : (a : ℕ) → bit (have_of s') a ≡ true → a < T.members
        members a e = ⊎_elim (λ t. h.members a t) (λ t. wanted a (within a t))
            (or_cases (bit (have_of s) a) (bit need a) (sym (bit-or (have_of s) need a) ∙ ap (λ (w : ℕ). bit w a) (sym q.put.have) ∙ e))

        go : (g' : Assignment) → Vars T.members g' → Under s g' → (a b : ℕ) → a < T.members → knows s' a b ≡ true
            → (c : Bool) → (bit need a && bit q.ask b) ≡ c → bit (get_or s' a 0) b ≡ cell T rel past g' (column_of s) k a b
        go g' v' u a b l e true t =
            row_is a b l true t ∙ d.bits a b (and_left (bit need a) _ t)
            ∙ asked_cell h g x col a b (sym (q.asked b) ∙ and_right (bit need a) (bit q.ask b) t)
            ∙ column_as h v v' under u a b
        go g' v' u a b l e false t =
            row_is a b l false t
            ∙ h.right g' v' u a b (⊎_elim (λ z. z) (λ z. absurd (not_both (bit need a && bit q.ask b) z t))
            (or_cases (knows s a b) (bit need a && bit q.ask b) (sym (q.put.known a b (low a l)) ∙ e)))

    stored_rows : Rows want (cell T rel past g x k) r'
    stored_rows = record { long = q.long; bits = λ a b w. go a b w (bit need a) refl }
      where
        -- A bit that is known.
        had : (a b : ℕ) → bit want a ≡ true → bit need a ≡ false → asks s g x b ≡ true → bit (get_or s' a 0) b ≡ cell T rel past g (column_of s) k a b
        had a b w t e = row_is a b (wanted a w) false (ap (λ (z : Bool). z && bit q.ask b) t) ∙ h.right g v under a b (known a w t b e)

        spread : (n : Bool) (b : ℕ) → bit (cond n all 0) b ≡ (ltb b T.members && n)
        spread true b = all-is b ∙ sym (and-true (ltb b T.members))
        spread false b = bit_zero b ∙ sym (and-false (ltb b T.members))

        low-is : (b : ℕ) → ltb b T.members ≡ true → ltb b 64 ≡ true
        low-is b e = lt-ltb b 64 (let l : b < T.members = ltb-true b T.members e in omega arith)

        kept : (a b : ℕ) → bit want a ≡ true → bit need a ≡ false → (c : Bool) → bit (reads_of s) x ≡ c
            → bit (cond c (bit_and all (get_or s' a 0)) (cond (bit (get_or s' a 0) (g (column_of s))) all 0)) b ≡ cell T rel past g x k a b
        kept a b w t true e =
            bit-and all (get_or s' a 0) b ∙ ap (λ (z : Bool). z && bit (get_or s' a 0) b) (all-is b)
            ∙ and_under (ltb b T.members) (bit (get_or s' a 0) b) (cell T rel past g x k a b) (λ l.
            had a b w t (ap (λ (z : Bool). cond z (ltb b 64) (ltb b 64 && eqb b (g (column_of s)))) e ∙ low-is b l)
            ∙ ap (λ (z : ℕ). cell T rel past g z k a b) (col e))
            ∙ cell_inside g x k a b
        kept a b w t false e =
            let c : ℕ = g (column_of s) in
            let here : ltb c T.members ≡ true = lt-ltb c T.members (stands v (column_of s)) in
            ap (λ (z : Bool). bit (cond z all 0) b)
            (had a c w t (ap (λ (z : Bool). cond z (ltb c 64) (ltb c 64 && eqb c c)) e ∙ and_both (ltb c 64) (eqb c c) (low-is c here) (eq-eqb c c refl))
            ∙ own_cell h g a ∙ ap (λ (z : Bool). z && now_at T rel past g k a) here)
            ∙ spread (now_at T rel past g k a) b ∙ sym (closed_cell h g x e a b)

        go : (a b : ℕ) → bit want a ≡ true → (c : Bool) → bit need a ≡ c → bit (get_or r' a 0) b ≡ cell T rel past g x k a b
        go a b w true t =
            ap (λ (z : ℕ). bit z b) (q.out a (low a (wanted a w))
            ∙ ap₂ (λ (y z : Bool). cond (y && not z) (shows s g x all (get_or s' a 0)) (get_or r a 0)) w t) ∙ d.bits a b t
        go a b w false t =
            ap (λ (z : ℕ). bit z b) (q.out a (low a (wanted a w))
            ∙ ap₂ (λ (y z : Bool). cond (y && not z) (shows s g x all (get_or s' a 0)) (get_or r a 0)) w t)
            ∙ kept a b w t (bit (reads_of s) x) refl

-- ---- what `missing` leaves, where the rows are kept in a slot or not
abbrev AfterMissing : Assignment → (x want need : ℕ) → (m m₁ : List ℕ) → Option ℕ → Type 0
AfterMissing g x want need m m₁ slot = MatchOption slot ((need ≡ want) × (m₁ ≡ m)) (λ k. Missing g x want need (slot_of k m) (slot_of k m₁) × Apart k m m₁)

pub needed : (g : Assignment) (x want need : ℕ) (m m₁ : List ℕ) (slot : Option ℕ) → AfterMissing g x want need m m₁ slot → (a : ℕ) → bit need a ≡ true → bit want a ≡ true
needed g x want need m m₁ (Some k) miss a e = miss.0.within a e
needed g x want need m m₁ None plain a e = ap (λ (w : ℕ). bit w a) (sym plain.0) ∙ e

-- ---- a memo
module _ {T : Terms} {rel past : List ℕ} where
  pub memo_lower : {n n' : ℕ} {m : List ℕ} → n' ≤ n → Memo T rel past n m → Memo T rel past n' m
  memo_lower l h = record { slot = λ k kl f. h.slot k (omega arith) f }

  pub grown_same : {n : ℕ} {m : List ℕ} → Memo T rel past n m → Grown T rel past n m m
  grown_same h = record { memo = h; above = record { long = refl; same = λ k l. refl } }

  pub grown_then : {n : ℕ} {m m' m'' : List ℕ} → Grown T rel past n m m' → Grown T rel past n m' m'' → Grown T rel past n m m''
  grown_then f h = record {
    memo = h.memo;
    above = record { long = h.above.long ∙ f.above.long; same = λ k l. h.above.same k l ∙ f.above.same k l };
  }

  -- What entries below n leave is right below n' too, where nothing else changed.
  pub grown_up : {n n' : ℕ} {m m' : List ℕ} → n ≤ n' → Memo T rel past n' m → Grown T rel past n m m' → Grown T rel past n' m m'
  grown_up {n} {n'} {m} {m'} l h q = record {
    memo = record { slot = λ k kl f. go k kl f (ltb k n) refl };
    above = record { long = q.above.long; same = λ k kl. q.above.same k (omega arith) };
  }
    where
      go : (k : ℕ) → k < n' → 133 * k + 133 ≤ length m' → (c : Bool) → ltb k n ≡ c → Slot T rel past k (slot_of k m')
      go k kl f true e = q.memo.slot k (ltb-true k n e) f
      go k kl f false e =
          subst (λ (z : List ℕ). Slot T rel past k z) (sym (q.above.same k (ltb-false k n e)))
          (h.slot k kl (subst (λ (z : ℕ). 133 * k + 133 ≤ z) q.above.long f))

  -- One slot changed.
  grown_slot : (n : ℕ) {m m' : List ℕ} → Memo T rel past (n + 1) m → Apart n m m'
      → (133 * n + 133 ≤ length m → Slot T rel past n (slot_of n m')) → Grown T rel past (n + 1) m m'
  grown_slot n {m} {m'} h q new = record {
    memo = record { slot = λ k kl f. go k kl (subst (λ (z : ℕ). 133 * k + 133 ≤ z) q.long f) (eqb k n) refl };
    above = record { long = q.long; same = λ k kl. q.same k (λ e. let z : ⊥ = omega arith in z) };
  }
    where
      go : (k : ℕ) → k < n + 1 → 133 * k + 133 ≤ length m → (c : Bool) → eqb k n ≡ c → Slot T rel past k (slot_of k m')
      go k kl f true e =
          let is : k ≡ n = eqb-true k n e in
          subst (λ (j : ℕ). Slot T rel past j (slot_of j m')) (sym is) (new (subst (λ (j : ℕ). 133 * j + 133 ≤ length m) is f))
      go k kl f false e =
          subst (λ (z : List ℕ). Slot T rel past k z) (sym (q.same k (eqb-false k n e))) (h.slot k kl f)

  -- An entry whose rows are kept: the slot is made one for g and x, the entry is worked out, and its rows are stored.
  decided_kept : {g : Assignment} {x all want need n : ℕ} {m m₁ m₂ m₃ r r' : List ℕ} → T.members < 65 → ((b : ℕ) → bit all b ≡ ltb b T.members) → Vars T.members g
      → ((a : ℕ) → bit want a ≡ true → a < T.members) → 133 * n + 133 ≤ length m → Memo T rel past (n + 1) m
      → Missing g x want need (slot_of n m) (slot_of n m₁) → Apart n m m₁ → Rows need (cell T rel past g x n) r → Grown T rel past n m₁ m₂
      → Stored g x all need want (slot_of n m₂) r (slot_of n m₃) r' → Apart n m₂ m₃
      → Rows want (cell T rel past g x n) r' × Grown T rel past (n + 1) m m₃
  decided_kept {g} {x} {all} {want} {need} {n} {m} {m₁} {m₂} {m₃} {r} {r'} few all-is v wanted fits h miss a₁ d grow store a₂ =
      let s₁ : Slot T rel past n (slot_of n m₁) = missing_slot T rel past few (h.slot n (omega arith) fits) miss in
      let g₁ : Grown T rel past (n + 1) m m₁ = grown_slot n h a₁ (λ f. s₁) in
      let g₂ : Grown T rel past (n + 1) m₁ m₂ = grown_up (omega arith) g₁.memo grow in
      let same : slot_of n m₂ ≡ slot_of n m₁ = grow.above.same n (omega arith) in
      let st : Stored g x all need want (slot_of n m₁) r (slot_of n m₃) r' = subst (λ (z : List ℕ). Stored g x all need want z r (slot_of n m₃) r') same store in (
        stored_rows T rel past few x v wanted all-is s₁ miss.column miss.under miss.within miss.known d st,
        grown_then g₁ (grown_then g₂ (grown_slot n g₂.memo a₂ (λ f. stored_slot T rel past few x v wanted all-is s₁ miss.column miss.under miss.within miss.known d st))),
      )

  -- The slots below n, where that of n is changed.
  memo_apart : (n : ℕ) {m m' : List ℕ} → Memo T rel past (n + 1) m → Apart n m m' → Memo T rel past n m'
  memo_apart n {m} {m'} h q = record {
    slot = λ k kl f. subst (λ (z : List ℕ). Slot T rel past k z) (sym (q.same k (λ e. let z : ⊥ = omega arith in z)))
        (h.slot k (omega arith) (subst (λ (z : ℕ). 133 * k + 133 ≤ z) q.long f));
  }

  module _ (g : Assignment) (x want need n : ℕ) (m m₁ : List ℕ) where
    pub memo_below : (slot : Option ℕ) → IfSome slot (λ k. (k ≡ n) × (133 * k + 133 ≤ length m)) → Memo T rel past (n + 1) m
        → AfterMissing g x want need m m₁ slot → Memo T rel past n m₁
    memo_below (Some k) fits h miss = memo_apart n h (subst (λ (j : ℕ). Apart j m m₁) fits.0 miss.1)
    memo_below None fits h plain = memo_lower (omega arith) (subst (λ (z : List ℕ). Memo T rel past (n + 1) z) (sym plain.1) h)

    -- An entry is decided, its rows kept in a slot, that of its number, or not.
    pub decided : (all : ℕ) (m₂ m₃ r r' : List ℕ) (slot : Option ℕ) → T.members < 65 → ((b : ℕ) → bit all b ≡ ltb b T.members) → Vars T.members g
        → ((a : ℕ) → bit want a ≡ true → a < T.members) → IfSome slot (λ k. (k ≡ n) × (133 * k + 133 ≤ length m)) → Memo T rel past (n + 1) m
        → AfterMissing g x want need m m₁ slot → Rows need (cell T rel past g x n) r → Grown T rel past n m₁ m₂
        → MatchOption slot ((m₃ ≡ m₂) × (r' ≡ r)) (λ k. Stored g x all need want (slot_of k m₂) r (slot_of k m₃) r' × Apart k m₂ m₃)
        → Rows want (cell T rel past g x n) r' × Grown T rel past (n + 1) m m₃
    decided all m₂ m₃ r r' (Some k) few all-is v wanted fits h miss d grow store =
        let fit = subst (λ (j : ℕ). 133 * j + 133 ≤ length m) fits.0 fits.1 in
        let a₁ = subst (λ (j : ℕ). Missing g x want need (slot_of j m) (slot_of j m₁) × Apart j m m₁) fits.0 miss in
        let a₂ = subst (λ (j : ℕ). Stored g x all need want (slot_of j m₂) r (slot_of j m₃) r' × Apart j m₂ m₃) fits.0 store in
        decided_kept few all-is v wanted fit h a₁.0 a₁.1 d grow a₂.0 a₂.1
    decided all m₂ m₃ r r' None few all-is v wanted fits h plain d grow same = (
      subst (λ (z : List ℕ). Rows want (cell T rel past g x n) z) (sym same.1)
          (subst (λ (w : ℕ). Rows w (cell T rel past g x n) r) plain.0 d),
      subst (λ (z : List ℕ). Grown T rel past (n + 1) m z) (sym same.0)
          (grown_up (omega arith) h (subst (λ (z : List ℕ). Grown T rel past n z m₂) plain.1 grow)),
    )

  -- ---- slots with no rows
  pub empty_slot : (k : ℕ) {s : List ℕ} → have_of s ≡ 0 → ((y : ℕ) → reads (formula T k) y ≡ true → bit (reads_of s) y ≡ true) → Slot T rel past k s
  empty_slot k {s} e h = record {
    covers = h;
    members = λ a q. absurd (true≢false (sym q ∙ ap (λ (w : ℕ). bit w a) e ∙ bit_zero a));
    right = λ g v u a b q. absurd (true≢false (sym (and_left (bit (have_of s) a) _ q) ∙ ap (λ (w : ℕ). bit w a) e ∙ bit_zero a));
  }

pub no_slots : {T : Terms} {rel past : List ℕ} (n : ℕ) {m : List ℕ} → length m < 133 → Memo T rel past n m
no_slots n l = record { slot = λ k kl f. absurd (let z : ⊥ = omega arith in z) }

pub no_rows : (N n : ℕ) {m : List ℕ} → length m < 133 → Fresh N n m
no_rows N n l = record { none = λ k kl kn f. absurd (let z : ⊥ = omega arith in z) }
