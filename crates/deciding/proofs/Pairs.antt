-- Tables with two columns: their words, filled from rows with the first column bound, and rows read from them.
use Prim.Native.Nat.{ℕ, ◌+◌, ◌*◌, ◌/◌, ◌%◌, ◌≤◌, ◌<◌}
use native.Mathlib.Omega.{arith}
use mathlib.Core.Path.{◌≡◌, refl, sym, ap, ap₂, ◌∙◌, fun_ext}
use mathlib.Core.Bool.{Bool, true, false, cond, ◌&&◌, ◌||◌, and-false, and-true, or-false}
use mathlib.Core.List.{List, [], ◌∷◌}
use lib.Bits.{bit_and}
use lib.Dec.{eqb, ltb}
use lib.ListN.{length, get_or, set, length-set, replicate}
use lib.Seq.{get_or-set_same, get_or-set_other}
use borrow.Author.Tests.{lt-ltb, le-ltb, ltb-true, eq-eqb, ne_eqb, eqb-true, eqb-false}
use Rattle.sets.specs.Sets.{bit}
use Rattle.sets.proofs.Finite.{bool_iff, and_left, and_right, and_both, and_under, below_suc}
use Rattle.sets.proofs.Bits.{bit_zero, bit_mask, bit-and}
use Rattle.theory.specs.Meaning.{Assignment, assign, alone}
use Rattle.theory.specs.Columns.{member_at, standing_at, inside_pair}
use Rattle.theory.specs.Terms.{Terms}
use Rattle.deciding.specs.private.Rows.{table_bit, assigned, opened, now_at, cell, Rows, Table, operand_bits, pair_cell, added_at, AddedRows, Has}
use Rattle.deciding.proofs.Loops.{zeros}

-- ---- rows put into a table

module _ (n b : ℕ) (rows s₀ : List ℕ) where
  abbrev here : (i k : ℕ) → Bool
  here i k = eqb (4 * (i % 4) + k / 16) b && (ltb k 64 && bit (get_or rows (i / 4) 0) (k % 16))

  pub record Putting (s : List ℕ) (a : ℕ) : Type 0 where
    pub step : a ≤ n
    pub long : length s ≡ 64
    pub bits : (i k : ℕ) → bit (get_or s i 0) k ≡ (bit (get_or s₀ i 0) k || (ltb (i / 4) a && here i k))

pub putting : (n b : ℕ) (rows s₀ : List ℕ) → length s₀ ≡ 64 → Putting n b rows s₀ s₀ 0
putting n b rows s₀ l = record {
  step = omega arith;
  long = l;
  bits = λ i k. sym (ap (λ c. bit (get_or s₀ i 0) k || (c && here n b rows s₀ i k)) (le-ltb (i / 4) 0 (omega arith)) ∙ or-false _);
}

pub putting_more : {n b : ℕ} {rows s₀ s : List ℕ} {a : ℕ} (w : ℕ) → n < 17 → b < n → a < n → Putting n b rows s₀ s a →
    ((k : ℕ) → bit w k ≡ (bit (get_or s (4 * a + b / 4) 0) k || (eqb (k / 16) (b % 4) && bit (get_or rows a 0) (k % 16)))) →
    Putting n b rows s₀ (set s (4 * a + b / 4) w) (a + 1)
putting_more {n} {b} {rows} {s₀} {s} {a} w few bl al h t = record {
  step = omega arith;
  long = length-set s (4 * a + b / 4) w ∙ h.long;
  bits = λ i k. go i k (eqb i (4 * a + b / 4)) refl;
}
  where
    -- The word of a and b.
    self : (k : ℕ) → (eqb (k / 16) (b % 4) && bit (get_or rows a 0) (k % 16)) ≡ here n b rows s₀ (4 * a + b / 4) k
    self k =
        let q : (4 * a + b / 4) / 4 ≡ a = omega arith in
        let r : (4 * a + b / 4) % 4 ≡ b / 4 = omega arith in
        bool_iff _ _
        (λ e.
        let z : k / 16 ≡ b % 4 = eqb-true (k / 16) (b % 4) (and_left (eqb (k / 16) (b % 4)) _ e) in
        and_both _ _ (eq-eqb (4 * ((4 * a + b / 4) % 4) + k / 16) b (omega arith))
        (and_both _ _ (lt-ltb k 64 (omega arith)) (rw q (and_right (eqb (k / 16) (b % 4)) _ e))))
        (λ e.
        let z : 4 * ((4 * a + b / 4) % 4) + k / 16 ≡ b = eqb-true (4 * ((4 * a + b / 4) % 4) + k / 16) b (and_left (eqb (4 * ((4 * a + b / 4) % 4) + k / 16) b) _ e) in
        let rest = and_right (eqb (4 * ((4 * a + b / 4) % 4) + k / 16) b) _ e in
        and_both _ _ (eq-eqb (k / 16) (b % 4) (omega arith)) (rw q at (and_right (ltb k 64) (bit (get_or rows ((4 * a + b / 4) / 4) 0) (k % 16)) rest)))

    -- No other word of a has b.
    apart : (i k : ℕ) → (i ≡ 4 * a + b / 4 → ⊥) → (ltb (i / 4) a && here n b rows s₀ i k) ≡ (ltb (i / 4) (a + 1) && here n b rows s₀ i k)
    apart i k ne =
        bool_iff _ _
        (λ e. and_both _ _ (lt-ltb (i / 4) (a + 1) (omega (arith, ltb-true (i / 4) a (and_left (ltb (i / 4) a) _ e)))) (and_right (ltb (i / 4) a) _ e))
        (λ e.
        let p = and_right (ltb (i / 4) (a + 1)) _ e in
        let z : 4 * (i % 4) + k / 16 ≡ b = eqb-true (4 * (i % 4) + k / 16) b (and_left (eqb (4 * (i % 4) + k / 16) b) _ p) in
        let l : k < 64 = ltb-true k 64 (and_left (ltb k 64) _ (and_right (eqb (4 * (i % 4) + k / 16) b) _ p)) in
        let m : i / 4 < a + 1 = ltb-true (i / 4) (a + 1) (and_left (ltb (i / 4) (a + 1)) _ e) in
        and_both _ _ (lt-ltb (i / 4) a (omega arith)) p)

    go : (i k : ℕ) (c : Bool) → eqb i (4 * a + b / 4) ≡ c →
        bit (get_or (set s (4 * a + b / 4) w) i 0) k ≡ (bit (get_or s₀ i 0) k || (ltb (i / 4) (a + 1) && here n b rows s₀ i k))
    go i k true e =
        let j : ℕ = 4 * a + b / 4 in
        let z : i ≡ j = eqb-true i j e in
        let quo : j / 4 ≡ a = omega arith in
        let old : bit (get_or s j 0) k ≡ bit (get_or s₀ j 0) k =
        h.bits j k ∙ ap (λ c. bit (get_or s₀ j 0) k || (c && here n b rows s₀ j k)) (le-ltb (j / 4) a (omega arith)) ∙ or-false _ in
        ap (λ x. bit (get_or (set s j w) x 0) k) z ∙ ap (λ x. bit x k) (get_or-set_same s j w 0 (omega (arith, h.long))) ∙ t k
        ∙ ap₂ ◌||◌ old (self k)
        ∙ ap (λ c. bit (get_or s₀ j 0) k || (c && here n b rows s₀ j k)) (sym (lt-ltb (j / 4) (a + 1) (omega arith)))
        ∙ ap (λ x. bit (get_or s₀ x 0) k || (ltb (x / 4) (a + 1) && here n b rows s₀ x k)) (sym z)
    go i k false e =
        let ne : i ≡ 4 * a + b / 4 → ⊥ = eqb-false i (4 * a + b / 4) e in
        ap (λ x. bit x k) (get_or-set_other s (4 * a + b / 4) i w 0 ne) ∙ h.bits i k
        ∙ ap (λ x. bit (get_or s₀ i 0) k || x) (apart i k ne)

pub putting_all : {n b : ℕ} {rows s₀ s : List ℕ} {a : ℕ} → length s₀ ≡ 64 → (a < n → ⊥) → Putting n b rows s₀ s a → AddedRows n b rows s₀ s
putting_all {n} {b} {rows} {s₀} {s} {a} l d h =
    let e : a ≡ n = omega (arith, h.step) in
    record { long = h.long ∙ sym l; bits = λ i k. h.bits i k ∙ ap (λ x. bit (get_or s₀ i 0) k || (ltb (i / 4) x && here n b rows s₀ i k)) e }

-- ---- a table filled, b by b

-- The words have what p says where the first column stands for a member below b.
pub record Filled (N : ℕ) (p : ℕ → ℕ → Bool) (b : ℕ) (s : List ℕ) : Type 0 where
  pub long : length s ≡ 64
  pub bits : (i k : ℕ) → bit (get_or s i 0) k ≡ (inside_pair N i k && (ltb (4 * (i % 4) + k / 16) b && p i k))

pub filled_none : (N : ℕ) (p : ℕ → ℕ → Bool) (s : List ℕ) → length s ≡ 64 → ((i : ℕ) → get_or s i 0 ≡ 0) → Filled N p 0 s
filled_none N p s l z = record {
  long = l;
  bits = λ i k. ap (λ w. bit w k) (z i) ∙ bit_zero k
      ∙ sym (ap (λ c. inside_pair N i k && (c && p i k)) (le-ltb (4 * (i % 4) + k / 16) 0 (omega arith)) ∙ and-false (inside_pair N i k));
}

filled_more : (N : ℕ) (p q : ℕ → ℕ → Bool) (b : ℕ) (rows s s' : List ℕ) → N < 17 → b < N → Filled N p b s →
    ((a c : ℕ) → a < N → bit (get_or rows a 0) c ≡ (ltb c N && q a c)) →
    ((a c : ℕ) → a < N → c < N → q a c ≡ p (4 * a + b / 4) (16 * (b % 4) + c)) → AddedRows N b rows s s' → Filled N p (b + 1) s'
filled_more N p q b rows s s' few bl f r same add = record {
  long = add.long ∙ f.long;
  bits = λ i k. add.bits i k ∙ ap₂ ◌||◌ (f.bits i k) (new i k)
      ∙ join (inside_pair N i k) (ltb (4 * (i % 4) + k / 16) b) (eqb (4 * (i % 4) + k / 16) b) (p i k)
      ∙ ap (λ c. inside_pair N i k && (c && p i k)) (sym (below_suc (4 * (i % 4) + k / 16) b));
}
  where
    join : (w x y z : Bool) → ((w && (x && z)) || (w && (y && z))) ≡ (w && ((y || x) && z))
    join true true true true = refl
    join true true true false = refl
    join true true false true = refl
    join true true false false = refl
    join true false true z = refl
    join true false false z = refl
    join false x y z = refl

    there : (i k : ℕ) → 4 * (i % 4) + k / 16 ≡ b → k < 64 → i / 4 < N → k % 16 < N → q (i / 4) (k % 16) ≡ p i k
    there i k z l al cl =
        let word : 4 * (i / 4) + b / 4 ≡ i = omega arith in
        let place : 16 * (b % 4) + k % 16 ≡ k = omega arith in
        same (i / 4) (k % 16) al cl ∙ ap₂ p word place

    new : (i k : ℕ) → added_at N b rows i k ≡ (inside_pair N i k && (eqb (4 * (i % 4) + k / 16) b && p i k))
    new i k =
        bool_iff _ _
        (λ e.
        let al : i / 4 < N = ltb-true (i / 4) N (and_left (ltb (i / 4) N) _ e) in
        let e1 = and_right (ltb (i / 4) N) _ e in
        let z : 4 * (i % 4) + k / 16 ≡ b = eqb-true (4 * (i % 4) + k / 16) b (and_left (eqb (4 * (i % 4) + k / 16) b) _ e1) in
        let e2 = and_right (eqb (4 * (i % 4) + k / 16) b) _ e1 in
        let l : k < 64 = ltb-true k 64 (and_left (ltb k 64) _ e2) in
        let e3 = sym (r (i / 4) (k % 16) al) ∙ and_right (ltb k 64) _ e2 in
        let cl : k % 16 < N = ltb-true (k % 16) N (and_left (ltb (k % 16) N) _ e3) in
        and_both _ _
        (and_both _ _ (lt-ltb (i / 4) N al) (and_both _ _ (lt-ltb (4 * (i % 4) + k / 16) N (omega arith)) (and_both _ _ (lt-ltb (k % 16) N cl) (lt-ltb k 64 l))))
        (and_both _ _ (eq-eqb (4 * (i % 4) + k / 16) b z) (sym (there i k z l al cl) ∙ and_right (ltb (k % 16) N) _ e3)))
        (λ e.
        let w = and_left (inside_pair N i k) _ e in
        let al : i / 4 < N = ltb-true (i / 4) N (and_left (ltb (i / 4) N) _ w) in
        let w1 = and_right (ltb (4 * (i % 4) + k / 16) N) _ (and_right (ltb (i / 4) N) _ w) in
        let cl : k % 16 < N = ltb-true (k % 16) N (and_left (ltb (k % 16) N) _ w1) in
        let l : k < 64 = ltb-true k 64 (and_right (ltb (k % 16) N) _ w1) in
        let v = and_right (inside_pair N i k) _ e in
        let z : 4 * (i % 4) + k / 16 ≡ b = eqb-true (4 * (i % 4) + k / 16) b (and_left (eqb (4 * (i % 4) + k / 16) b) _ v) in
        and_both _ _ (lt-ltb (i / 4) N al) (and_both _ _ (eq-eqb (4 * (i % 4) + k / 16) b z) (and_both _ _ (lt-ltb k 64 l)
        (r (i / 4) (k % 16) al ∙ and_both _ _ (lt-ltb (k % 16) N cl) (there i k z l al cl ∙ and_right (eqb (4 * (i % 4) + k / 16) b) _ v)))))

pub filled_all : (N : ℕ) (p : ℕ → ℕ → Bool) (x y : ℕ) (zs s : List ℕ) → Filled N p N s → Table N (x ∷ y ∷ zs) p s
filled_all N p x y zs s f = record {
  long = f.long;
  bits = λ i k. f.bits i k ∙ and_under (inside_pair N i k) _ _
      (λ e. ap (λ c. c && p i k) (and_left (ltb (4 * (i % 4) + k / 16) N) _ (and_right (ltb (i / 4) N) _ e)));
}

-- ---- the rows of an operand with the first column bound to b, and the second open

-- The columns then stand for b and c.
standing_pair : (x y : ℕ) (zs : List ℕ) (a b c : ℕ) → (x ≡ y → ⊥) → y < 16 → b < 16 → c < 16 →
    standing_at (x ∷ y ∷ zs) (4 * a + b / 4) (16 * (b % 4) + c) ≡ opened (alone x b) y c
standing_pair x y zs a b c apart small bl cl = fun_ext (λ z. go z (eqb z x) refl (eqb z y) refl)
  where
    first : 4 * ((4 * a + b / 4) % 4) + (16 * (b % 4) + c) / 16 ≡ b
    first = omega arith

    second : (16 * (b % 4) + c) % 16 ≡ c
    second = omega arith

    go : (z : ℕ) (d : Bool) → eqb z x ≡ d → (e : Bool) → eqb z y ≡ e →
        cond d (4 * ((4 * a + b / 4) % 4) + (16 * (b % 4) + c) / 16) (cond e ((16 * (b % 4) + c) % 16) 0) ≡ cond (e && ltb z 16) c (cond d b 0)
    go z true p true q = absurd (apart (sym (eqb-true z x p) ∙ eqb-true z y q))
    go z true p false q = first
    go z false p true q = second ∙ sym (ap (λ (t : Bool). cond t c 0) (lt-ltb z 16 (let v : z ≡ y = eqb-true z y q in omega arith)))
    go z false p false q = refl

member_pair : (x y : ℕ) (zs : List ℕ) (a b : ℕ) → b < 16 → member_at (x ∷ y ∷ zs) (4 * a + b / 4) ≡ a
member_pair x y zs a b bl = omega arith

-- g is the assignment in which x alone stands for b.
module _ (T : Terms) (rel past : List ℕ) (k x y b : ℕ) (g : Assignment) (few : T.members < 17) (bl : b < T.members) (yl : y < 16) (apart : x ≡ y → ⊥)
    (bound : (z : ℕ) → g z ≡ assign (assigned (replicate 16 0)) x b z) where
  abbrev bits_of : ℕ → ℕ → Bool
  bits_of = operand_bits T rel past (x ∷ y ∷ []) k

  bound_alone : (c : ℕ) → opened g y c ≡ opened (alone x b) y c
  bound_alone c = fun_ext (λ z. ap (λ (v : ℕ). cond (eqb z y && ltb z 16) c v) (bound z ∙ ap (λ (v : ℕ). cond (eqb z x) b v) (zeros 16 z)))

  at_place : (a c : ℕ) → c < T.members → now_at T rel past (opened g y c) k a ≡ bits_of (4 * a + b / 4) (16 * (b % 4) + c)
  unfolding operand_bits
  at_place a c cl =
      ap₂ (λ (h : Assignment) (m : ℕ). now_at T rel past h k m)
      (bound_alone c ∙ sym (standing_pair x y [] a b c apart yl (omega arith) (omega arith))) (sym (member_pair x y [] a b (omega arith)))

  pub pair_more : {all : ℕ} {rows s s' : List ℕ} → Has all (λ m. ltb m T.members) → Rows all (cell T rel past g y k) rows → Filled T.members bits_of b s →
      AddedRows T.members b rows s s' → Filled T.members bits_of (b + 1) s'
  unfolding cell
  pair_more {all} {rows} {s} {s'} h r f add =
      filled_more T.members bits_of (λ a c. now_at T rel past (opened g y c) k a) b rows s s' few bl f
      (λ a c al. r.bits a c (h a ∙ lt-ltb a T.members al)) (λ a c al cl. at_place a c cl) add

-- ---- one row of such a table, by which column is free: 1 the first, 2 the second, else none

abbrev bit_in : List ℕ → (at b c : ℕ) → Bool
bit_in past at b c = bit (get_or past (at + b / 4) 0) (16 * (b % 4) + c)

module _ (past : List ℕ) (at b c free r : ℕ) where
  abbrev pub RowIs : Type 0
  RowIs = (v : ℕ) → v < 16 → bit r v ≡ bit (get_or past (at + cond (eqb free 1) v b / 4) 0) (16 * (cond (eqb free 1) v b % 4) + cond (eqb free 2) v c)

  pub row_shut : (free ≡ 1 → ⊥) → (free ≡ 2 → ⊥) → (t : Bool) → r ≡ cond t 65535 0 → t ≡ bit (get_or past (at + b / 4) 0) (16 * (b % 4) + c) → RowIs
  row_shut n m t e q v l =
      ap (λ x. bit x v) e ∙ go t q
      ∙ sym (ap₂ (λ x y. bit_in past at (cond x v b) (cond y v c)) (ne_eqb free 1 n) (ne_eqb free 2 m))
    where
      go : (t : Bool) → t ≡ bit (get_or past (at + b / 4) 0) (16 * (b % 4) + c) → bit (cond t 65535 0) v ≡ bit (get_or past (at + b / 4) 0) (16 * (b % 4) + c)
      go true q = bit_mask 16 v ∙ lt-ltb v 16 l ∙ q
      go false q = bit_zero v ∙ q

-- ---- the same of a member of want, in the loop that reads such a table

pub pair_read : (past : List ℕ) (t b c free a all r w : ℕ) → ((v : ℕ) → bit all v ≡ true → v < 16) → RowIs past (64 * t + 4 * a) b c free r →
    w ≡ bit_and all r → (v : ℕ) → bit w v ≡ (bit all v && pair_cell past t b c free a v)
unfolding table_bit
pair_read past t b c free a all r w small h e v =
    ap (λ (x : ℕ). bit x v) e ∙ bit-and all r v
    ∙ and_under (bit all v) _ _ (λ q. h v (small v q)
    ∙ ap (λ (i : ℕ). bit (get_or past i 0) (16 * (cond (eqb free 1) v b % 4) + cond (eqb free 2) v c)) (place (cond (eqb free 1) v b / 4)))
  where
    place : (d : ℕ) → 64 * t + 4 * a + d ≡ 64 * t + (4 * a + d)
    place d = omega arith

-- A row cut to 16 bits.
pub cut_row : (row k : ℕ) → bit (bit_and row 65535) (k % 16) ≡ bit row (k % 16)
cut_row row k =
    bit-and row 65535 (k % 16) ∙ ap (λ (c : Bool). bit row (k % 16) && c) (bit_mask 16 (k % 16) ∙ lt-ltb (k % 16) 16 (omega arith)) ∙ and-true (bit row (k % 16))
