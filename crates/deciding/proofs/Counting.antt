-- Loops over the numbers below 64: one that stores a word a turn, and one that puts numbers into a set.
use Prim.Native.Nat.{ℕ, ◌+◌, ◌-◌, ◌*◌, ◌^◌, ◌<◌, ◌≤◌}
use mathlib.Core.Path.{◌≡◌, refl, sym, ap, ap₂, ◌∙◌, subst}
use mathlib.Core.Bool.{Bool, true, false, cond, ◌&&◌, ◌||◌, and-true, and-false, or_comm, and-or_distrib_right}
use mathlib.Core.List.{List, [], ◌++◌}
use mathlib.Core.Logic.{⊎_elim}
use native.Mathlib.Omega.{arith}
use lib.Dec.{eqb, ltb}
use lib.ListN.{length, get_or, set, take, drop, replicate, length-drop, length-set, get_or-append, get_or-eq_default}
use lib.Seq.{get_or-set_same, get_or-set_other, get_or-take}
use Rattle.std.proofs.lemmas.List.{length-take-le, get_or-append_right, drop_all, append-nil}
use lib.Bits.{bit_and, bit_or, and_le_l}
use borrow.Rule.Slice.PartMut.{put_mid}
use borrow.Author.Tests.{lt-ltb, le-ltb, ltb-true, ltb-false, eqb-true, eqb-false}
use Rattle.sets.specs.Sets.{bit}
use Rattle.sets.proofs.Finite.{and_implied, and_under, below_suc, true_or_false}
use Rattle.sets.proofs.Bits.{bit_zero, bit-and, bit-or, bit_below}
use Rattle.deciding.specs.private.Rows.{table_bit, Has, in_row, Added, kept}
use Rattle.deciding.proofs.Loops.{zeros}

-- ---- the words v, stored from the front; a is the next one
pub record Storing (v : ℕ → ℕ) (s₀ : List ℕ) (a : ℕ) (s : List ℕ) : Type 0 where
  pub upto : a ≤ 64
  pub long : length s ≡ length s₀
  pub words : (k : ℕ) → get_or s k 0 ≡ cond (ltb k a) (v k) (get_or s₀ k 0)

pub storing : (v : ℕ → ℕ) (s : List ℕ) → Storing v s 0 s
storing v s = record {
  upto = omega arith;
  long = refl;
  words = λ k. sym (ap (λ (t : Bool). cond t (v k) (get_or s k 0)) (le-ltb k 0 (omega arith)));
}

-- The word that comes next is still the old one.
pub storing_next : {v : ℕ → ℕ} {s₀ s : List ℕ} {a : ℕ} → Storing v s₀ a s → get_or s a 0 ≡ get_or s₀ a 0
storing_next {v} {s₀} {s} {a} f = f.words a ∙ ap (λ (t : Bool). cond t (v a) (get_or s₀ a 0)) (le-ltb a a (omega arith))

pub storing_more : {v : ℕ → ℕ} {s₀ s : List ℕ} {a : ℕ} (w : ℕ) → Storing v s₀ a s → a < 64 → length s₀ ≡ 64 → w ≡ v a
    → Storing v s₀ (a + 1) (set s a w)
storing_more {v} {s₀} {s} {a} w f l h e = record {
  upto = omega arith;
  long = length-set s a w ∙ f.long;
  words = λ k. ⊎_elim
      (λ q.
      let here : k ≡ a = eqb-true k a q in
      ap (λ (j : ℕ). get_or (set s a w) j 0) here ∙ get_or-set_same s a w 0 (let z : length s ≡ length s₀ = f.long in omega arith)
      ∙ e ∙ ap v (sym here) ∙ sym (ap (λ (t : Bool). cond t (v k) (get_or s₀ k 0)) (lt-ltb k (a + 1) (omega arith))))
      (λ q.
      get_or-set_other s a k w 0 (eqb-false k a q) ∙ f.words k
      ∙ ap (λ (t : Bool). cond t (v k) (get_or s₀ k 0)) (sym (below_suc k a ∙ ap (λ (t : Bool). t || ltb k a) q)))
      (true_or_false (eqb k a));
}

pub stored : {v : ℕ → ℕ} {s₀ s : List ℕ} {a : ℕ} → Storing v s₀ a s → 64 ≤ a → (k : ℕ) → k < 64 → get_or s k 0 ≡ v k
stored {v} {s₀} {s} {a} f l k h = f.words k ∙ ap (λ (t : Bool). cond t (v k) (get_or s₀ k 0)) (lt-ltb k a (omega arith))

storing_all : {v : ℕ → ℕ} {s₀ s : List ℕ} {a : ℕ} → Storing v s₀ a s → 64 ≤ a → length s₀ ≡ 64 → ((k : ℕ) → 64 ≤ k → v k ≡ 0) → (k : ℕ)
    → get_or s k 0 ≡ v k
storing_all {v} {s₀} {s} {a} f l h z k =
    f.words k
    ∙ ⊎_elim
    (λ e. ap (λ (t : Bool). cond t (v k) (get_or s₀ k 0)) e)
    (λ e.
    let high : 64 ≤ k = (let p : a ≤ k = ltb-false k a e in omega arith) in
    ap (λ (t : Bool). cond t (v k) (get_or s₀ k 0)) e ∙ get_or-eq_default s₀ 0 (omega arith) ∙ sym (z k high))
    (true_or_false (ltb k a))

-- Rows of which those from n on are cleared.
pub cleared_from : (n k : ℕ) (s ys : List ℕ) → n ≤ length s → ys ≡ replicate k 0 → k ≡ length s - n
    → (a b : ℕ) → in_row (put_mid n k s ys) a b ≡ (ltb a n && in_row s a b)
cleared_from n k s ys m e l a b =
    ap (λ (xs : List ℕ). in_row (take n s ++ xs) a b) (ap₂ ◌++◌ e gone ∙ append-nil (replicate k 0))
    ∙ ⊎_elim
    (λ t. let below : a < n = ltb-true a n t in
    ap (λ (x : ℕ). bit x b) (get_or-append (take n s) (replicate k 0) 0 a (rw front below) ∙ get_or-take n s a 0 below)
    ∙ sym (ap (λ (c : Bool). c && in_row s a b) t))
    (λ t. let above : n ≤ a = ltb-false a n t in
    ap (λ (x : ℕ). bit x b) (get_or-append_right (take n s) (replicate k 0) n a 0 front above ∙ zeros k (a - n))
    ∙ bit_zero b ∙ sym (ap (λ (c : Bool). c && in_row s a b) t))
    (true_or_false (ltb a n))
  where
    front : length (take n s) ≡ n
    front = length-take-le n s m

    gone : drop k (drop n s) ≡ []
    gone = drop_all k (drop n s) (rw length-drop (omega arith))

-- Rows that are added to: v is the old word with w.
pub added : {s₀ s : List ℕ} {a : ℕ} (w : ℕ → ℕ) → Storing (λ k. bit_or (get_or s₀ k 0) (w k)) s₀ a s → 64 ≤ a → length s₀ ≡ 64
    → ((k : ℕ) → 64 ≤ k → w k ≡ 0)
    → Added s₀ (λ k. bit (w k)) s
added {s₀} {s} {a} w f l h z k b =
    ap (λ (x : ℕ). bit x b) (storing_all f l h (λ j q. ap₂ bit_or (get_or-eq_default s₀ 0 (omega arith)) (z j q)) k)
    ∙ bit-or (get_or s₀ k 0) (w k) b

-- Rows that are added to what f and table t both have.
pub added_kept : (f past : List ℕ) (t : ℕ) {s₀ s : List ℕ} {a : ℕ}
    → Storing (λ k. bit_or (get_or s₀ k 0) (bit_and (get_or f k 0) (get_or past (64 * t + k) 0))) s₀ a s
    → 64 ≤ a → length s₀ ≡ 64 → length f ≡ 64 → Added s₀ (kept f past t) s
unfolding table_bit
added_kept f past t {s₀} {s} {a} g l h q k b =
    added (λ k. bit_and (get_or f k 0) (get_or past (64 * t + k) 0)) g l h
    (λ j z. ap (λ (x : ℕ). bit_and x (get_or past (64 * t + j) 0)) (get_or-eq_default f 0 (omega arith)) ∙ zero_and (get_or past (64 * t + j) 0)) k b
    ∙ ap (λ (x : Bool). in_row s₀ k b || x) (bit-and (get_or f k 0) (get_or past (64 * t + k) 0) b)
  where
    zero_and : (w : ℕ) → bit_and 0 w ≡ 0
    zero_and w = let z : bit_and 0 w ≤ 0 = and_le_l 0 w in omega arith

-- ---- a number is put into the set s where it has p; a is the next one
pub record Sweeping (p : ℕ → Bool) (s a : ℕ) : Type 0 where
  pub upto : a ≤ 64
  pub bits : (m : ℕ) → bit s m ≡ (ltb m a && p m)

pub sweeping : (p : ℕ → Bool) → Sweeping p 0 0
sweeping p = record { upto = omega arith; bits = λ m. bit_zero m ∙ sym (ap (λ (t : Bool). t && p m) (le-ltb m 0 (omega arith))) }

pub sweeping_more : {p : ℕ → Bool} {s a : ℕ} (w : ℕ) → Sweeping p s a → a < 64 → ((k : ℕ) → bit w k ≡ (eqb k a && p k))
    → Sweeping p (bit_or s w) (a + 1)
sweeping_more {p} {s} {a} w f l h = record {
  upto = omega arith;
  bits = λ m.
      bit-or s w m ∙ ap₂ ◌||◌ (f.bits m) (h m) ∙ or_comm (ltb m a && p m) (eqb m a && p m)
      ∙ sym (ap (λ (t : Bool). t && p m) (below_suc m a) ∙ and-or_distrib_right (eqb m a) (ltb m a) (p m));
}

pub sweeping_all : {p : ℕ → Bool} {s a : ℕ} → Sweeping p s a → 64 ≤ a → Has s (λ m. ltb m 64 && p m)
sweeping_all {p} {s} {a} f l m = f.bits m ∙ ap (λ (n : ℕ). ltb m n && p m) (let x : a ≤ 64 = f.upto in let z : a ≡ 64 = omega arith in z)

-- What is swept, cut to a set.
pub swept_in : (set s : ℕ) (p : ℕ → Bool) → set < 2 ^ 64 → Has s (λ m. ltb m 64 && p m) → Has (bit_and set s) (λ m. bit set m && p m)
swept_in set s p h e m =
    bit-and set s m ∙ and_under (bit set m) (bit s m) (p m) (λ t. e m ∙ ap (λ (u : Bool). u && p m) (lt-ltb m 64 (bit_below set 64 m h t)))

-- ---- sets of one

-- A number below 64 alone.
pub single-is : (s b : ℕ) → Has s (λ m. ltb m 64 && eqb m b) → b < 64 → Has s (λ m. eqb m b)
single-is s b h l m =
    h m ∙ and_implied (ltb m 64) (eqb m b) (λ e. lt-ltb m 64 (subst (λ (k : ℕ). k < 64) (sym (eqb-true m b e)) l))

-- w where c holds.
pub only-is : (c : Bool) (w : ℕ) → Has (cond c w 0) (λ b. bit w b && c)
only-is true w b = sym (and-true (bit w b))
only-is false w b = bit_zero b ∙ sym (and-false (bit w b))

-- ---- what a sweep adds at a

pub swept_only : (a : ℕ) (p : ℕ → Bool) (c : Bool) (r s : ℕ) → r ≡ cond c s 0 → c ≡ p a → Has s (λ m. eqb m a) → Has r (λ m. eqb m a && p m)
swept_only a p c r s e q h m =
    ap (λ (x : ℕ). bit x m) e ∙ only-is c s m ∙ ap₂ ◌&&◌ (h m) q ∙ and_under (eqb m a) (p a) (p m) (λ t. ap p (sym (eqb-true m a t)))

pub swept_own : (f : List ℕ) (s a : ℕ) → Has s (λ m. eqb m a) → Has (bit_and s (get_or f a 0)) (λ m. eqb m a && in_row f m m)
swept_own f s a h m =
    bit-and s (get_or f a 0) m ∙ ap (λ (t : Bool). t && in_row f a m) (h m)
    ∙ and_under (eqb m a) (in_row f a m) (in_row f m m) (λ t. ap (λ (j : ℕ). in_row f j m) (sym (eqb-true m a t)))
