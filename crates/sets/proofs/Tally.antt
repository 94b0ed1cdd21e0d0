-- Planes of counters: what they hold at a bit, when one more is added, and how they are compared with a number.
use Prim.Native.Nat.{ℕ, zero, suc, ◌+◌, ◌-◌, ◌*◌, ◌/◌, ◌%◌, ◌^◌, ◌<◌, ◌≤◌}
use mathlib.Core.Path.{◌≡◌, refl, sym, ap, ap₂, ◌∙◌}
use mathlib.Core.Bool.{Bool, true, false, cond, ◌&&◌, ◌||◌, not, and_assoc, and-false, and-not_self}
use mathlib.Core.List.{List}
use mathlib.Core.Logic.{⊎_elim}
use native.Mathlib.Numerals.{add-one, unary_clauses}
use native.Mathlib.Omega.{arith}
use native.Mathlib.Nat.{pow-suc, mul_comm, div-one, mod-one, mod-lt, mod-eq_of_lt, div-div-eq-div-mul}
use lib.Arith.{mod-mul}
use lib.Bits.{bit_and, bit_or, bit_xor}
use lib.Dec.{eqb, ltb, leb, lit<}
use lib.ListN.{length, get_or, set, length-set, replicate, get_or-eq_default}
use lib.Seq.{get_or-set_same, get_or-set_other}
use lib.Pow.{pow_pos}
use borrow.Author.Tests.{lt-ltb, ltb-true, ltb-false, le-leb, lt-leb, leb-true, eqb-true}
use Rattle.sets.specs.Sets.{bit, count_below, tally}
use Rattle.sets.proofs.Finite.{count_cong, count_le, count_none, count_one_more, bool_iff, true_or_false, and_left, and_right, and_both, and-true, or_left, or_right}
use Rattle.sets.proofs.MemberLoop.{MembersLeft, going, going_on, Turn, Done, done_all, done_more}
use Rattle.sets.proofs.Bits.{apart, bit-and, bit-or, bit-xor, bit_mask, bit_below, bit_zero}

tally_cong : (ps qs : List ℕ) (n b : ℕ) → ((j : ℕ) → j < n → get_or ps j 0 ≡ get_or qs j 0) → tally ps n b ≡ tally qs n b
unfolding tally
tally_cong ps qs zero b h = refl
tally_cong ps qs (suc n) b h =
    ap₂ (λ (x y : ℕ). x + cond (bit y b) (2 ^ n) 0) (tally_cong ps qs n b (λ j l. h j (omega arith))) (h n (omega arith))

one_of : (c : Bool) (P : ℕ) → cond c P 0 ≤ P
one_of true P = omega arith
one_of false P = omega arith

tally_lt : (ps : List ℕ) (n b : ℕ) → tally ps n b < 2 ^ n
unfolding tally
tally_lt ps zero b = pow_pos 0
tally_lt ps (suc n) b = omega (arith, tally_lt ps n b, one_of (bit (get_or ps n 0) b) (2 ^ n), pow-suc 2 n)

-- ---- one more

pub record Adding (p₀ : List ℕ) (row : ℕ) (p : List ℕ) (carry i : ℕ) : Type 0 where
  pub step : i ≤ 7
  pub long : length p ≡ 7
  pub above : (j : ℕ) → i ≤ j → get_or p j 0 ≡ get_or p₀ j 0
  pub sums : (b : ℕ) → tally p i b + cond (bit carry b) (2 ^ i) 0 ≡ tally p₀ i b + cond (bit row b) 1 0

pub adding : (p₀ : List ℕ) (row : ℕ) → length p₀ ≡ 7 → Adding p₀ row p₀ row 0
unfolding tally
adding p₀ row l = record { step = omega arith; long = l; above = λ j h. refl; sums = λ b. refl }

carried : (x c : Bool) (P : ℕ) → cond (apart x c) P 0 + cond (x && c) (P * 2) 0 ≡ cond x P 0 + cond c P 0
carried true true P = omega arith
carried true false P = omega arith
carried false true P = omega arith
carried false false P = omega arith

module _ {p₀ : List ℕ} {row : ℕ} {p : List ℕ} {carry i : ℕ} (a : Adding p₀ row p carry i) (l : i < 7) where
  abbrev x : ℕ
  x = get_or p i 0

  abbrev p' : List ℕ
  p' = set p i (bit_xor x carry)

  sums_more : (b : ℕ) → tally p' (suc i) b + cond (bit (bit_and x carry) b) (2 ^ suc i) 0 ≡ tally p₀ (suc i) b + cond (bit row b) 1 0
  unfolding tally
  sums_more b =
      let same : tally p' i b ≡ tally p i b = tally_cong p' p i b (λ j h. get_or-set_other p i j (bit_xor x carry) 0 (λ e. omega arith)) in
      let here : get_or p' i 0 ≡ bit_xor x carry = get_or-set_same p i (bit_xor x carry) 0 (omega (arith, a.long)) in
      rw (same, here, bit-xor x carry b, bit-and x carry b, pow-suc 2 i, sym (a.above i (omega arith)))
      (omega (arith, carried (bit x b) (bit carry b) (2 ^ i), a.sums b))

  pub adding_more : Adding p₀ row p' (bit_and x carry) (i + 1)
  adding_more = record {
    step = omega arith;
    long = length-set p i (bit_xor x carry) ∙ a.long;
    above = λ j h. get_or-set_other p i j (bit_xor x carry) 0 (λ e. omega arith) ∙ a.above j (omega arith);
    sums = λ b. rw add-one (sums_more b);
  }

module _ {p₀ : List ℕ} {row : ℕ} {p : List ℕ} {carry i : ℕ} (a : Adding p₀ row p carry i) (l : i < 7 → ⊥) where
  pub adding_all : (b : ℕ) → tally p 7 b ≡ (tally p₀ 7 b + cond (bit row b) 1 0) % 128
  adding_all b =
      let e : i ≡ 7 = omega (arith, a.step) in
      let s : tally p 7 b + cond (bit carry b) 128 0 ≡ tally p₀ 7 b + cond (bit row b) 1 0 = rw e at (a.sums b) in
      go (bit carry b) s
    where
      go : (c : Bool) → tally p 7 b + cond c 128 0 ≡ tally p₀ 7 b + cond (bit row b) 1 0 → tally p 7 b ≡ (tally p₀ 7 b + cond (bit row b) 1 0) % 128
      go true s = omega (arith, tally_lt p 7 b)
      go false s = omega (arith, tally_lt p 7 b)

-- With nothing left to carry, the planes above are as they were.
sums_above : (p p₀ : List ℕ) (i b d e n : ℕ) → ((j : ℕ) → i ≤ j → get_or p j 0 ≡ get_or p₀ j 0) → tally p i b + d ≡ tally p₀ i b + e →
    tally p (i + n) b + d ≡ tally p₀ (i + n) b + e
unfolding tally
sums_above p p₀ i b d e zero h q = simp unary_clauses q
sums_above p p₀ i b d e (suc n) h q =
    simp unary_clauses (rw (h (i + n) (omega arith)) (omega (arith, sums_above p p₀ i b d e n h q)))

module _ {p₀ : List ℕ} {row : ℕ} {p : List ℕ} {carry i : ℕ} (a : Adding p₀ row p carry i) (l : i < 7) (none : carry ≡ 0) where
  pub adding_none : (b : ℕ) → tally p 7 b ≡ (tally p₀ 7 b + cond (bit row b) 1 0) % 128
  adding_none b =
      let empty : cond (bit carry b) (2 ^ i) 0 ≡ 0 = rw (none, bit_zero b) in
      let e : i + (7 - i) ≡ 7 = omega arith in
      let s : tally p (i + (7 - i)) b + 0 ≡ tally p₀ (i + (7 - i)) b + cond (bit row b) 1 0 =
      sums_above p p₀ i b 0 (cond (bit row b) 1 0) (7 - i) a.above (omega (arith, a.sums b)) in
      let s7 : tally p 7 b + 0 ≡ tally p₀ 7 b + cond (bit row b) 1 0 = rw e at s in
      omega (arith, tally_lt p 7 b)

-- ---- at least k

pub record Comparing (ps : List ℕ) (k s rest i : ℕ) : Type 0 where
  pub step : i ≤ 7
  pub left : rest ≡ k / 2 ^ i
  pub bits : (b : ℕ) → bit s b ≡ (ltb b 64 && leb (k % 2 ^ i) (tally ps i b))

pub comparing : (ps : List ℕ) (k : ℕ) → Comparing ps k 18446744073709551615 k 0
unfolding tally
comparing ps k = record {
  step = omega arith;
  left = sym (div-one k);
  bits = λ b. bit_mask 64 b ∙ sym (rw (mod-one k) (and-true (ltb b 64)));
}

-- The last digit of k decides how a plane goes in.
one_digit : (x : Bool) (P q t : ℕ) → t < P → leb (1 * P + q) (t + cond x P 0) ≡ (leb q t && x)
one_digit true P q t l =
    bool_iff _ _ (λ e. and_both (leb q t) true (le-leb q t (omega (arith, leb-true (1 * P + q) (t + P) e))) refl)
    (λ e. le-leb (1 * P + q) (t + P) (omega (arith, leb-true q t (and_left (leb q t) true e))))
one_digit false P q t l = lt-leb (1 * P + q) (t + 0) (omega arith) ∙ sym (and-false (leb q t))

no_digit : (x : Bool) (P q t : ℕ) → q < P → leb (0 * P + q) (t + cond x P 0) ≡ (leb q t || x)
no_digit true P q t l = le-leb (0 * P + q) (t + P) (omega arith) ∙ sym (or_right (leb q t) true refl)
no_digit false P q t l =
    bool_iff _ _ (λ e. or_left (leb q t) false (le-leb q t (omega (arith, leb-true (0 * P + q) (t + 0) e))))
    (λ e. le-leb (0 * P + q) (t + 0) (omega (arith, leb-true q t (or_only (leb q t) e))))
  where
    or_only : (a : Bool) → (a || false) ≡ true → a ≡ true
    or_only true e = refl
    or_only false e = e

module _ {ps : List ℕ} {k s rest i : ℕ} (a : Comparing ps k s rest i) (l : i < 7) where
  digit : k % 2 ^ suc i ≡ rest % 2 * 2 ^ i + k % 2 ^ i
  digit =
      ap (λ (x : ℕ). k % x) (pow-suc 2 i ∙ mul_comm (2 ^ i) 2)
      ∙ mod-mul k {m = 2} {c = 2 ^ i} (lit< tt) (pow_pos i)
      ∙ ap (λ (x : ℕ). x % 2 * 2 ^ i + k % 2 ^ i) (sym a.left)

  halved : rest / 2 ≡ k / 2 ^ suc i
  halved = ap (λ (x : ℕ). x / 2) a.left ∙ div-div-eq-div-mul k (2 ^ i) 2 ∙ ap (λ (x : ℕ). k / x) (sym (pow-suc 2 i))

  abbrev plane : ℕ
  plane = get_or ps i 0

  with_digit : rest % 2 ≡ 1 → (b : ℕ) → bit (bit_and s plane) b ≡ (ltb b 64 && leb (k % 2 ^ suc i) (tally ps (suc i) b))
  unfolding tally
  with_digit d b =
      bit-and s plane b ∙ ap (λ (x : Bool). x && bit plane b) (a.bits b) ∙ and_assoc (ltb b 64) _ _
      ∙ ap (λ (x : Bool). ltb b 64 && x)
      (sym (one_digit (bit plane b) (2 ^ i) (k % 2 ^ i) (tally ps i b) (tally_lt ps i b))
      ∙ sym (ap (λ (x : ℕ). leb x (tally ps i b + cond (bit plane b) (2 ^ i) 0)) (digit ∙ ap (λ (x : ℕ). x * 2 ^ i + k % 2 ^ i) d)))

  without_digit : (rest % 2 ≡ 1 → ⊥) → plane < 2 ^ 64 → (b : ℕ) → bit (bit_or s plane) b ≡ (ltb b 64 && leb (k % 2 ^ suc i) (tally ps (suc i) b))
  unfolding tally
  without_digit n fits b =
      let d : rest % 2 ≡ 0 = omega arith in
      bit-or s plane b ∙ ap (λ (x : Bool). x || bit plane b) (a.bits b)
      ∙ apart_or (ltb b 64) _ (bit plane b) (λ e. lt-ltb b 64 (bit_below plane 64 b fits e))
      ∙ ap (λ (x : Bool). ltb b 64 && x)
      (sym (no_digit (bit plane b) (2 ^ i) (k % 2 ^ i) (tally ps i b) (mod-lt k (pow_pos i)))
      ∙ sym (ap (λ (x : ℕ). leb x (tally ps i b + cond (bit plane b) (2 ^ i) 0)) (digit ∙ ap (λ (x : ℕ). x * 2 ^ i + k % 2 ^ i) d)))
    where
      apart_or : (w x y : Bool) → (y ≡ true → w ≡ true) → ((w && x) || y) ≡ (w && (x || y))
      apart_or true x y h = refl
      apart_or false x true h = sym (h refl)
      apart_or false x false h = refl

  pub comparing_with : rest % 2 ≡ 1 → Comparing ps k (bit_and s plane) (rest / 2) (i + 1)
  comparing_with d = rw add-one (record { step = omega arith; left = halved; bits = with_digit d })

  pub comparing_without : (rest % 2 ≡ 1 → ⊥) → plane < 2 ^ 64 → Comparing ps k (bit_or s plane) (rest / 2) (i + 1)
  comparing_without n fits = rw add-one (record { step = omega arith; left = halved; bits = without_digit n fits })

-- ---- the rows of the members of a set, counted

tally_none : (ps : List ℕ) (n b : ℕ) → ((j : ℕ) → get_or ps j 0 ≡ 0) → tally ps n b ≡ 0
unfolding tally
tally_none ps zero b h = refl
tally_none ps (suc n) b h = rw (tally_none ps n b h, h n, bit_zero b)

pub zeros : (n j : ℕ) → ◌≡◌ {A = ℕ} (get_or (replicate n 0) j 0) 0
zeros zero j = refl
zeros (suc n) zero = refl
zeros (suc n) (suc j) = zeros n j

pub record Counting (ws : List ℕ) (set rest : ℕ) (ps : List ℕ) : Type 0 where
  pub upon : MembersLeft set rest
  pub long : length ps ≡ 7
  pub counts : (b : ℕ) → tally ps 7 b ≡ count_below 64 (λ c. Done set rest c && bit (get_or ws c 0) b)

pub counting : (ws : List ℕ) (set : ℕ) → set < 2 ^ 64 → Counting ws set set (replicate 7 0)
counting ws set h = record {
  upon = going set h;
  long = refl;
  counts = λ b. tally_none (replicate 7 0) 7 b (zeros 7)
      ∙ sym (count_none 64 (λ k _. ap (λ (x : Bool). x && bit (get_or ws k 0) b) (and-not_self (bit set k))));
}

pub counting_more : {ws : List ℕ} {set rest : ℕ} {ps : List ℕ} {a rest' : ℕ} (ps' : List ℕ) → Counting ws set rest ps → Turn set rest a rest' →
    length ps' ≡ 7 → ((b : ℕ) → tally ps' 7 b ≡ (tally ps 7 b + cond (bit (get_or ws a 0) b) 1 0) % 128) → Counting ws set rest' ps'
counting_more {ws} {set} {rest} {ps} {a} {rest'} ps' c t l h = record {
  upon = going_on t;
  long = l;
  counts = λ b.
      let old : ℕ = count_below 64 (λ c. Done set rest c && bit (get_or ws c 0) b) in
      let new : ℕ = count_below 64 (λ c. Done set rest' c && bit (get_or ws c 0) b) in
      let more : new ≡ old + cond (bit (get_or ws a 0) b) 1 0 =
      count_one_more 64 (λ c. Done set rest c && bit (get_or ws c 0) b) (λ c. Done set rest' c && bit (get_or ws c 0) b) a (bit (get_or ws a 0) b) t.next.small
      (ap (λ (x : Bool). (bit set a && not x) && bit (get_or ws a 0) b) t.next.here ∙ ap (λ (x : Bool). x && bit (get_or ws a 0) b) (and-false (bit set a)))
      (λ k. ap (λ (x : Bool). x && bit (get_or ws k 0) b) (done_more t k) ∙ at k b (eqb k a) refl) in
      let few : new ≤ 64 = count_le 64 (λ c. Done set rest' c && bit (get_or ws c 0) b) in
      h b ∙ ap (λ (x : ℕ). (x + cond (bit (get_or ws a 0) b) 1 0) % 128) (c.counts b) ∙ ap (λ (x : ℕ). x % 128) (sym more) ∙ mod-eq_of_lt (omega arith);
}
  where
    at : (k b : ℕ) (d : Bool) → eqb k a ≡ d → ((d || Done set rest k) && bit (get_or ws k 0) b) ≡ cond d (bit (get_or ws a 0) b) (Done set rest k && bit (get_or ws k 0) b)
    at k b true e = ap (λ (x : ℕ). bit (get_or ws x 0) b) (eqb-true k a e)
    at k b false e = refl

pub counting_all : {ws : List ℕ} {set rest : ℕ} {ps : List ℕ} → Counting ws set rest ps → rest ≡ 0 → (b : ℕ) →
    tally ps 7 b ≡ count_below 64 (λ c. bit set c && bit (get_or ws c 0) b)
counting_all {ws} {set} {rest} {ps} c e b = c.counts b ∙ count_cong 64 (λ k _. ap (λ (x : Bool). x && bit (get_or ws k 0) b) (done_all set rest k e))

-- ---- members that have a set in the list

module _ (ws : List ℕ) (set mask : ℕ) (all : (c : ℕ) → bit mask c ≡ (ltb c 64 && ltb c (length ws))) where
  pub listed_below : (c : ℕ) → bit (bit_and set mask) c ≡ true → c < length ws
  listed_below c e =
      ltb-true c (length ws) (and_right (ltb c 64) _ (sym (all c) ∙ and_right (bit set c) _ (sym (bit-and set mask c) ∙ e)))

  -- The others have an empty one.
  pub listed_bit : (c b : ℕ) → c < 64 → (bit (bit_and set mask) c && bit (get_or ws c 0) b) ≡ (bit set c && bit (get_or ws c 0) b)
  listed_bit c b l =
      ap (λ (x : Bool). x && bit (get_or ws c 0) b) (bit-and set mask c ∙ ap (◌&&◌ (bit set c)) (all c ∙ ap (λ (x : Bool). x && ltb c (length ws)) (lt-ltb c 64 l)))
      ∙ ⊎_elim
      (λ e. ap (λ (x : Bool). (bit set c && x) && bit (get_or ws c 0) b) e ∙ ap (λ (x : Bool). x && bit (get_or ws c 0) b) (and-true (bit set c)))
      (λ e.
      let none : bit (get_or ws c 0) b ≡ false =
      ap (λ (w : ℕ). bit w b) (get_or-eq_default ws 0 (ltb-false c (length ws) e)) ∙ bit_zero b in
      ap (◌&&◌ (bit set c && ltb c (length ws))) none ∙ and-false (bit set c && ltb c (length ws)) ∙ sym (ap (◌&&◌ (bit set c)) none ∙ and-false (bit set c)))
      (true_or_false (ltb c (length ws)))
