-- Words shifted, and their four quarters of 16 bits.
use Prim.Native.Nat.{ℕ, suc, ◌+◌, ◌-◌, ◌*◌, ◌/◌, ◌%◌, ◌^◌, ◌<◌, ◌≤◌}
use mathlib.Core.Path.{◌≡◌, refl, sym, ap, ap₂, ◌∙◌}
use mathlib.Core.Bool.{Bool, true, false, cond, ◌&&◌, ◌||◌, and-false, or-false}
use mathlib.Core.Logic.{⊎_elim}
use mathlib.Core.List.{List}
use native.Mathlib.Omega.{arith}
use native.Mathlib.Nat.{pow-suc, mul_assoc, mul-mod_left}
use lib.Bits.{bit_and, bit_or, and_le_r}
use lib.Dec.{eqb, ltb}
use lib.ListN.{length, get_or}
use lib.Pow.{pow-add, shr-shr, shl-shr, shl_exact}
use borrow.Author.Tests.{lt-ltb, le-ltb, ltb-true, ltb-false, eqb-true, eqb-false, ne_eqb}
use Rattle.sets.specs.Sets.{bit}
use Rattle.sets.proofs.Finite.{is_false, and_left, and-true, and_implied, below_suc, true_or_false}
use Rattle.sets.proofs.Bits.{bit-and, bit-or, bit_zero, bit_mask, bit_below}

bit_shr : (w j k : ℕ) → bit (w / 2 ^ j) k ≡ bit w (j + k)
unfolding bit
bit_shr w j k = ap (λ (x : ℕ). eqb (x % 2) 1) (shr-shr w j k)

bit_shl : (w j k : ℕ) → j ≤ k → bit (w * 2 ^ j) k ≡ bit w (k - j)
bit_shl w j k h =
    let e : j + (k - j) ≡ k = omega arith in
    ap (bit (w * 2 ^ j)) (sym e) ∙ sym (bit_shr (w * 2 ^ j) j (k - j)) ∙ ap (λ (x : ℕ). bit x (k - j)) (shl-shr w j)

bit_shl_low : (w j k : ℕ) → k < j → bit (w * 2 ^ j) k ≡ false
unfolding bit
bit_shl_low w j k h =
    let d : ℕ = j - k - 1 in
    let e : suc d + k ≡ j = omega arith in
    let split : w * 2 ^ j ≡ w * 2 ^ d * 2 * 2 ^ k =
    ap (λ (x : ℕ). w * 2 ^ x) (sym e) ∙ ap (λ (x : ℕ). w * x) (pow-add 2 (suc d) k) ∙ sym (mul_assoc w (2 ^ suc d) (2 ^ k))
    ∙ ap (λ (x : ℕ). x * 2 ^ k) (ap (λ (x : ℕ). w * x) (pow-suc 2 d) ∙ sym (mul_assoc w (2 ^ d) 2)) in
    ap (λ (x : ℕ). eqb (x / 2 ^ k % 2) 1) split ∙ ap (λ (x : ℕ). eqb (x % 2) 1) (shl-shr (w * 2 ^ d * 2) k)
    ∙ ap (λ (x : ℕ). eqb x 1) (mul-mod_left (w * 2 ^ d) 2)

-- Quarter q of a word.
pub quarter_bits : (w q c : ℕ) → bit (bit_and (w / 2 ^ (16 * q)) 65535) c ≡ (ltb c 16 && bit w (16 * q + c))
quarter_bits w q c =
    bit-and (w / 2 ^ (16 * q)) 65535 c ∙ ap₂ ◌&&◌ (bit_shr w (16 * q) c) (bit_mask 16 c) ∙ swap (bit w (16 * q + c)) (ltb c 16)
  where
    swap : (a b : Bool) → (a && b) ≡ (b && a)
    swap true true = refl
    swap true false = refl
    swap false true = refl
    swap false false = refl

-- A row of 16 bits put in as quarter q.
placed_bits : (row q k : ℕ) → q < 4 → row < 65536 → bit (row * 2 ^ (16 * q) % 2 ^ 64) k ≡ (eqb (k / 16) q && bit row (k % 16))
placed_bits row q k ql rl =
    ap (λ (x : ℕ). bit x k) (shl_exact 16 (16 * q) 64 rl (omega arith))
    ∙ ⊎_elim
    (λ e. let h : k < 16 * q = ltb-true k (16 * q) e in
    bit_shl_low row (16 * q) k h ∙ sym (ap (λ (x : Bool). x && bit row (k % 16)) (ne_eqb (k / 16) q (λ z. omega arith))))
    (λ e. let h : 16 * q ≤ k = ltb-false k (16 * q) e in bit_shl row (16 * q) k h ∙ above h)
    (true_or_false (ltb k (16 * q)))
  where
    above : 16 * q ≤ k → bit row (k - 16 * q) ≡ (eqb (k / 16) q && bit row (k % 16))
    above h =
        ⊎_elim
        (λ e. let l : k / 16 ≡ q = eqb-true (k / 16) q e in let z : k - 16 * q ≡ k % 16 = omega arith in
        ap (bit row) z ∙ sym (ap (λ (x : Bool). x && bit row (k % 16)) e))
        (λ e. let l : k / 16 ≡ q → ⊥ = eqb-false (k / 16) q e in
        is_false (bit row (k - 16 * q)) (λ b. let s : k - 16 * q < 16 = bit_below row 16 (k - 16 * q) rl b in l (omega arith))
        ∙ sym (ap (λ (x : Bool). x && bit row (k % 16)) e))
        (true_or_false (eqb (k / 16) q))

-- What has a quarter below 4 is below 64.
module _ (q k : ℕ) (x : Bool) where
  pub in_quarter : q < 4 → (ltb k 64 && (eqb (k / 16) q && x)) ≡ (eqb (k / 16) q && x)
  in_quarter l =
      and_implied (ltb k 64) (eqb (k / 16) q && x)
      (λ e. lt-ltb k 64 (let z : k / 16 ≡ q = eqb-true (k / 16) q (and_left (eqb (k / 16) q) x e) in omega arith))

-- A row cut to 16 bits and put in as quarter q.
pub put_bits : (row q k : ℕ) → q < 4 →
    bit (bit_and row 65535 * 2 ^ (16 * q) % 2 ^ 64) k ≡ (ltb k 64 && (eqb (k / 16) q && bit row (k % 16)))
put_bits row q k l =
    placed_bits (bit_and row 65535) q k l (omega (arith, and_le_r row 65535))
    ∙ ap (λ (b : Bool). eqb (k / 16) q && b) cut ∙ sym (in_quarter q k (bit row (k % 16)) l)
  where
    cut : bit (bit_and row 65535) (k % 16) ≡ bit row (k % 16)
    cut =
        bit-and row 65535 (k % 16) ∙ ap (λ (b : Bool). bit row (k % 16) && b) (bit_mask 16 (k % 16) ∙ lt-ltb (k % 16) 16 (omega arith))
        ∙ and-true (bit row (k % 16))

-- ---- a set made of a test of each number in turn

pub swept_more : (p : ℕ → Bool) (s b x : ℕ) → b < 64 → ((j : ℕ) → bit s j ≡ (ltb j b && p j)) → ((j : ℕ) → bit x j ≡ (ltb j 64 && eqb j b)) →
    (j : ℕ) → bit (bit_or s (cond (p b) x 0)) j ≡ (ltb j (b + 1) && p j)
swept_more p s b x l h one j =
    bit-or s (cond (p b) x 0) j ∙ ap₂ ◌||◌ (h j) (chosen (p b) refl) ∙ go (eqb j b) refl
  where
    chosen : (c : Bool) → p b ≡ c → bit (cond c x 0) j ≡ (eqb j b && p b)
    chosen true e = one j ∙ and_implied (ltb j 64) (eqb j b) (λ q. lt-ltb j 64 (let z : j ≡ b = eqb-true j b q in omega arith)) ∙ sym (ap (λ (y : Bool). eqb j b && y) e ∙ and-true (eqb j b))
    chosen false e = bit_zero j ∙ sym (ap (λ (y : Bool). eqb j b && y) e ∙ and-false (eqb j b))

    go : (c : Bool) → eqb j b ≡ c → ((ltb j b && p j) || (c && p b)) ≡ (ltb j (b + 1) && p j)
    go true e =
        let z : j ≡ b = eqb-true j b e in
        ap (λ (y : Bool). (y && p j) || p b) (le-ltb j b (omega arith)) ∙ ap p (sym z) ∙ sym (ap (λ (y : Bool). y && p j) (lt-ltb j (b + 1) (omega arith)))
    go false e = or-false (ltb j b && p j) ∙ ap (λ (y : Bool). y && p j) (sym (below_suc j b ∙ ap (λ (y : Bool). y || ltb j b) e))

-- ---- the same bit of each quarter

abbrev pub there : List ℕ → (from c b : ℕ) → Bool
there ws from c b = bit (get_or ws (from + b / 4) 0) (16 * (b % 4) + c)

-- Where the words are not there, or c is no bit of a quarter.
module _ (ws : List ℕ) (from c b : ℕ) where
  pub nowhere_words : length ws ≤ from + 3 → bit 0 b ≡ (ltb (from + 3) (length ws) && (ltb c 16 && (ltb b 16 && there ws from c b)))
  nowhere_words h =
      bit_zero b ∙ sym (ap (λ (y : Bool). y && (ltb c 16 && (ltb b 16 && there ws from c b))) (le-ltb (from + 3) (length ws) h))

  pub nowhere_bit : 16 ≤ c → bit 0 b ≡ (ltb (from + 3) (length ws) && (ltb c 16 && (ltb b 16 && there ws from c b)))
  nowhere_bit h =
      bit_zero b
      ∙ sym (ap (λ (y : Bool). ltb (from + 3) (length ws) && (y && (ltb b 16 && there ws from c b))) (le-ltb c 16 h) ∙ and-false (ltb (from + 3) (length ws)))
