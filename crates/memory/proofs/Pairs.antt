-- Tables with two columns: the bits that a word may have.
use Prim.Native.Nat.{ℕ, ◌+◌, ◌-◌, ◌*◌, ◌/◌, ◌%◌, ◌^◌, ◌≤◌, ◌<◌}
use native.Mathlib.Omega.{arith}
use mathlib.Core.Path.{◌≡◌, refl, sym, ap, ap₂, ◌∙◌}
use mathlib.Core.Bool.{Bool, true, false, cond, ◌&&◌, ◌||◌}
use mathlib.Core.List.{List}
use lib.Bits.{bit_and, bit_or, and_le_r}
use lib.Dec.{eqb, ltb}
use lib.ListN.{length, get_or, take, drop}
use borrow.Author.Tests.{lt-ltb, le-ltb, ltb-true, eq-eqb, eqb-true}
use Rattle.sets.specs.Sets.{all_below, bit, joined}
use Rattle.sets.proofs.Finite.{bool_iff, and_right, and_both, and_under, below_suc, all_true, all_out, all_cong}
use Rattle.sets.proofs.Bits.{bit_zero, bit-and, same_bits, bit_below}
use Rattle.theory.specs.Columns.{inside_pair}
use Rattle.theory.specs.Fit.{◌⇒◌}
use Rattle.theory.proofs.Good.{implied, implies}
use Rattle.memory.specs.Checks.{pair_fits}
use Rattle.memory.proofs.StateTests.{all_split, all_turn, part_blank, or_none}

-- ---- the bits that a word may have

abbrev allowed : (n i k : ℕ) → Bool
allowed n i k = ltb (i / 4) n && (ltb (4 * (i % 4) + k / 16) n && ltb (k % 16) n)

pub record Permitting (n i s q : ℕ) : Type 0 where
  pub step : q ≤ 4
  pub bits : (k : ℕ) → bit s k ≡ (ltb (k / 16) q && allowed n i k)

pub permitting : (n i : ℕ) → Permitting n i 0 0
permitting n i = record { step = omega arith; bits = λ k. bit_zero k ∙ sym (ap (λ c. c && allowed n i k) (le-ltb (k / 16) 0 (omega arith))) }

both_or : (x y p : Bool) → ((x && p) || (y && p)) ≡ ((y || x) && p)
both_or true true true = refl
both_or true true false = refl
both_or true false true = refl
both_or true false false = refl
both_or false true p = refl
both_or false false p = refl

pub permitting_more : (n i s q all w s' : ℕ) → q < 4 → Permitting n i s q → ((m : ℕ) → bit all m ≡ (ltb m 64 && ltb m n)) →
    w ≡ cond (ltb (i / 4) n && ltb (4 * (i % 4) + q) n) all 0 →
    ((k : ℕ) → bit s' k ≡ (bit s k || (eqb (k / 16) q && bit w (k % 16)))) → Permitting n i s' (q + 1)
permitting_more n i s q all w s' l h a e t = record {
  step = omega arith;
  bits = λ k.
      t k ∙ ap₂ ◌||◌ (h.bits k) (and_under (eqb (k / 16) q) _ _ (λ z. put k (eqb-true (k / 16) q z)))
      ∙ both_or (ltb (k / 16) q) (eqb (k / 16) q) (allowed n i k) ∙ ap (λ c. c && allowed n i k) (sym (below_suc (k / 16) q));
}
  where
    chosen : (k : ℕ) (c d : Bool) → bit (cond (c && d) all 0) (k % 16) ≡ (c && (d && ltb (k % 16) n))
    chosen k true true = a (k % 16) ∙ ap (λ x. x && ltb (k % 16) n) (lt-ltb (k % 16) 64 (omega arith))
    chosen k true false = bit_zero (k % 16)
    chosen k false d = bit_zero (k % 16)

    put : (k : ℕ) → k / 16 ≡ q → bit w (k % 16) ≡ allowed n i k
    put k z =
        ap (λ x. bit x (k % 16)) e ∙ chosen k (ltb (i / 4) n) (ltb (4 * (i % 4) + q) n)
        ∙ ap (λ x. ltb (i / 4) n && (ltb (4 * (i % 4) + x) n && ltb (k % 16) n)) (sym z)

pub permitting_all : (n i s q : ℕ) → (q < 4 → ⊥) → Permitting n i s q → (k : ℕ) → bit s k ≡ inside_pair n i k
permitting_all n i s q d h k =
    let e : q ≡ 4 = omega (arith, h.step) in
    h.bits k ∙ ap (λ x. ltb (k / 16) x && allowed n i k) e
    ∙ ap (λ x. x && allowed n i k) (bool_iff (ltb (k / 16) 4) (ltb k 64)
    (λ p. lt-ltb k 64 (omega (arith, ltb-true (k / 16) 4 p))) (λ p. lt-ltb (k / 16) 4 (omega (arith, ltb-true k 64 p))))
    ∙ turned (ltb k 64) (ltb (i / 4) n) (ltb (4 * (i % 4) + k / 16) n) (ltb (k % 16) n)
  where
    turned : (d a b c : Bool) → (d && (a && (b && c))) ≡ (a && (b && (c && d)))
    turned true true true true = refl
    turned true true true false = refl
    turned true true false c = refl
    turned true false b c = refl
    turned false true true true = refl
    turned false true true false = refl
    turned false true false c = refl
    turned false false b c = refl

-- A word of such a table keeps the layout exactly when it has permitted bits only.
pair-fits : (N i w permitted : ℕ) → w < 2 ^ 64 → ((k : ℕ) → bit permitted k ≡ inside_pair N i k) → eqb w (bit_and w permitted) ≡ pair_fits N i w
pair-fits N i w permitted l h =
    sym (bool_iff _ _
    (λ e. eq-eqb w (bit_and w permitted) (same_bits _ _ (λ k. sym (bit-and w permitted k ∙ both k (and_right (ltb w (2 ^ 64)) _ e)))))
    (λ e. and_both _ _ (lt-ltb w (2 ^ 64) l) (all_true 64 (λ k _. implies (bit w k) (λ q.
    sym (h k) ∙ and_right (bit w k) _ (sym (bit-and w permitted k) ∙ ap (λ v. bit v k) (sym (eqb-true w (bit_and w permitted) e)) ∙ q))))))
  where
    both : (k : ℕ) → all_below 64 (λ k. bit w k ⇒ inside_pair N i k) ≡ true → (bit w k && bit permitted k) ≡ bit w k
    both k e = go (bit w k) refl
      where
        go : (c : Bool) → bit w k ≡ c → (c && bit permitted k) ≡ c
        go true q = h k ∙ implied (bit w k) _ (all_out 64 (λ k. bit w k ⇒ inside_pair N i k) e k (bit_below w 64 k l q)) q
        go false q = refl

-- Words in the same place of their members' four may have the same bits.
pub word_fits : (N i j w permitted : ℕ) → i / 4 < N → i % 4 ≡ j → w < 2 ^ 64 → ((k : ℕ) → bit permitted k ≡ inside_pair N j k) →
    eqb w (bit_and w permitted) ≡ pair_fits N i w
word_fits N i j w permitted h e l p = pair-fits N i w permitted l (λ k. p k ∙ same k)
  where
    same : (k : ℕ) → inside_pair N j k ≡ inside_pair N i k
    same k =
        ap₂ ◌&&◌ (lt-ltb (j / 4) N (omega arith) ∙ sym (lt-ltb (i / 4) N h))
        (ap (λ m. ltb (4 * m + k / 16) N && (ltb (k % 16) N && ltb k 64)) (let q : j % 4 ≡ i % 4 = omega arith in q))

-- A word of no member has no bits.
word_none : (N i w : ℕ) → N ≤ i / 4 → w < 2 ^ 64 → eqb w 0 ≡ pair_fits N i w
word_none N i w h l =
    ap (eqb w) (let z : 0 ≡ bit_and w 0 = omega (arith, and_le_r w 0) in z)
    ∙ pair-fits N i w 0 l (λ k. bit_zero k ∙ sym (ap (λ b. b && (ltb (4 * (i % 4) + k / 16) N && (ltb (k % 16) N && ltb k 64))) (le-ltb (i / 4) N h)))

-- One turn: the four words of a member.
pub pairs_turn : (a : ℕ) (p : ℕ → Bool) (off o0 o1 o2 o3 : ℕ) → eqb o0 0 ≡ p (4 * a) → eqb o1 0 ≡ p (4 * a + 1) → eqb o2 0 ≡ p (4 * a + 2) →
    eqb o3 0 ≡ p (4 * a + 3) → eqb off 0 ≡ all_below (4 * a) p → eqb (bit_or o3 (bit_or o2 (bit_or o1 (bit_or o0 off)))) 0 ≡ all_below (4 * (a + 1)) p
pairs_turn a p off o0 o1 o2 o3 e0 e1 e2 e3 h =
    turn (4 * a + 3) (4 * (a + 1)) o3 _ (omega arith) e3
    (turn (4 * a + 2) (4 * a + 3) o2 _ (omega arith) e2 (turn (4 * a + 1) (4 * a + 2) o1 _ (omega arith) e1 (turn (4 * a) (4 * a + 1) o0 off (omega arith) e0 h)))
  where
    turn : (k m o s : ℕ) → k + 1 ≡ m → eqb o 0 ≡ p k → eqb s 0 ≡ all_below k p → eqb (bit_or o s) 0 ≡ all_below m p
    turn k m o s e x y = or_none o s ∙ all_turn k p x y ∙ ap (λ j. all_below j p) e

pub pairs_fit : (ws : List ℕ) (N u off : ℕ) → length ws ≡ 64 → N < 17 → ((i : ℕ) → get_or ws i 0 < 2 ^ 64) →
    u ≡ joined (take (64 - 4 * N) (drop (4 * N) ws)) (length (take (64 - 4 * N) (drop (4 * N) ws))) →
    eqb off 0 ≡ all_below (4 * N) (λ i. pair_fits N i (get_or ws i 0)) → eqb u 0 && eqb off 0 ≡ all_below 64 (λ i. pair_fits N i (get_or ws i 0))
pairs_fit ws N u off l h b eu eo =
    ap₂ ◌&&◌
    (part_blank ws (4 * N) (64 - 4 * N) (omega arith) u eu
    ∙ all_cong (64 - 4 * N) (λ i k. word_none N (4 * N + i) (get_or ws (4 * N + i) 0) (omega arith) (b (4 * N + i)))) eo
    ∙ sym (all_split (4 * N) (64 - 4 * N) (λ i. pair_fits N i (get_or ws i 0)))
    ∙ ap (λ k. all_below k (λ i. pair_fits N i (get_or ws i 0))) (let e : 4 * N + (64 - 4 * N) ≡ 64 = omega arith in e)
