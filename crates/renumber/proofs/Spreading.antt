-- Sets of members spread to their new numbers: bit by bit from the least on, and byte by byte.
use Prim.Native.Nat.{ℕ, zero, suc, ◌+◌, ◌-◌, ◌*◌, ◌/◌, ◌^◌, ◌≤◌, ◌<◌}
use native.Mathlib.Omega.{arith}
use native.Mathlib.Nat.{div-div-eq-div-mul, mul_comm, div-one}
use native.Mathlib.Nat.{pow-suc}
use mathlib.Core.Path.{◌≡◌, refl, sym, ap, ap₂, ◌∙◌}
use mathlib.Core.Logic.{◌⊎◌, inl, inr, ⊎_elim}
use mathlib.Core.Bool.{Bool, true, false, ◌&&◌, ◌||◌}
use mathlib.Core.List.{List}
use lib.Dec.{eqb, ltb}
use lib.Bits.{bit_and, bit_or, or_shifted_r}
use lib.ListN.{length, get_or, set, length-set}
use lib.Seq.{get_or-set_same, get_or-set_other}
use borrow.Author.Tests.{eqb-true, eq-eqb, ltb-true, ltb-false, lt-ltb}
use Rattle.sets.specs.Sets.{any_below, bit}
use Rattle.sets.proofs.Finite.{bool_iff, true_or_false, and_left, and_right, and_both, and-true, or_left, or_right, or_cases, any_intro, any_elim, any_cong, last_or_below, not_both}
use Rattle.sets.proofs.Bits.{bit-and, bit-or, bit_set, bit_zero, bit_half, bit_mask}
use Rattle.renumber.specs.private.Spread.{spread, Doubled, ByteOf}

any_false : (n : ℕ) (p : ℕ → Bool) → ((k : ℕ) → k < n → p k ≡ false) → any_below n p ≡ false
any_false n p h = ⊎_elim
    (λ e. let w = any_elim n p e in absurd (not_both (p w.0) w.2 (h w.0 w.1))) (λ e. e) (true_or_false (any_below n p))

any_split : (a b : ℕ) (f : ℕ → Bool) → any_below (a + b) f ≡ (any_below a f || any_below b (λ k. f (a + k)))
any_split a b f =
    bool_iff _ _
    (λ e. let w = any_elim (a + b) f e in by w.0 w.1 w.2 (ltb w.0 a) refl)
    (λ e. ⊎_elim
    (λ l. let w = any_elim a f l in any_intro (a + b) f w.0 (let z = w.1 in omega arith) w.2)
    (λ r. let w = any_elim b (λ k. f (a + k)) r in any_intro (a + b) f (a + w.0) (let z = w.1 in omega arith) w.2)
    (or_cases (any_below a f) (any_below b (λ k. f (a + k))) e))
  where
    by : (k : ℕ) → k < a + b → f k ≡ true → (c : Bool) → ltb k a ≡ c → (any_below a f || any_below b (λ k. f (a + k))) ≡ true
    by k l e true q = or_left (any_below a f) _ (any_intro a f k (ltb-true k a q) e)
    by k l e false q =
        let h : a ≤ k = ltb-false k a q in
        let same : a + (k - a) ≡ k = omega arith in
        or_right (any_below a f) _ (any_intro b (λ k. f (a + k)) (k - a) (omega arith) (ap f same ∙ e))

-- Bit a + k of w is bit k of w without its first a bits.
bit_shift : (a w k : ℕ) → bit w (a + k) ≡ bit (w / 2 ^ a) k
bit_shift zero w k = ap₂ bit (sym (div-one w)) (omega arith)
bit_shift (suc a) w k =
    let next : suc a + k ≡ suc (a + k) = omega arith in
    ap (bit w) next ∙ bit_half w (a + k) ∙ bit_shift a (w / 2) k
    ∙ ap (λ (x : ℕ). bit x k) (div-div-eq-div-mul w 2 (2 ^ a) ∙ ap (λ (x : ℕ). w / x) (mul_comm 2 (2 ^ a) ∙ sym (pow-suc 2 a)))

-- A bit above all others.
bit_top : (k u j : ℕ) → u < 2 ^ k → bit (2 ^ k + u) j ≡ (bit u j || eqb j k)
bit_top k u j l =
    let once : 1 * 2 ^ k ≡ 2 ^ k = omega arith in
    ap (λ (x : ℕ). bit x j) (ap (λ (x : ℕ). x + u) (sym once) ∙ sym (or_shifted_r 1 k u l) ∙ ap (bit_or u) once) ∙ bit_set u k j

byte_low : (w k : ℕ) → bit (bit_and w 255) k ≡ (bit w k && ltb k 8)
byte_low w k = bit-and w 255 k ∙ ap (λ (x : Bool). bit w k && x) (bit_mask 8 k)

module _ (p : ℕ → ℕ) (m : ℕ) where
  abbrev X : ℕ → Bool
  X k = ltb m 64 && eqb m (p k)

  pub spread_zero : (n : ℕ) → spread n p 0 m ≡ false
  unfolding spread
  spread_zero n = any_false n _ (λ k _. ap (λ (b : Bool). b && X k) (bit_zero k))

  -- A member above all others of a set.
  spread_top : (n k u : ℕ) → k < n → u < 2 ^ k → spread n p (2 ^ k + u) m ≡ (spread n p u m || (ltb m 64 && eqb m (p k)))
  unfolding spread
  spread_top n k u kl ul =
      any_cong n {p = λ j. bit (2 ^ k + u) j && X j} {q = λ j. (bit u j || eqb j k) && X j} (λ j _. ap (λ (b : Bool). b && X j) (bit_top k u j ul))
      ∙ bool_iff _ _
      (λ h. let w = any_elim n (λ j. (bit u j || eqb j k) && X j) h in
      let x : X w.0 ≡ true = and_right (bit u w.0 || eqb w.0 k) (X w.0) w.2 in
      ⊎_elim
      (λ b. or_left (any_below n (λ j. bit u j && X j)) (X k) (any_intro n (λ j. bit u j && X j) w.0 w.1 (and_both (bit u w.0) (X w.0) b x)))
      (λ e. or_right (any_below n (λ j. bit u j && X j)) (X k) (ap X (sym (eqb-true w.0 k e)) ∙ x))
      (or_cases (bit u w.0) (eqb w.0 k) (and_left (bit u w.0 || eqb w.0 k) (X w.0) w.2)))
      (λ h. ⊎_elim
      (λ q. let w = any_elim n (λ j. bit u j && X j) q in
      any_intro n (λ j. (bit u j || eqb j k) && X j) w.0 w.1
      (and_both _ (X w.0) (or_left (bit u w.0) (eqb w.0 k) (and_left (bit u w.0) (X w.0) w.2)) (and_right (bit u w.0) (X w.0) w.2)))
      (λ x. any_intro n (λ j. (bit u j || eqb j k) && X j) k kl (and_both _ (X k) (or_right (bit u k) (eqb k k) (eq-eqb k k refl)) x))
      (or_cases (any_below n (λ j. bit u j && X j)) (X k) h))

-- The first byte, and the rest.
pub spread_byte : (p : ℕ → ℕ) (m b w : ℕ) →
    spread (8 + b) p w m ≡ (spread 8 p (bit_and w 255) m || spread b (λ k. p (8 + k)) (w / 256) m)
unfolding spread
spread_byte p m b w =
    any_split 8 b (λ k. bit w k && X p m k)
    ∙ ap₂ ◌||◌
    (any_cong 8 (λ k l. ap (λ (x : Bool). x && X p m k) (sym (byte_low w k ∙ ap (λ (x : Bool). bit w k && x) (lt-ltb k 8 l) ∙ and-true (bit w k)))))
    (any_cong b (λ k _. ap (λ (x : Bool). x && X p m (8 + k)) (bit_shift 8 w k)))

-- The first 16 members, and the rest.
pub spread_half : (p : ℕ → ℕ) (m b w : ℕ) → spread (16 + b) p w m ≡ (spread 16 p w m || spread b (λ k. p (16 + k)) (w / 65536) m)
unfolding spread
spread_half p m b w =
    any_split 16 b (λ k. bit w k && X p m k)
    ∙ ap (λ (x : Bool). any_below 16 (λ k. bit w k && X p m k) || x) (any_cong b (λ k _. ap (λ (x : Bool). x && X p m (16 + k)) (bit_shift 16 w k)))

-- Eight members are in the first byte.
pub spread_low : (p : ℕ → ℕ) (m w : ℕ) → spread 8 p (bit_and w 255) m ≡ spread 8 p w m
unfolding spread
spread_low p m w = any_cong 8 (λ k l. ap (λ (x : Bool). x && X p m k) (byte_low w k ∙ ap (λ (x : Bool). bit w k && x) (lt-ltb k 8 l) ∙ and-true (bit w k)))

pub spread_cong : (n : ℕ) (p q : ℕ → ℕ) (w m : ℕ) → ((k : ℕ) → k < n → p k ≡ q k) → spread n p w m ≡ spread n q w m
unfolding spread
spread_cong n p q w m h = any_cong n (λ k l. ap (λ (x : ℕ). bit w k && (ltb m 64 && eqb m x)) (h k l))

-- ---- the words of a byte

module _ (p : ℕ → ℕ) (b : ℕ) where
  pub byte_begun : (part : List ℕ) → 0 < length part → ByteOf p b (set part 0 0) 1
  byte_begun part l v m h =
      let z : v ≡ 0 = omega arith in
      rw z (ap (λ (x : ℕ). bit x m) (get_or-set_same part 0 0 0 l) ∙ bit_zero m ∙ sym (spread_zero (λ k. p (b + k)) m 8))

  -- One more member.
  pub byte_more : (part after : List ℕ) (n k x more : ℕ) → n ≡ 2 ^ k → k < 8 → x ≡ p (b + k) → ((m : ℕ) → bit more m ≡ (ltb m 64 && eqb m x)) →
      Doubled part n more after n → ByteOf p b part n → ByteOf p b after (2 * n)
  byte_more part after n k x more e kl is says d h v m vl = by (ltb v n) refl
    where
      by : (c : Bool) → ltb v n ≡ c → bit (get_or after v 0) m ≡ spread 8 (λ k. p (b + k)) v m
      by true q = ap (λ (w : ℕ). bit w m) (d.first v (ltb-true v n q)) ∙ h v m (ltb-true v n q)
      by false q =
          let out : n ≤ v = ltb-false v n q in
          let ul : v - n < n = omega arith in
          let back : n + (v - n) ≡ v = omega arith in
          let top : 2 ^ k + (v - n) ≡ v = ap (λ (y : ℕ). y + (v - n)) (sym e) ∙ back in
          let small : v - n < 2 ^ k = omega (arith, e) in
          ap (λ (y : ℕ). bit (get_or after y 0) m) (sym back)
          ∙ ap (λ (w : ℕ). bit w m) (d.again (v - n) ul)
          ∙ bit-or (get_or part (v - n) 0) more m
          ∙ ap₂ ◌||◌ (h (v - n) m ul) (says m ∙ ap (λ (y : ℕ). ltb m 64 && eqb m y) is)
          ∙ sym (spread_top (λ k. p (b + k)) m 8 k (v - n) kl small)
          ∙ ap (λ (y : ℕ). spread 8 (λ k. p (b + k)) y m) top

-- ---- one word after another

pub doubled_none : (part : List ℕ) (n more : ℕ) → Doubled part n more part 0
doubled_none part n more = record { long = refl; first = λ v l. refl; again = λ v l. absurd (omega arith) }

pub doubled_more : (before after : List ℕ) (n more v : ℕ) → v < n → n + v < length after → Doubled before n more after v →
    Doubled before n more (set after (n + v) (bit_or (get_or after v 0) more)) (v + 1)
doubled_more before after n more v vl fits d = record {
  long = length-set after (n + v) w ∙ d.long;
  first = λ u ul. get_or-set_other after (n + v) u w 0 (λ z. omega arith) ∙ d.first u ul;
  again = λ u ul. by u (last_or_below u v (omega arith));
}
  where
    w : ℕ
    w = bit_or (get_or after v 0) more

    by : (u : ℕ) → (u < v) ⊎ (u ≡ v) → get_or (set after (n + v) w) (n + u) 0 ≡ bit_or (get_or before u 0) more
    by u (inl l) = get_or-set_other after (n + v) (n + u) w 0 (λ z. omega arith) ∙ d.again u l
    by u (inr e) = rw e (get_or-set_same after (n + v) w 0 fits ∙ ap (λ (x : ℕ). bit_or x more) (d.first v vl))
