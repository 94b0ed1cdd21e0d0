-- The places of a table's bits, with other members in place of the members: what they say, and there and back.
use Prim.Native.Nat.{ℕ, ◌+◌, ◌*◌, ◌/◌, ◌%◌, ◌<◌}
use native.Mathlib.Omega.{arith}
use mathlib.Core.Path.{◌≡◌, refl}
use mathlib.Core.Logic.{inl, inr}
use mathlib.Core.Bool.{Bool, true, false, cond, false≢true}
use mathlib.Core.List.{List, [], ◌∷◌}
use lib.Dec.{eqb, ltb}
use borrow.Author.Tests.{lt-ltb, ltb-true, eqb-false, eq-eqb}
use Rattle.sets.proofs.Finite.{and_left, and_right, and_both}
use Rattle.theory.specs.Meaning.{Assignment}
use Rattle.theory.specs.Columns.{columns_fit, word_for, bit_for, member_at, standing_at, inside, word_under, bit_under}
use Rattle.theory.proofs.Places.{In, Among}

-- Word and bit of a, b and c, and the members that they stand for.
module _ (a b c : ℕ) (bl : b < 16) (cl : c < 16) where
  pair-member : (4 * a + b / 4) / 4 ≡ a
  pair-member = omega arith

  pair-first : 4 * ((4 * a + b / 4) % 4) + (16 * (b % 4) + c) / 16 ≡ b
  pair-first = omega arith

  pair-last : (16 * (b % 4) + c) % 16 ≡ c
  pair-last = omega arith

  pair-bit : 16 * (b % 4) + c < 64
  pair-bit = omega arith

-- The members of a place, and their word and bit.
module _ (i k : ℕ) (kl : k < 64) where
  pub pair_word_back : 4 * (i / 4) + (4 * (i % 4) + k / 16) / 4 ≡ i
  pair_word_back = omega arith

  pub pair_bit_back : 16 * ((4 * (i % 4) + k / 16) % 4) + k % 16 ≡ k
  pair_bit_back = omega arith

-- What a place of members with two columns is.
pub record PairInside (N i k : ℕ) : Type 0 where
  pub member : i / 4 < N
  pub first : 4 * (i % 4) + k / 16 < N
  pub last : k % 16 < N
  pub below : k < 64

pub pair_inside : (N i k x y : ℕ) (zs : List ℕ) → inside N (x ∷ y ∷ zs) i k ≡ true → PairInside N i k
pair_inside N i k x y zs e =
    let e1 = and_right (ltb (i / 4) N) _ e in
    let e2 = and_right (ltb (4 * (i % 4) + k / 16) N) _ e1 in
    record {
      member = ltb-true (i / 4) N (and_left (ltb (i / 4) N) _ e);
      first = ltb-true (4 * (i % 4) + k / 16) N (and_left (ltb (4 * (i % 4) + k / 16) N) _ e1);
      last = ltb-true (k % 16) N (and_left (ltb (k % 16) N) _ e2);
      below = ltb-true k 64 (and_right (ltb (k % 16) N) _ e2);
    }

-- Members stay members under q.
module _ (N : ℕ) (q : ℕ → ℕ) (old : (m : ℕ) → m < N → q m < N) where
  -- The three members of a place, under q, of at most 16.
  module _ (i k x y : ℕ) (few : N < 17) (e : inside N (x ∷ y ∷ []) i k ≡ true) where
    abbrev h : PairInside N i k
    h = pair_inside N i k x y [] e

    abbrev a : ℕ
    a = q (i / 4)

    abbrev b : ℕ
    b = q (4 * (i % 4) + k / 16)

    abbrev c : ℕ
    c = q (k % 16)

    al : a < N
    al = old (i / 4) h.member

    bl : b < N
    bl = old (4 * (i % 4) + k / 16) h.first

    cl : c < N
    cl = old (k % 16) h.last

    b16 : b < 16
    b16 = omega (arith, bl)

    c16 : c < 16
    c16 = omega (arith, cl)

  pub under_inside : (cs : List ℕ) (i k : ℕ) → columns_fit N cs ≡ true → inside N cs i k ≡ true → inside N cs (word_under cs q i k) (bit_under cs q i k) ≡ true
  under_inside [] i k fit e = and_both _ _ (lt-ltb (q i) N (old i (ltb-true i N (and_left (ltb i N) _ e)))) (and_right (ltb i N) _ e)
  under_inside (x ∷ []) i k fit e =
      and_both _ _ (lt-ltb (q i) N (old i (ltb-true i N (and_left (ltb i N) _ e)))) (lt-ltb (q k) N (old k (ltb-true k N (and_right (ltb i N) _ e))))
  under_inside (x ∷ y ∷ []) i k fit e =
      let f : N < 17 = ltb-true N 17 fit in
      rw (
        pair-member (a i k x y f e) (b i k x y f e) (c i k x y f e) (b16 i k x y f e) (c16 i k x y f e),
        pair-first (a i k x y f e) (b i k x y f e) (c i k x y f e) (b16 i k x y f e) (c16 i k x y f e),
        pair-last (a i k x y f e) (b i k x y f e) (c i k x y f e) (b16 i k x y f e) (c16 i k x y f e),
        lt-ltb _ N (al i k x y f e),
        lt-ltb _ N (bl i k x y f e),
        lt-ltb _ N (cl i k x y f e),
        lt-ltb _ 64 (pair-bit (a i k x y f e) (b i k x y f e) (c i k x y f e) (b16 i k x y f e) (c16 i k x y f e)),
      )
  under_inside (x ∷ y ∷ z ∷ zs) i k fit e = absurd (false≢true fit)

  pub under_member : (cs : List ℕ) (i k : ℕ) → columns_fit N cs ≡ true → inside N cs i k ≡ true → member_at cs (word_under cs q i k) ≡ q (member_at cs i)
  under_member [] i k fit e = refl
  under_member (x ∷ []) i k fit e = refl
  under_member (x ∷ y ∷ []) i k fit e =
      let f : N < 17 = ltb-true N 17 fit in
      pair-member (a i k x y f e) (b i k x y f e) (c i k x y f e) (b16 i k x y f e) (c16 i k x y f e)
  under_member (x ∷ y ∷ z ∷ zs) i k fit e = absurd (false≢true fit)

  pub under_standing : (cs : List ℕ) (i k : ℕ) → columns_fit N cs ≡ true → inside N cs i k ≡ true → (x : ℕ) → In x cs →
      standing_at cs (word_under cs q i k) (bit_under cs q i k) x ≡ q (standing_at cs i k x)
  under_standing [] i k fit e z s = elim s [ ]
  under_standing (x ∷ []) i k fit e z (inr s) = elim s [ ]
  under_standing (x ∷ []) i k fit e z (inl s) = rw (eq-eqb z x s)
  under_standing (x ∷ y ∷ []) i k fit e z s = go (eqb z x) refl (eqb z y) refl s
    where
      f : N < 17
      f = ltb-true N 17 fit

      go : (d : Bool) → eqb z x ≡ d → (o : Bool) → eqb z y ≡ o → In z (x ∷ y ∷ []) →
          cond d (4 * ((4 * a i k x y f e + b i k x y f e / 4) % 4) + (16 * (b i k x y f e % 4) + c i k x y f e) / 16) (cond o ((16 * (b i k x y f e % 4) + c i k x y f e) % 16) 0)
          ≡ q (cond d (4 * (i % 4) + k / 16) (cond o (k % 16) 0))
      go true _ o _ _ = pair-first (a i k x y f e) (b i k x y f e) (c i k x y f e) (b16 i k x y f e) (c16 i k x y f e)
      go false _ true _ _ = pair-last (a i k x y f e) (b i k x y f e) (c i k x y f e) (b16 i k x y f e) (c16 i k x y f e)
      go false u false v (inl r) = absurd (eqb-false z x u r)
      go false u false v (inr (inl r)) = absurd (eqb-false z y v r)
      go false u false v (inr (inr s)) = elim s [ ]
  under_standing (x ∷ y ∷ z ∷ zs) i k fit e v s = absurd (false≢true fit)

  -- The place of m under g, with other members, is that of the other members.
  pub place_under : (cs : List ℕ) (g : Assignment) (m : ℕ) → Among N g → m < N → columns_fit N cs ≡ true →
      (word_under cs q (word_for cs g m) (bit_for cs g) ≡ word_for cs (λ x. q (g x)) (q m)) × (bit_under cs q (word_for cs g m) (bit_for cs g) ≡ bit_for cs (λ x. q (g x)))
  place_under [] g m w l fit = (refl, refl)
  place_under (x ∷ []) g m w l fit = (refl, refl)
  place_under (x ∷ y ∷ []) g m w l fit =
      let b : g x < 16 = omega (arith, w x, ltb-true N 17 fit) in
      let c : g y < 16 = omega (arith, w y, ltb-true N 17 fit) in
      rw (pair-member m (g x) (g y) b c, pair-first m (g x) (g y) b c, pair-last m (g x) (g y) b c) (refl, refl)
  place_under (x ∷ y ∷ z ∷ zs) g m w l fit = absurd (false≢true fit)

  -- There and back.
  pub under_back : (p : ℕ → ℕ) → ((m : ℕ) → p (q m) ≡ m) → (cs : List ℕ) (i k : ℕ) → columns_fit N cs ≡ true → inside N cs i k ≡ true →
      (word_under cs p (word_under cs q i k) (bit_under cs q i k) ≡ i) × (bit_under cs p (word_under cs q i k) (bit_under cs q i k) ≡ k)
  under_back p back [] i k fit e = (back i, refl)
  under_back p back (x ∷ []) i k fit e = (back i, back k)
  under_back p back (x ∷ y ∷ []) i k fit e =
      let f : N < 17 = ltb-true N 17 fit in
      let l : k < 64 = (pair_inside N i k x y [] e).below in
      rw (
        pair-member (a i k x y f e) (b i k x y f e) (c i k x y f e) (b16 i k x y f e) (c16 i k x y f e),
        pair-first (a i k x y f e) (b i k x y f e) (c i k x y f e) (b16 i k x y f e) (c16 i k x y f e),
        pair-last (a i k x y f e) (b i k x y f e) (c i k x y f e) (b16 i k x y f e) (c16 i k x y f e),
        back (i / 4),
        back (4 * (i % 4) + k / 16),
        back (k % 16),
      ) (pair_word_back i k l, pair_bit_back i k l)
  under_back p back (x ∷ y ∷ z ∷ zs) i k fit e = absurd (false≢true fit)
