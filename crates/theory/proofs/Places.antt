-- The places of a table's bits, over the list of its columns: from members to word and bit and back.
use Prim.Native.Nat.{ℕ, zero, suc, ◌+◌, ◌*◌, ◌/◌, ◌%◌, ◌≤◌, ◌<◌}
use native.Mathlib.Omega.{arith}
use mathlib.Core.Path.{◌≡◌, refl, sym, ap, subst, ◌∙◌}
use mathlib.Core.Logic.{◌⊎◌, inl, inr}
use mathlib.Core.Bool.{Bool, true, false, cond, false≢true}
use mathlib.Core.List.{List, [], ◌∷◌}
use lib.Dec.{eqb, ltb}
use borrow.Author.Tests.{lt-ltb, ltb-true, eqb-true, eqb-false, eq-eqb}
use Rattle.sets.proofs.Finite.{and_left, and_right, is_false}
use Rattle.theory.specs.Formula.{Formula, free, those, or_target, columns}
use Rattle.theory.specs.Meaning.{Assignment, assign, alone}
use Rattle.theory.specs.Columns.{columns_fit, word_for, bit_for, member_at, standing_at, inside}

-- x is one of the columns.
abbrev pub In : ℕ → List ℕ → Type 0
In x [] = ⊥
In x (y ∷ ys) = (x ≡ y) ⊎ In x ys

pub those_in : (p : ℕ → Bool) (n k x : ℕ) → k ≤ x → x < k + n → p x ≡ true → In x (those n k p)
unfolding those
those_in p zero k x lo hi e = absurd (omega arith)
those_in p (suc n) k x lo hi e = go (eqb x k) refl (p k) refl (λ l. those_in p n (suc k) x l (omega arith) e)
  where
    go : (d : Bool) → eqb x k ≡ d → (c : Bool) → p k ≡ c → (suc k ≤ x → In x (those n (suc k) p)) →
        In x (cond c (k ∷ those n (suc k) p) (those n (suc k) p))
    go true q true r ih = inl (eqb-true x k q)
    go true q false r ih = absurd (false≢true (sym r ∙ ap p (sym (eqb-true x k q)) ∙ e))
    go false q true r ih = inr (ih (omega (arith, eqb-false x k q)))
    go false q false r ih = ih (omega (arith, eqb-false x k q))

-- Each free variable is a column.
pub columns_in : (f : Formula) (x : ℕ) → x < 16 → free f x ≡ true → In x (columns f)
columns_in f x l e = go (those 16 0 (free f)) (those_in (free f) 16 0 x (omega arith) l e)
  where
    go : (xs : List ℕ) → In x xs → In x (or_target xs)
    go [] i = elim i [ ]
    go (y ∷ ys) i = i

pub those_none : (p : ℕ → Bool) (n k : ℕ) → ((x : ℕ) → k ≤ x → x < k + n → p x ≡ false) → those n k p ≡ []
unfolding those
those_none p zero k h = refl
those_none p (suc n) k h = rw (h k (omega arith) (omega arith)) (those_none p n (suc k) (λ x lo hi. h x (omega arith) (omega arith)))

-- Without a free variable the one column is variable 0.
pub closed_columns : (f : Formula) → ((x : ℕ) → x < 16 → free f x ≡ false) → columns f ≡ 0 ∷ []
closed_columns f h = ap or_target (those_none (free f) 16 0 (λ x lo hi. h x hi))

those_has : (p : ℕ → Bool) (n k x : ℕ) → In x (those n k p) → p x ≡ true
unfolding those
those_has p zero k x i = absurd i
those_has p (suc n) k x i = go (p k) refl i (those_has p n (suc k) x)
  where
    go : (c : Bool) → p k ≡ c → In x (cond c (k ∷ those n (suc k) p) (those n (suc k) p)) → (In x (those n (suc k) p) → p x ≡ true) → p x ≡ true
    go true q (inl e) ih = ap p e ∙ q
    go true q (inr j) ih = ih j
    go false q j ih = ih j

-- Each column is a free variable, or there is none and the one column is variable 0.
pub columns_free : (f : Formula) → ((x : ℕ) → In x (columns f) → free f x ≡ true) ⊎ (((x : ℕ) → x < 16 → free f x ≡ false) × (columns f ≡ 0 ∷ []))
columns_free f = go (those 16 0 (free f)) refl
  where
    go : (xs : List ℕ) → those 16 0 (free f) ≡ xs →
        ((x : ℕ) → In x (columns f) → free f x ≡ true) ⊎ (((x : ℕ) → x < 16 → free f x ≡ false) × (columns f ≡ 0 ∷ []))
    go [] e = inr ((λ x l. is_false (free f x) (λ q. subst (In x) e (those_in (free f) 16 0 x (omega arith) l q))), ap or_target e)
    go (y ∷ ys) e = inl (λ x i. those_has (free f) 16 0 x (subst (In x) (ap or_target e ∙ sym e) i))

-- Assignments that agree on the columns have the same place.
pub place_cong : (cs : List ℕ) (g h : Assignment) (m : ℕ) → ((x : ℕ) → In x cs → h x ≡ g x) → (word_for cs h m ≡ word_for cs g m) × (bit_for cs h ≡ bit_for cs g)
place_cong [] g h m e = (refl, refl)
place_cong (x ∷ []) g h m e = (refl, e x (inl refl))
place_cong (x ∷ y ∷ zs) g h m e =
    (ap (λ b. 4 * m + b / 4) (e x (inl refl)), (λ d. 16 * (e x (inl refl) d % 4) + e y (inr (inl refl)) d))

-- Every variable stands for a member.
abbrev pub Among : ℕ → Assignment → Type 0
Among N g = (x : ℕ) → g x < N

pub among_assign : (N : ℕ) (g : Assignment) (x m : ℕ) → Among N g → m < N → Among N (assign g x m)
among_assign N g x m w l y = go (eqb y x)
  where
    go : (c : Bool) → cond c m (g y) < N
    go true = l
    go false = w y

pub among_alone : (N x m : ℕ) → m < N → Among N (alone x m)
among_alone N x m l = among_assign N (λ y. 0) x m (λ y. omega arith) l

-- ---- word and bit of members, and the members of word and bit

module _ (N : ℕ) where
  pub inside_member : (cs : List ℕ) (i k : ℕ) → inside N cs i k ≡ true → member_at cs i < N
  inside_member [] i k e = ltb-true i N (and_left (ltb i N) _ e)
  inside_member (x ∷ []) i k e = ltb-true i N (and_left (ltb i N) _ e)
  inside_member (x ∷ y ∷ zs) i k e = ltb-true (i / 4) N (and_left (ltb (i / 4) N) _ e)

  pub inside_among : (cs : List ℕ) (i k : ℕ) → inside N cs i k ≡ true → Among N (standing_at cs i k)
  inside_among [] i k e = λ x. omega (arith, ltb-true i N (and_left (ltb i N) _ e))
  inside_among (x ∷ []) i k e = among_alone N x k (ltb-true k N (and_right (ltb i N) _ e))
  inside_among (x ∷ y ∷ zs) i k e =
      let q = and_right (ltb (i / 4) N) _ e in
      among_assign N (alone y (k % 16)) x (4 * (i % 4) + k / 16)
      (among_alone N y (k % 16) (ltb-true (k % 16) N (and_left (ltb (k % 16) N) _ (and_right (ltb (4 * (i % 4) + k / 16) N) _ q))))
      (ltb-true (4 * (i % 4) + k / 16) N (and_left (ltb (4 * (i % 4) + k / 16) N) _ q))

  pub inside_bit : N < 65 → (cs : List ℕ) (i k : ℕ) → inside N cs i k ≡ true → k < 64
  inside_bit few [] i k e = omega (arith, ltb-true k N (and_right (ltb i N) _ e))
  inside_bit few (x ∷ []) i k e = omega (arith, ltb-true k N (and_right (ltb i N) _ e))
  inside_bit few (x ∷ y ∷ zs) i k e =
      ltb-true k 64 (and_right (ltb (k % 16) N) _ (and_right (ltb (4 * (i % 4) + k / 16) N) _ (and_right (ltb (i / 4) N) _ e)))

  pub inside_word : N < 65 → (cs : List ℕ) (i k : ℕ) → columns_fit N cs ≡ true → inside N cs i k ≡ true → i < 64
  inside_word few [] i k fit e = omega (arith, ltb-true i N (and_left (ltb i N) _ e))
  inside_word few (x ∷ []) i k fit e = omega (arith, ltb-true i N (and_left (ltb i N) _ e))
  inside_word few (x ∷ y ∷ []) i k fit e = omega (arith, ltb-true (i / 4) N (and_left (ltb (i / 4) N) _ e), ltb-true N 17 fit)
  inside_word few (x ∷ y ∷ z ∷ zs) i k fit e = absurd (false≢true fit)

  module _ (g : Assignment) (w : Among N g) (m : ℕ) (ml : m < N) where
    two_member : (b : ℕ) → b < 16 → (4 * m + b / 4) / 4 ≡ m
    two_member b l = omega arith

    two_first : (b c : ℕ) → b < 16 → c < 16 → 4 * ((4 * m + b / 4) % 4) + (16 * (b % 4) + c) / 16 ≡ b
    two_first b c l k = omega arith

    two_second : (b c : ℕ) → c < 16 → (16 * (b % 4) + c) % 16 ≡ c
    two_second b c k = omega arith

    two_bit : (b c : ℕ) → c < 16 → 16 * (b % 4) + c < 64
    two_bit b c k = omega arith

    pub place_member : (cs : List ℕ) → columns_fit N cs ≡ true → member_at cs (word_for cs g m) ≡ m
    place_member [] fit = refl
    place_member (x ∷ []) fit = refl
    place_member (x ∷ y ∷ []) fit = two_member (g x) (omega (arith, w x, ltb-true N 17 fit))
    place_member (x ∷ y ∷ z ∷ zs) fit = absurd (false≢true fit)

    pub place_inside : (cs : List ℕ) → columns_fit N cs ≡ true → inside N cs (word_for cs g m) (bit_for cs g) ≡ true
    place_inside [] fit = rw (lt-ltb m N ml, lt-ltb 0 N (omega arith))
    place_inside (x ∷ []) fit = rw (lt-ltb m N ml, lt-ltb (g x) N (w x))
    place_inside (x ∷ y ∷ []) fit =
        let b : g x < 16 = omega (arith, w x, ltb-true N 17 fit) in
        let c : g y < 16 = omega (arith, w y, ltb-true N 17 fit) in
        rw (two_member (g x) b, two_first (g x) (g y) b c, two_second (g x) (g y) c, lt-ltb m N ml, lt-ltb (g x) N (w x), lt-ltb (g y) N (w y), lt-ltb (16 * (g x % 4) + g y) 64 (two_bit (g x) (g y) c))
    place_inside (x ∷ y ∷ z ∷ zs) fit = absurd (false≢true fit)

    pub place_standing : (cs : List ℕ) → columns_fit N cs ≡ true → (x : ℕ) → In x cs → standing_at cs (word_for cs g m) (bit_for cs g) x ≡ g x
    place_standing [] fit z i = elim i [ ]
    place_standing (x ∷ []) fit z (inr i) = elim i [ ]
    place_standing (x ∷ []) fit z (inl e) = rw (eq-eqb z x e) (ap g (sym e))
    place_standing (x ∷ y ∷ []) fit z i = go (eqb z x) refl (eqb z y) refl i
      where
        b : g x < 16
        b = omega (arith, w x, ltb-true N 17 fit)

        c : g y < 16
        c = omega (arith, w y, ltb-true N 17 fit)

        go : (d : Bool) → eqb z x ≡ d → (e : Bool) → eqb z y ≡ e → In z (x ∷ y ∷ []) →
            cond d (4 * ((4 * m + g x / 4) % 4) + (16 * (g x % 4) + g y) / 16) (cond e ((16 * (g x % 4) + g y) % 16) 0) ≡ g z
        go true p e q i = two_first (g x) (g y) b c ∙ ap g (sym (eqb-true z x p))
        go false p true q i = two_second (g x) (g y) c ∙ ap g (sym (eqb-true z y q))
        go false p false q (inl r) = absurd (eqb-false z x p r)
        go false p false q (inr (inl r)) = absurd (eqb-false z y q r)
        go false p false q (inr (inr i)) = elim i [ ]
    place_standing (x ∷ y ∷ z ∷ zs) fit v i = absurd (false≢true fit)
