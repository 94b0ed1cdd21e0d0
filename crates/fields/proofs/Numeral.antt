-- Laws of number fields: when a field is a number, and how large it can be.
use Prim.Native.Nat.{ℕ, ◌+◌, ◌-◌, ◌*◌, ◌^◌, ◌≤◌, ◌<◌}
use mathlib.Core.Path.{◌≡◌, refl}
use mathlib.Core.Logic.{⊎_elim}
use mathlib.Core.List.{List, [], ◌∷◌}
use mathlib.Core.Bool.{true, false, ◌&&◌, and-false}
use native.Mathlib.Omega.{arith}
use native.Mathlib.Nat.{pow-suc, pow-le-pow_right, mul-one, mul_comm, mul_assoc}
use lib.Dec.{eqb, leb, ltb, lit<}
use lib.ListN.{length}
use borrow.Author.Tests.{leb-true, ltb-true, le-ltb, lt-ltb, le-leb, lt-leb}
use Rattle.sets.proofs.Finite.{true_or_false, and_left, and_right}
use Rattle.std.proofs.Common.{Some, None}
use Rattle.fields.specs.Number.{is_digit, all_digits, value_from, value_of, is_number, number_of}

-- ---- the three ways that reading a field goes

pub some_bytes : (f : List ℕ) → eqb (length f) 0 ≡ false → 0 < length f
some_bytes [] e = (cc)
some_bytes (x ∷ f) e = omega arith

pub number_empty : (f : List ℕ) → length f ≡ 0 → number_of f ≡ None
unfolding number_of is_number
number_empty f h = rw (le-ltb 0 (length f) (omega arith)) refl

pub number_long : (f : List ℕ) → 5 < length f → number_of f ≡ None
unfolding number_of is_number
number_long f h = rw (lt-ltb 0 (length f) (omega arith), lt-leb (length f) 5 h) refl

pub number_bad : (f : List ℕ) → all_digits f ≡ false → number_of f ≡ None
unfolding number_of is_number
number_bad f h = rw (h, and-false (leb (length f) 5), and-false (ltb 0 (length f))) refl

pub number_good : (f : List ℕ) → 0 < length f → length f ≤ 5 → all_digits f ≡ true → number_of f ≡ Some (value_of f)
unfolding number_of is_number
number_good f h k a = rw (lt-ltb 0 (length f) h, le-leb (length f) 5 k, a) refl

-- ---- what the answer says of the field

pub number_is : (f : List ℕ) (n : ℕ) → number_of f ≡ Some n → (is_number f ≡ true) × (n ≡ value_of f)
unfolding number_of
number_is f n e =
    ⊎_elim
    (λ t. let g : Some (value_of f) ≡ Some n = rw t at e in (t, (cc)))
    (λ t. let g : None ≡ Some n = rw t at e in (cc))
    (true_or_false (is_number f))

pub number_none : (f : List ℕ) → number_of f ≡ None → is_number f ≡ false
unfolding number_of
number_none f e =
    ⊎_elim
    (λ t. let g : Some (value_of f) ≡ None = rw t at e in (cc))
    (λ t. t)
    (true_or_false (is_number f))

-- ---- the parts of the test

module _ (f : List ℕ) (h : is_number f ≡ true) where
  pub number_some : 0 < length f
  unfolding is_number
  number_some = ltb-true 0 (length f) (and_left (ltb 0 (length f)) _ h)

  pub number_short : length f ≤ 5
  unfolding is_number
  number_short = leb-true (length f) 5 (and_left (leb (length f) 5) _ (and_right (ltb 0 (length f)) _ h))

  pub number_all : all_digits f ≡ true
  unfolding is_number
  number_all = and_right (leb (length f) 5) (all_digits f) (and_right (ltb 0 (length f)) _ h)

-- ---- a number field's value is below 100,000

value_below : (f : List ℕ) (v m : ℕ) → all_digits f ≡ true → v < m → value_from v f < m * 10 ^ length f
unfolding all_digits value_from is_digit
value_below [] v m a h = rw mul-one h
value_below (d ∷ f) v m a h =
    let p = and_left (leb 48 d && leb d 57) _ a in
    let q = leb-true d 57 (and_right (leb 48 d) _ p) in
    let r : value_from (v * 10 + (d - 48)) f < m * 10 * 10 ^ length f =
    value_below f (v * 10 + (d - 48)) (m * 10) (and_right (leb 48 d && leb d 57) _ a) (omega arith) in
    rw (pow-suc 10 (length f), mul_comm (10 ^ length f) 10, ← mul_assoc m 10 (10 ^ length f)) r

pub value_small : (f : List ℕ) → is_number f ≡ true → value_of f < 100000
unfolding value_of
value_small f h =
    let b : value_from 0 f < 1 * 10 ^ length f = value_below f 0 1 (number_all f h) (omega arith) in
    let e : 10 ^ length f ≤ 10 ^ 5 =
    pow-le-pow_right {n = 10} (lit< tt) {i = length f} {j = 5} (number_short f h) in
    omega arith
