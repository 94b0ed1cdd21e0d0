-- Laws of digits: writing a number's digits and reading a number field undo each other.
use Prim.Native.Nat.{ℕ, zero, suc, ◌+◌, ◌-◌, ◌*◌, ◌/◌, ◌%◌, ◌^◌, ◌≤◌, ◌<◌, zero-le}
use mathlib.Core.Path.{◌≡◌, refl, sym, ap, ap₂, subst, ◌∙◌}
use mathlib.Core.Logic.{⊎_elim}
use mathlib.Core.List.{List, [], ◌∷◌, ◌++◌, append_assoc}
use mathlib.Core.Bool.{true, false, and-false}
use native.Mathlib.Omega.{arith}
use native.Mathlib.Nat.{pow-suc}
use lib.Dec.{leb, ltb}
use lib.ListN.{length, get_or, drop, set, length-append, length-set, get_or-append}
use lib.Seq.{drop-cons, get_or-set_same, drop-set-lt}
use borrow.Author.Tests.{eq-eqb, ne_eqb, leb-true, ltb-true, ltb-false, le-ltb, lt-ltb, le-leb}
use Rattle.sets.proofs.Finite.{true_or_false, not_both, and_left, and_right, and_both}
use Rattle.fields.specs.Number.{is_digit, all_digits, value_from, value_of, padded, is_number, digits_in, digits, normal}
use Rattle.fields.proofs.Numeral.{number_some, number_short, number_all}

-- ---- one digit more at the end

value_snoc : (v : ℕ) (g : List ℕ) (d : ℕ) → value_from v (g ++ (d ∷ [])) ≡ value_from v g * 10 + (d - 48)
unfolding value_from
value_snoc v [] d = refl
value_snoc v (x ∷ g) d = value_snoc (v * 10 + (x - 48)) g d

value_more : (v : ℕ) (g : List ℕ) → v ≤ value_from v g
unfolding value_from
value_more v [] = omega arith
value_more v (x ∷ g) = let h = value_more (v * 10 + (x - 48)) g in omega arith

all_snoc : (g : List ℕ) (d : ℕ) → all_digits (g ++ (d ∷ [])) ≡ true → (all_digits g ≡ true) × (is_digit d ≡ true)
unfolding all_digits
all_snoc [] d h = (refl, and_left (is_digit d) true h)
all_snoc (x ∷ g) d h =
    let q = all_snoc g d (and_right (is_digit x) _ h) in
    (and_both (is_digit x) (all_digits g) (and_left (is_digit x) _ h) q.0, q.1)

all_head : (x : ℕ) (g : List ℕ) → all_digits (x ∷ g) ≡ true → is_digit x ≡ true
unfolding all_digits
all_head x g h = and_left (is_digit x) (all_digits g) h

all_of_snoc : (g : List ℕ) (d : ℕ) → all_digits g ≡ true → is_digit d ≡ true → all_digits (g ++ (d ∷ [])) ≡ true
unfolding all_digits
all_of_snoc [] d h k = rw k refl
all_of_snoc (x ∷ g) d h k =
    and_both (is_digit x) _ (and_left (is_digit x) _ h) (all_of_snoc g d (and_right (is_digit x) _ h) k)

is-digit : (d : ℕ) → is_digit d ≡ true → (48 ≤ d) × (d ≤ 57)
unfolding is_digit
is-digit d h = (leb-true 48 d (and_left (leb 48 d) _ h), leb-true d 57 (and_right (leb 48 d) _ h))

digit-is : (d : ℕ) → 48 ≤ d → d ≤ 57 → is_digit d ≡ true
unfolding is_digit
digit-is d h k = and_both (leb 48 d) (leb d 57) (le-leb 48 d h) (le-leb d 57 k)

digits_more : (k n : ℕ) → 10 ≤ n → digits_in (suc k) n ≡ digits_in k (n / 10) ++ ((48 + n % 10) ∷ [])
unfolding digits_in
digits_more k n h = rw (le-ltb n 10 h) refl

digits_one : (k n : ℕ) → n < 10 → digits_in (suc k) n ≡ (48 + n) ∷ []
unfolding digits_in
digits_one k n h = rw (lt-ltb n 10 h) refl

pub digits_single : (n : ℕ) → n < 10 → (48 + n) ∷ [] ≡ digits n
unfolding digits
digits_single n h = sym (digits_one 4 n h)

pub digits_double : (n : ℕ) → 10 ≤ n → n < 100 → (48 + n / 10) ∷ (48 + n % 10) ∷ [] ≡ digits n
unfolding digits
digits_double n h k = sym (digits_more 4 n h ∙ rw (digits_one 3 (n / 10) (omega arith)) refl)

-- ---- the digits of a field's value are the field

-- A list that is not empty has a last element.
last_of : (x : ℕ) (f : List ℕ) → (g : List ℕ) × (d : ℕ) × (x ∷ f ≡ g ++ (d ∷ []))
last_of x [] = ([], x, refl)
last_of x (y ∷ f) = let r = last_of y f in (x ∷ r.0, r.1, ap {B = List ℕ} (λ l. x ∷ l) r.2)

abbrev Back : ℕ → List ℕ → Type 0
Back k f =
    length f ≤ k → 0 < length f → all_digits f ≡ true → (1 < length f → get_or f 0 0 ≡ 48 → ⊥)
    → digits_in k (value_from 0 f) ≡ f

back_snoc : (k : ℕ) → ((f : List ℕ) → Back k f) → (g : List ℕ) (d : ℕ) → Back (suc k) (g ++ (d ∷ []))
back_snoc k ih [] d h p a z =
    let t = is-digit d (all_snoc [] d a).1 in
    let v : value_from 0 (d ∷ []) ≡ d - 48 = unfold value_from in omega arith in
    let w : 48 + (d - 48) ≡ d = omega arith in
    rw v (digits_one k (d - 48) (omega arith) ∙ ap {B = List ℕ} (λ m. m ∷ []) w)
back_snoc k ih (x ∷ g) d h p a z =
    let t = is-digit d (all_snoc (x ∷ g) d a).1 in
    let u = is-digit x (all_head x (g ++ (d ∷ [])) a) in
    let l = length-append (x ∷ g) (d ∷ []) in
    let y : x ≡ 48 → ⊥ = z (omega arith) in
    let m : x - 48 ≤ value_from 0 (x ∷ g) =
    unfold value_from in (let q = value_more (0 * 10 + (x - 48)) g in omega arith) in
    let o : 0 < x - 48 = pos x u.0 y in
    let v = value_from 0 (x ∷ g) in
    let n = v * 10 + (d - 48) in
    let a1 : n / 10 ≡ v = omega arith in
    let a2 : 48 + n % 10 ≡ d = omega arith in
    rw (value_snoc 0 (x ∷ g) d)
    (digits_more k n (omega arith) ∙
    ap₂ {C = List ℕ} (λ q r. q ++ (r ∷ []))
    (ap (digits_in k) a1 ∙ ih (x ∷ g) (omega arith) (omega arith) (all_snoc (x ∷ g) d a).0 (λ i. y)) a2)
  where
    pos : (x : ℕ) → 48 ≤ x → (x ≡ 48 → ⊥) → 0 < x - 48
    pos x h k = omega arith

value_digits : (k : ℕ) (f : List ℕ) → Back k f
value_digits zero f h p a z = absurd (omega arith)
value_digits (suc k) [] h p a z = absurd (omega arith)
value_digits (suc k) (x ∷ f) h p a z =
    let r = last_of x f in
    subst (λ (l : List ℕ). Back (suc k) l) (sym r.2) (back_snoc k (λ l. value_digits k l) r.0 r.1) h p a z

-- A field without padding is its own normal form.
pub digits_value_of : (f : List ℕ) → is_number f ≡ true → padded f ≡ false → normal f ≡ f
unfolding digits value_of padded
digits_value_of f h u =
    value_digits 5 f (number_short f h) (number_some f h) (number_all f h)
    (λ l e. not_both _ (and_both _ _ (lt-ltb 1 (length f) l) (eq-eqb (get_or f 0 0) 48 e)) u)

-- ---- the value of a number's digits is the number, and they are a number field

tens : (n : ℕ) → n / 10 * 10 + (48 + n % 10 - 48) ≡ n
tens n = omega arith

digits_value : (k n : ℕ) → n < 10 ^ k → value_from 0 (digits_in k n) ≡ n
digits_value zero n h = unfold digits_in value_from in omega arith
digits_value (suc k) n h =
    ⊎_elim
    (λ t. rw (digits_one k n (ltb-true n 10 t)) (unfold value_from in omega arith))
    (λ t. let e = pow-suc 10 k in
    let r = digits_value k (n / 10) (omega arith) in
    rw (digits_more k n (ltb-false n 10 t), value_snoc 0 (digits_in k (n / 10)) (48 + n % 10), r) (tens n))
    (true_or_false (ltb n 10))

digits_all : (k n : ℕ) → all_digits (digits_in k n) ≡ true
digits_all zero n = unfold digits_in all_digits in refl
digits_all (suc k) n =
    ⊎_elim
    (λ t. let h = ltb-true n 10 t in
    rw (digits_one k n h)
    (all_of_snoc [] (48 + n) (unfold all_digits in refl) (digit-is (48 + n) (omega arith) (omega arith))))
    (λ t. rw (digits_more k n (ltb-false n 10 t))
    (all_of_snoc (digits_in k (n / 10)) (48 + n % 10) (digits_all k (n / 10))
    (digit-is (48 + n % 10) (omega arith) (omega arith))))
    (true_or_false (ltb n 10))

digits_length : (k n : ℕ) → length (digits_in k n) ≤ k
digits_length zero n = unfold digits_in in zero-le
digits_length (suc k) n =
    let ih = digits_length k (n / 10) in
    ⊎_elim
    (λ t. rw (digits_one k n (ltb-true n 10 t)) (omega arith))
    (λ t. rw (digits_more k n (ltb-false n 10 t), length-append (digits_in k (n / 10)) ((48 + n % 10) ∷ []))
    (omega arith))
    (true_or_false (ltb n 10))

-- The first digit of a number above 0 is not 0, and there is one.
digits_first : (k n : ℕ) → 0 < n → n < 10 ^ k → (0 < length (digits_in k n)) × (48 < get_or (digits_in k n) 0 0)
digits_first zero n p h = absurd (omega arith)
digits_first (suc k) n p h =
    ⊎_elim
    (λ t. rw (digits_one k n (ltb-true n 10 t)) (omega arith, omega arith))
    (λ t. let b = ltb-false n 10 t in
    let e = pow-suc 10 k in
    let r = digits_first k (n / 10) (omega arith) (omega arith) in
    let l = length-append (digits_in k (n / 10)) ((48 + n % 10) ∷ []) in
    rw (digits_more k n b)
    (omega arith, rw (get_or-append (digits_in k (n / 10)) ((48 + n % 10) ∷ []) 0 0 r.0) r.1))
    (true_or_false (ltb n 10))

unpadded : (f : List ℕ) → 48 < get_or f 0 0 → padded f ≡ false
unfolding padded
unpadded f h = rw (ne_eqb (get_or f 0 0) 48 (λ e. omega arith)) (and-false (ltb 1 (length f)))

number_one : (d : ℕ) → is_digit d ≡ true → is_number (d ∷ []) ≡ true
unfolding is_number all_digits
number_one d h = rw h refl

pub value_of_digits : (n : ℕ) → n < 100000 → value_of (digits n) ≡ n
unfolding digits value_of
value_of_digits n h = digits_value 5 n h

pub digits_number : (n : ℕ) → n < 100000 → is_number (digits n) ≡ true
unfolding digits is_number
digits_number n h =
    ⊎_elim
    (λ t. let b = ltb-true n 10 t in
    rw (digits_one 4 n b) (number_one (48 + n) (digit-is (48 + n) (omega arith) (omega arith))))
    (λ t. let b = ltb-false n 10 t in
    let f = digits_first 5 n (omega arith) h in
    rw (lt-ltb 0 _ f.0, le-leb _ 5 (digits_length 5 n), digits_all 5 n) refl)
    (true_or_false (ltb n 10))

pub digits_unpadded : (n : ℕ) → n < 100000 → padded (digits n) ≡ false
unfolding digits padded
digits_unpadded n h =
    ⊎_elim
    (λ t. rw (digits_one 4 n (ltb-true n 10 t)) refl)
    (λ t. unpadded (digits_in 5 n) (digits_first 5 n (let b = ltb-false n 10 t in omega arith) h).1)
    (true_or_false (ltb n 10))

pub digits_short : (n : ℕ) → length (digits n) ≤ 5
unfolding digits
digits_short n = digits_length 5 n

pub digits_all_digits : (n : ℕ) → all_digits (digits n) ≡ true
unfolding digits
digits_all_digits n = digits_all 5 n

-- ---- writing digits from the last to the first into places that end at i

drop_set : (d : List ℕ) (j x : ℕ) → j < length d → drop j (set d j x) ≡ x ∷ drop (suc j) d
drop_set d j x h =
    drop-cons (set d j x) j 0 (subst (λ (n : ℕ). j < n) (sym (length-set d j x)) h)
    ∙ ap₂ {C = List ℕ} (λ a l. a ∷ l) (get_or-set_same d j x 0 h) (drop-set-lt (suc j) d j x (omega arith))

pub digits_deep : (i v : ℕ) → 9 < v → v < 10 ^ i → 2 ≤ i
digits_deep zero v h k = absurd (omega arith)
digits_deep (suc zero) v h k = absurd (omega arith)
digits_deep (suc (suc i)) v h k = omega arith

pub digits_rest : (i v : ℕ) → 9 < v → v < 10 ^ i → v / 10 < 10 ^ (i - 1)
digits_rest zero v h k = absurd (omega arith)
digits_rest (suc i) v h k =
    let e : suc i - 1 ≡ i = omega arith in
    let f = pow-suc 10 i in
    rw e (omega arith)

pub digits_down : (i v : ℕ) (d : List ℕ) → 9 < v → 1 ≤ i → i ≤ length d
    → digits_in i v ++ drop i d ≡ digits_in (i - 1) (v / 10) ++ drop (i - 1) (set d (i - 1) (48 + v % 10))
digits_down zero v d h k l = absurd (omega arith)
digits_down (suc i) v d h k l =
    let e : suc i - 1 ≡ i = omega arith in
    rw (e, digits_more i v h, drop_set d i (48 + v % 10) l)
    (append_assoc (digits_in i (v / 10)) ((48 + v % 10) ∷ []) (drop (suc i) d))

pub digits_last : (i v : ℕ) (d : List ℕ) → v ≤ 9 → 1 ≤ i → i ≤ length d
    → digits_in i v ++ drop i d ≡ drop (i - 1) (set d (i - 1) (48 + v))
digits_last zero v d h k l = absurd (omega arith)
digits_last (suc i) v d h k l =
    let e : suc i - 1 ≡ i = omega arith in
    rw (e, digits_one i v (omega arith), drop_set d i (48 + v) l) refl
