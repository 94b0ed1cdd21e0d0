-- Laws of lines: a test that fails makes a line malformed; a line is one of its kind.
use Prim.Native.Nat.{ℕ, zero, suc, ◌+◌, ◌-◌, ◌≤◌, ◌<◌}
use mathlib.Core.Path.{◌≡◌, refl, ap, ap₂, ◌∙◌}
use mathlib.Core.Logic.{⊎_elim}
use mathlib.Core.List.{List, [], ◌∷◌}
use mathlib.Core.Bool.{Bool, true, false, cond}
use native.Mathlib.Omega.{arith}
use mir.Val.{bool_byte}
use lib.Dec.{eqb, ltb}
use lib.ListN.{length, get_or}
use borrow.Author.Tests.{eq-eqb, ne_eqb, ltb-false}
use Rattle.std.proofs.Common.{Option, Some, None}
use Rattle.sets.proofs.Finite.{true_or_false}
use Rattle.theory.specs.Fit.{every}
use Rattle.theory.specs.Formula.{reach_operator, many_operator, operators}
use Rattle.theory.proofs.Good.{not_every}
use Rattle.file.specs.Words.{operator_of, kind_of}
use Rattle.file.specs.Line.{num, is_num, has_third, short_entry_line, long_entry_line, entry_line, triple_line, pair_line, table_line, line_of, parsed}
use Rattle.file.specs.private.Numbers.{tests_from, numbers_from, are_numbers, numbers_of}
use Rattle.file.specs.declared.line.Line.{Line}
use Rattle.file.specs.declared.line.Line.TheVariants.{Entry, TableBit, Malformed}

-- Test number k of a line fails.
pub malformed : (x : Line) (bs : List Bool) (k : ℕ) → get_or bs k true ≡ false → Malformed ≡ cond (every bs) x Malformed
malformed x bs k e = rw (not_every bs k e) refl

-- What a word's code tells.
pub word_none : (b : Bool) (x : ℕ) → cond b (Some x) None ≡ None → b ≡ false
word_none true x e = (cc)
word_none false x e = refl

pub word_some : (b : Bool) (x y : ℕ) → cond b (Some x) None ≡ Some y → (b ≡ true) × (y ≡ x)
word_some true x y e = (refl, (cc))
word_some false x y e = (cc)

-- ---- an F line

abbrev op : List (List ℕ) → ℕ
op fs = operator_of (get_or fs 2 [])

entry_long : (fs : List (List ℕ)) → has_third (op fs) ≡ true → long_entry_line fs ≡ entry_line fs
unfolding entry_line
entry_long fs t = rw t refl

entry_short : (fs : List (List ℕ)) → has_third (op fs) ≡ false → short_entry_line fs ≡ entry_line fs
unfolding entry_line
entry_short fs t = rw t refl

abbrev long_tests : List (List ℕ) → List Bool
long_tests fs = eqb (length fs) 6 ∷ is_num fs 1 ∷ is_num fs 3 ∷ is_num fs 4 ∷ is_num fs 5 ∷ []

abbrev short_tests : List (List ℕ) → List Bool
short_tests fs = eqb (length fs) 5 ∷ is_num fs 1 ∷ ltb (op fs) operators ∷ is_num fs 3 ∷ is_num fs 4 ∷ []

long_bad : (fs : List (List ℕ)) (i : ℕ) → has_third (op fs) ≡ true → get_or (long_tests fs) i true ≡ false → Malformed ≡ entry_line fs
unfolding long_entry_line
long_bad fs i t e = malformed _ (long_tests fs) i e ∙ entry_long fs t

short_bad : (fs : List (List ℕ)) (i : ℕ) → has_third (op fs) ≡ false → get_or (short_tests fs) i true ≡ false → Malformed ≡ entry_line fs
unfolding short_entry_line
short_bad fs i t e = malformed _ (short_tests fs) i e ∙ entry_short fs t

pub entry_bad : (fs : List (List ℕ)) (i j : ℕ) → get_or (long_tests fs) i true ≡ false → get_or (short_tests fs) j true ≡ false → Malformed ≡ entry_line fs
entry_bad fs i j e f = ⊎_elim (λ t. long_bad fs i t e) (λ t. short_bad fs j t f) (true_or_false (has_third (op fs)))

pub entry_wordless : (fs : List (List ℕ)) → ltb (op fs) operators ≡ false → Malformed ≡ entry_line fs
entry_wordless fs e =
    let h : operators ≤ op fs = ltb-false (op fs) operators e in
    short_bad fs 2 (rw (ne_eqb (op fs) reach_operator (λ z. omega arith), ne_eqb (op fs) many_operator (λ z. omega arith)) refl) e

-- o is the word's number, of three operands or of two, and n the fields that it has.
module _ (fs : List (List ℕ)) (o : ℕ) (w : (ltb (op fs) operators ≡ true) × (o ≡ op fs)) where
  pub entry_length : (n : ℕ) → n ≡ bool_byte (has_third o) → (length fs ≡ 5 + n → ⊥) → Malformed ≡ entry_line fs
  entry_length n e h =
      ⊎_elim
      (λ (t : has_third (op fs) ≡ true). let m : n ≡ 1 = e ∙ rw w.1 (ap bool_byte t) in long_bad fs 0 t (ne_eqb _ _ (λ z. h (omega arith))))
      (λ (t : has_third (op fs) ≡ false). let m : n ≡ 0 = e ∙ rw w.1 (ap bool_byte t) in short_bad fs 0 t (ne_eqb _ _ (λ z. h (omega arith))))
      (true_or_false (has_third (op fs)))

  pub entry_third : has_third o ≡ true → is_num fs 5 ≡ false → Malformed ≡ entry_line fs
  entry_third t e = long_bad fs 4 (rw w.1 at t) e

  module _ (n a b m : ℕ) (h : m ≡ bool_byte (has_third o)) (l : length fs ≡ 5 + m)
      (p : (is_num fs 1 ≡ true) × (n ≡ num fs 1)) (q : (is_num fs 3 ≡ true) × (a ≡ num fs 3)) (r : (is_num fs 4 ≡ true) × (b ≡ num fs 4)) where
    pub entry_says_three : has_third o ≡ true → (c : ℕ) → (is_num fs 5 ≡ true) × (c ≡ num fs 5) → Entry n o a b c ≡ entry_line fs
    unfolding long_entry_line every
    entry_says_three t c k =
        let z : m ≡ 1 = h ∙ ap bool_byte t in
        rw (← entry_long fs (rw w.1 at t), eq-eqb (length fs) 6 (omega arith), p.0, q.0, r.0, k.0, p.1, w.1, q.1, r.1, k.1) refl

    pub entry_says_two : has_third o ≡ false → Entry n o a b 0 ≡ entry_line fs
    unfolding short_entry_line every
    entry_says_two t =
        let z : m ≡ 0 = h ∙ ap bool_byte t in
        rw (← entry_short fs (rw w.1 at t), eq-eqb (length fs) 5 (omega arith), p.0, w.0, q.0, r.0, p.1, w.1, q.1, r.1) refl

-- ---- lines of numbers only

abbrev tests : ℕ → List (List ℕ) → List Bool
tests n fs = eqb (length fs) (n + 1) ∷ tests_from fs 1 n

pub numbers_length : (x : Option (List ℕ)) (n : ℕ) (fs : List (List ℕ)) → 0 < length fs → (length fs - 1 ≡ n → ⊥) → None ≡ cond (are_numbers n fs) x None
unfolding are_numbers
numbers_length x n fs p h = rw (not_every (tests n fs) 0 (ne_eqb _ _ (λ e. h (omega arith)))) refl

test_at : (fs : List (List ℕ)) (k n i j : ℕ) → i < n → j ≡ i + k → get_or (tests_from fs k n) i true ≡ is_num fs j
unfolding tests_from
test_at fs k zero i j h e = absurd (omega arith)
test_at fs k (suc n) zero j h e = let z : j ≡ k = omega arith in rw z refl
test_at fs k (suc n) (suc i) j h e = test_at fs (suc k) n i j (omega arith) (omega arith)

pub numbers_fail : (x : Option (List ℕ)) (n : ℕ) (fs : List (List ℕ)) (i : ℕ) → i < n → is_num fs (i + 1) ≡ false → None ≡ cond (are_numbers n fs) x None
unfolding are_numbers
numbers_fail x n fs i h e = rw (not_every (tests n fs) (suc i) (test_at fs 1 n i (i + 1) h refl ∙ e)) refl

abbrev Read : List (List ℕ) → List ℕ → ℕ → ℕ → Type 0
Read fs a k n = (i j : ℕ) → j ≡ i + k → i < n → (is_num fs j ≡ true) × (get_or a i 0 ≡ num fs j)

read_rest : (fs : List (List ℕ)) (x : ℕ) (a : List ℕ) (k n : ℕ) → Read fs (x ∷ a) k (suc n) → Read fs a (suc k) n
read_rest fs x a k n r i j e h = r (suc i) j (omega arith) (omega arith)

tests_pass : (fs : List (List ℕ)) (a : List ℕ) (k n : ℕ) → length a ≡ n → Read fs a k n → every (tests_from fs k n) ≡ true
unfolding tests_from every
tests_pass fs [] k zero l r = refl
tests_pass fs [] k (suc n) l r = absurd (omega arith)
tests_pass fs (x ∷ a) k zero l r = absurd (omega arith)
tests_pass fs (x ∷ a) k (suc n) l r =
    rw ((r 0 k (omega arith) (omega arith)).0, tests_pass fs a (suc k) n (omega arith) (read_rest fs x a k n r)) refl

numbers_read : (fs : List (List ℕ)) (a : List ℕ) (k n : ℕ) → length a ≡ n → Read fs a k n → a ≡ numbers_from fs k n
unfolding numbers_from
numbers_read fs [] k zero l r = refl
numbers_read fs [] k (suc n) l r = absurd (omega arith)
numbers_read fs (x ∷ a) k zero l r = absurd (omega arith)
numbers_read fs (x ∷ a) k (suc n) l r =
    ap₂ {C = List ℕ} (λ y b. y ∷ b) (r 0 k (omega arith) (omega arith)).1 (numbers_read fs a (suc k) n (omega arith) (read_rest fs x a k n r))

pub numbers_all : (n : ℕ) (fs : List (List ℕ)) (a : List ℕ) → 0 < length fs → length fs - 1 ≡ n → length a ≡ n
    → ((j : ℕ) → j < n → (is_num fs (j + 1) ≡ true) × (get_or a j 0 ≡ num fs (j + 1)))
    → Some a ≡ cond (are_numbers n fs) (Some (numbers_of n fs)) None
unfolding are_numbers numbers_of every
numbers_all n fs a p h l r =
    let q : Read fs a 1 n = λ i j e k. rw e (r i k) in
    rw (eq-eqb (length fs) (n + 1) (omega arith), tests_pass fs a 1 n l q) (ap Some (numbers_read fs a 1 n l q))

-- What is said by the numbers, where they are there.
pub says : (b : Bool) (xs a : List ℕ) (g : List ℕ → Line) → Some a ≡ cond b (Some xs) None → g a ≡ cond b (g xs) Malformed
says true xs a g e = let z : a ≡ xs = cc in ap g z
says false xs a g e = (cc)

pub says_none : (b : Bool) (xs : List ℕ) (y : Line) → None ≡ cond b (Some xs) None → Malformed ≡ cond b y Malformed
says_none true xs y e = (cc)
says_none false xs y e = refl

-- ---- the kinds of lines

-- A line of kind k.
pub line_kind : {r : Line} (k : ℕ) (fs : List (List ℕ)) → r ≡ line_of k fs → k ≡ kind_of (get_or fs 0 []) → r ≡ parsed fs
unfolding parsed
line_kind k fs e h = e ∙ ap (λ (j : ℕ). line_of j fs) h

-- A T line of two columns, and another.
pub table_pair : (fs : List (List ℕ)) → length fs ≡ 5 → pair_line fs ≡ table_line fs
unfolding table_line
table_pair fs e = rw (eq-eqb (length fs) 5 e) refl

pub table_triple : (fs : List (List ℕ)) → (length fs ≡ 5 → ⊥) → triple_line TableBit fs ≡ table_line fs
unfolding table_line
table_triple fs e = rw (ne_eqb (length fs) 5 e) refl
