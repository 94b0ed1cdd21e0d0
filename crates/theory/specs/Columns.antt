-- Where a past-time formula's table has its bits (docs/SCOPE.md, Memory), over the list of its columns: one of them, or
-- two. One: bit b of word a. Two: bit 16 × (b mod 4) + c of word 4a + b / 4. No other file says it.
use Rattle.std.specs.Prelude.{ℕ, ◌+◌, ◌*◌, ◌/◌, ◌%◌, Bool, true, false, ◌&&◌, List, [], ◌∷◌, ltb}
use Rattle.theory.specs.Formula.{Formula, columns}
use Rattle.theory.specs.Meaning.{Assignment, assign, alone}
use Rattle.theory.specs.Limits.{pair_members}

-- ---- two columns: word and bit of members a, b and c; and back, from word i and bit k

abbrev pub pair_word : (a b : ℕ) → ℕ
pair_word a b = 4 * a + b / 4

abbrev pub pair_bit : (b c : ℕ) → ℕ
pair_bit b c = 16 * (b % 4) + c

abbrev pub pair_member : (i : ℕ) → ℕ
pair_member i = i / 4

abbrev pub pair_first : (i k : ℕ) → ℕ
pair_first i k = 4 * (i % 4) + k / 16

abbrev pub pair_last : (k : ℕ) → ℕ
pair_last k = k % 16

-- ---- any columns

-- A table has room for its columns: one, or two with N at most 16.
abbrev pub columns_fit : (members : ℕ) → List ℕ → Bool
columns_fit N [] = true
columns_fit N (x ∷ []) = true
columns_fit N (x ∷ y ∷ []) = ltb N (1 + pair_members)
columns_fit N (x ∷ y ∷ z ∷ zs) = false

-- From a member and an assignment to word and bit.

abbrev pub word_for : List ℕ → Assignment → (m : ℕ) → ℕ
word_for [] g m = m
word_for (x ∷ []) g m = m
word_for (x ∷ y ∷ zs) g m = pair_word m (g x)

abbrev pub bit_for : List ℕ → Assignment → ℕ
bit_for [] g = 0
bit_for (x ∷ []) g = g x
bit_for (x ∷ y ∷ zs) g = pair_bit (g x) (g y)

-- And back, from word i and bit k.

abbrev pub member_at : List ℕ → (i : ℕ) → ℕ
member_at [] i = i
member_at (x ∷ []) i = i
member_at (x ∷ y ∷ zs) i = pair_member i

-- The columns stand for the members that word and bit say; variables not named stand for member 0.
abbrev pub standing_at : List ℕ → (i k : ℕ) → Assignment
standing_at [] i k = λ z. 0
standing_at (x ∷ []) i k = alone x k
standing_at (x ∷ y ∷ zs) i k = assign (alone y (pair_last k)) x (pair_first i k)

-- From word i and bit k to those of the same place with q m in place of each member m.

abbrev pub word_under : List ℕ → (q : ℕ → ℕ) → (i k : ℕ) → ℕ
word_under [] q i k = q i
word_under (x ∷ []) q i k = q i
word_under (x ∷ y ∷ zs) q i k = pair_word (q (pair_member i)) (q (pair_first i k))

abbrev pub bit_under : List ℕ → (q : ℕ → ℕ) → (i k : ℕ) → ℕ
bit_under [] q i k = k
bit_under (x ∷ []) q i k = q k
bit_under (x ∷ y ∷ zs) q i k = pair_bit (q (pair_first i k)) (q (pair_last k))

-- Word and bit are those of members: with two columns, and with any.
abbrev pub inside_pair : (members : ℕ) → (i k : ℕ) → Bool
inside_pair N i k = ltb (pair_member i) N && (ltb (pair_first i k) N && (ltb (pair_last k) N && ltb k 64))

abbrev pub inside : (members : ℕ) → List ℕ → (i k : ℕ) → Bool
inside N [] i k = ltb i N && ltb k N
inside N (x ∷ []) i k = ltb i N && ltb k N
inside N (x ∷ y ∷ zs) i k = inside_pair N i k

-- The same of a formula.
abbrev pub standing : Formula → (i k : ℕ) → Assignment
standing f = standing_at (columns f)

abbrev pub member : Formula → (i : ℕ) → ℕ
member f = member_at (columns f)
