-- Bytes that are no separator: fields without tabs and lines without line feeds come apart
-- again as they were put together.
use Prim.Native.Nat.{ℕ, zero, suc, ◌<◌}
use mathlib.Core.Path.{◌≡◌, refl, ap, ◌∙◌}
use mathlib.Core.Logic.{⊎_elim}
use mathlib.Core.List.{List, [], ◌∷◌, ◌++◌, map}
use mathlib.Core.Bool.{Bool, true, false, not, ◌&&◌}
use native.Mathlib.Omega.{arith}
use lib.Dec.{eqb, leb}
use lib.ListN.{length, get_or}
use borrow.Author.Tests.{not-true, leb-true, eq-eqb, ne_eqb}
use Rattle.sets.proofs.Finite.{true_or_false, and_left, and_right, and_both}
use Rattle.theory.specs.Fit.{every}
use Rattle.fields.specs.Split.{Lines, split, join, lines}
use Rattle.fields.specs.Split.Lines.{done, line}
use Rattle.fields.specs.Number.{is_digit, all_digits, digits}
use Rattle.file.specs.Words.{operator_words, action_words, direction_words, kind_words}
use Rattle.file.specs.Line.{has_third, fields_of, printed}
use Rattle.file.specs.Writing.{printed_all}
use Rattle.file.specs.declared.line.Line.{Line}
use Rattle.file.specs.declared.line.Line.TheVariants.{Members, Labels, Entry, Policy, Effect, Edge, Form, TableBit, PairBit, EventEdge, Mark, Malformed}
use Rattle.fields.proofs.Digits.{digits_all_digits}

-- The byte c is not in a list.
unfoldable pub without : ℕ → List ℕ → Bool
without c [] = true
without c (x ∷ s) = not (eqb x c) && without c s

-- ---- fields

split_piece : (c : ℕ) (p s : List ℕ) → without c p ≡ true → split c (p ++ (c ∷ s)) ≡ p ∷ split c s
unfolding without split
split_piece c [] s h = rw (eq-eqb c c refl) refl
split_piece c (x ∷ p) s h =
    rw (not-true (eqb x c) (and_left (not (eqb x c)) _ h), split_piece c p s (and_right (not (eqb x c)) _ h)) refl

split_only : (c : ℕ) (p : List ℕ) → without c p ≡ true → split c p ≡ p ∷ []
unfolding without split
split_only c [] h = refl
split_only c (x ∷ p) h =
    rw (not-true (eqb x c) (and_left (not (eqb x c)) _ h), split_only c p (and_right (not (eqb x c)) _ h)) refl

-- Fields without the separator, at least one, are the pieces of what they are joined to.
split_join : (c : ℕ) (fs : List (List ℕ)) → 0 < length fs → every (map (without c) fs) ≡ true → split c (join c fs) ≡ fs
unfolding join every
split_join c [] h p = absurd (omega arith)
split_join c (f ∷ []) h p = split_only c f (and_left (without c f) _ p)
split_join c (f ∷ g ∷ fs) h p =
    split_piece c f (join c (g ∷ fs)) (and_left (without c f) _ p)
    ∙ ap {B = List (List ℕ)} (λ l. f ∷ l) (split_join c (g ∷ fs) (omega arith) (and_right (without c f) _ p))

-- ---- lines

without_append : (c : ℕ) (s t : List ℕ) → without c s ≡ true → without c t ≡ true → without c (s ++ t) ≡ true
unfolding without
without_append c [] t p q = q
without_append c (x ∷ s) t p q =
    and_both (not (eqb x c)) _ (and_left (not (eqb x c)) _ p) (without_append c s t (and_right (not (eqb x c)) _ p) q)

without_join : (c d : ℕ) (fs : List (List ℕ)) → eqb d c ≡ false → every (map (without c) fs) ≡ true → without c (join d fs) ≡ true
unfolding join every
without_join c d [] e p = unfold without in refl
without_join c d (f ∷ []) e p = and_left (without c f) _ p
without_join c d (f ∷ g ∷ fs) e p =
    without_append c f (d ∷ join d (g ∷ fs)) (and_left (without c f) _ p)
    (first (join d (g ∷ fs)) (without_join c d (g ∷ fs) e (and_right (without c f) _ p)))
  where
    first : (s : List ℕ) → without c s ≡ true → without c (d ∷ s) ≡ true
    first s h = unfold without in rw e h

lines_line : (l s : List ℕ) → without 10 l ≡ true → lines (l ++ (10 ∷ s)) ≡ line l (lines s)
unfolding without lines
lines_line [] s h = refl
lines_line (x ∷ l) s h =
    rw (not-true (eqb x 10) (and_left (not (eqb x 10)) _ h), lines_line l s (and_right (not (eqb x 10)) _ h)) refl

-- The lines that lines of a file are printed to.
unfoldable pub lines_of : List Line → Lines
lines_of [] = done
lines_of (l ∷ ls) = line (printed l) (lines_of ls)

-- ---- what is printed has no tab in its fields and no line feed

all_without : (c : ℕ) (s : List ℕ) → c < 48 → all_digits s ≡ true → without c s ≡ true
unfolding without all_digits is_digit
all_without c [] h p = refl
all_without c (x ∷ s) h p =
    let q = leb-true 48 x (and_left (leb 48 x) _ (and_left (leb 48 x && leb x 57) _ p)) in
    rw (ne_eqb x c (λ e. omega arith)) (all_without c s h (and_right (leb 48 x && leb x 57) _ p))

digits_without : (c n : ℕ) → c < 48 → without c (digits n) ≡ true
digits_without c n h = all_without c (digits n) h (digits_all_digits n)

-- What each word of a table and the empty one have.
pub word_all : (p : List ℕ → Bool) (ws : List (List ℕ)) → p [] ≡ true → every (map p ws) ≡ true → (k : ℕ) → p (get_or ws k []) ≡ true
unfolding every
word_all p [] z h k = z
word_all p (w ∷ ws) z h zero = and_left (p w) _ h
word_all p (w ∷ ws) z h (suc k) = word_all p ws z (and_right (p w) _ h) k

-- A byte that separates.
data Separator : ℕ → Type 0 where
  tab : Separator 9
  feed : Separator 10

kind_without : {c : ℕ} → Separator c → (k : ℕ) → without c (get_or kind_words k []) ≡ true
unfolding without kind_words every
kind_without tab k = word_all (without 9) kind_words refl refl k
kind_without feed k = word_all (without 10) kind_words refl refl k

operator_without : {c : ℕ} → Separator c → (k : ℕ) → without c (get_or operator_words k []) ≡ true
unfolding without operator_words every
operator_without tab k = word_all (without 9) operator_words refl refl k
operator_without feed k = word_all (without 10) operator_words refl refl k

action_without : {c : ℕ} → Separator c → (k : ℕ) → without c (get_or ([] ∷ action_words) k []) ≡ true
unfolding without action_words every
action_without tab k = word_all (without 9) ([] ∷ action_words) refl refl k
action_without feed k = word_all (without 10) ([] ∷ action_words) refl refl k

direction_without : {c : ℕ} → Separator c → (k : ℕ) → without c (get_or direction_words k []) ≡ true
unfolding without direction_words every
direction_without tab k = word_all (without 9) direction_words refl refl k
direction_without feed k = word_all (without 10) direction_words refl refl k

small : {c : ℕ} → Separator c → c < 48
small tab = omega arith
small feed = omega arith

fields_without : {c : ℕ} → Separator c → (l : Line) → every (map (without c) (fields_of l)) ≡ true
unfolding fields_of every
fields_without {c} s (Members n) = rw (kind_without s 0, digits_without c n (small s)) refl
fields_without {c} s (Labels r e) = rw (kind_without s 1, digits_without c r (small s), digits_without c e (small s)) refl
fields_without {c} s (Entry n o a b d) =
    rw (kind_without s 2, digits_without c n (small s), operator_without s o, digits_without c a (small s), digits_without c b (small s))
    (⊎_elim (λ e. rw e (rw (digits_without c d (small s)) refl)) (λ e. rw e refl) (true_or_false (has_third o)))
fields_without {c} s (Policy j n) = rw (kind_without s 3, digits_without c j (small s), digits_without c n (small s)) refl
fields_without {c} s (Effect j a k d) =
    rw (kind_without s 4, digits_without c j (small s), action_without s a, digits_without c k (small s), direction_without s d) refl
fields_without {c} s (Edge k a b) =
    rw (kind_without s 5, digits_without c k (small s), digits_without c a (small s), digits_without c b (small s)) refl
fields_without {c} s (Form n) = rw (kind_without s 6, digits_without c n (small s)) refl
fields_without {c} s (TableBit t a b) =
    rw (kind_without s 7, digits_without c t (small s), digits_without c a (small s), digits_without c b (small s)) refl
fields_without {c} s (PairBit t a b d) =
    rw (kind_without s 7, digits_without c t (small s), digits_without c a (small s), digits_without c b (small s), digits_without c d (small s)) refl
fields_without {c} s (EventEdge j u v) =
    rw (kind_without s 8, digits_without c j (small s), digits_without c u (small s), digits_without c v (small s)) refl
fields_without {c} s (Mark j) = rw (kind_without s 9, digits_without c j (small s)) refl
fields_without s Malformed = refl

printed_without : (l : Line) → without 10 (printed l) ≡ true
printed_without l = without_join 10 9 (fields_of l) refl (fields_without feed l)

-- A printed line parts into its fields.
pub split_printed : (l : Line) → 0 < length (fields_of l) → split 9 (printed l) ≡ fields_of l
split_printed l h = split_join 9 (fields_of l) h (fields_without tab l)

-- A text of printed lines parts into them.
pub lines_printed : (ls : List Line) → lines (printed_all ls) ≡ lines_of ls
unfolding printed_all lines_of
lines_printed [] = unfold lines in refl
lines_printed (l ∷ ls) = lines_line (printed l) (printed_all ls) (printed_without l) ∙ ap (line (printed l)) (lines_printed ls)
