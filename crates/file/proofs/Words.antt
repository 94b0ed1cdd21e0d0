-- Laws of the tables of words: reading word k of a table gives k, and a field with a number is the word of that number.
use Prim.Native.Nat.{ℕ, zero, suc, ◌+◌, ◌≤◌, ◌<◌}
use mathlib.Core.Path.{◌≡◌, refl, sym, ap, ◌∙◌}
use mathlib.Core.Logic.{⊎_elim}
use mathlib.Core.List.{List, [], ◌∷◌}
use mathlib.Core.Bool.{true, false, not, and-false}
use native.Mathlib.Omega.{arith}
use native.Mathlib.Numerals.{add-one}
use lib.Dec.{ltb}
use lib.ListN.{length, get_or}
use borrow.Author.Tests.{ne_eqb, not-true, lt-ltb, le-ltb, ltb-true, ltb-false}
use Rattle.sets.proofs.Finite.{true_or_false, and_left, and_right}
use Rattle.fields.specs.Split.{alike}
use Rattle.file.specs.Words.{operator_words, action_words, direction_words, kind_words, absent, distinct, index_from, index_of, operator_of, action_of, direction_of, kind_of}
use Rattle.fields.proofs.Split.{alike_refl, alike_eq}

-- ---- any table

absent_at : (w : List ℕ) (vs : List (List ℕ)) (k : ℕ) → absent w vs ≡ true → k < length vs → alike (get_or vs k []) w ≡ false
unfolding absent
absent_at w [] k a h = absurd (omega arith)
absent_at w (v ∷ vs) zero a h = not-true (alike v w) (and_left (not (alike v w)) (absent w vs) a)
absent_at w (v ∷ vs) (suc k) a h = absent_at w vs k (and_right (not (alike v w)) (absent w vs) a) (omega arith)

from_at : (j : ℕ) (ws : List (List ℕ)) (k : ℕ) → distinct ws ≡ true → k < length ws → index_from j ws (get_or ws k []) ≡ j + k
unfolding index_from distinct
from_at j [] k d h = absurd (omega arith)
from_at j (w ∷ ws) zero d h = rw (alike_refl w) (omega arith)
from_at j (w ∷ ws) (suc k) d h =
    let ih : index_from (suc j) ws (get_or ws k []) ≡ suc j + k = from_at (suc j) ws k (and_right (absent w ws) (distinct ws) d) (omega arith) in
    rw (absent_at w ws k (and_left (absent w ws) (distinct ws) d) (omega arith)) (omega arith)

index_of_at : (ws : List (List ℕ)) (k : ℕ) → distinct ws ≡ true → k < length ws → index_of ws (get_or ws k []) ≡ k
index_of_at ws k d h = let e : index_from 0 ws (get_or ws k []) ≡ 0 + k = from_at 0 ws k d h in omega arith

from_le : (j : ℕ) (ws : List (List ℕ)) (f : List ℕ) → j ≤ index_from j ws f
unfolding index_from
from_le j [] f = omega arith
from_le j (w ∷ ws) f =
    let ih : suc j ≤ index_from (suc j) ws f = from_le (suc j) ws f in
    ⊎_elim (λ e. rw e (omega arith)) (λ e. rw e (omega arith)) (true_or_false (alike f w))

from_back : (j : ℕ) (ws : List (List ℕ)) (f : List ℕ) (k : ℕ) → index_from j ws f ≡ j + k → k < length ws → f ≡ get_or ws k []
unfolding index_from
from_back j [] f k e h = absurd (omega arith)
from_back j (w ∷ ws) f zero e h =
    ⊎_elim
    (λ t. alike_eq f w t)
    (λ t. let g : index_from (suc j) ws f ≡ j + 0 = rw t at e in absurd (omega (arith, from_le (suc j) ws f)))
    (true_or_false (alike f w))
from_back j (w ∷ ws) f (suc k) e h =
    let ih = from_back (suc j) ws f k in
    ⊎_elim
    (λ t. let g : j ≡ j + suc k = rw t at e in absurd (omega arith))
    (λ t. let g : index_from (suc j) ws f ≡ j + suc k = rw t at e in ih (omega arith) (omega arith))
    (true_or_false (alike f w))

index_of_back : (ws : List (List ℕ)) (f : List ℕ) (k : ℕ) → index_of ws f ≡ k → k < length ws → f ≡ get_or ws k []
index_of_back ws f k e h = from_back 0 ws f k (omega arith) h

-- ---- the tables

operators_distinct : distinct operator_words ≡ true
unfolding operator_words distinct absent alike
operators_distinct = refl

actions_distinct : distinct action_words ≡ true
unfolding action_words distinct absent alike
actions_distinct = refl

directions_distinct : distinct direction_words ≡ true
unfolding direction_words distinct absent alike
directions_distinct = refl

kinds_distinct : distinct kind_words ≡ true
unfolding kind_words distinct absent alike
kinds_distinct = refl

pub operator_at : (k : ℕ) → k < length operator_words → operator_of (get_or operator_words k []) ≡ k
unfolding operator_of
operator_at k h = index_of_at operator_words k operators_distinct h

pub operator_back : (f : List ℕ) → operator_of f < length operator_words → f ≡ get_or operator_words (operator_of f) []
unfolding operator_of
operator_back f h = index_of_back operator_words f (index_of operator_words f) refl h

pub direction_at : (k : ℕ) → k < length direction_words → direction_of (get_or direction_words k []) ≡ k
unfolding direction_of
direction_at k h = index_of_at direction_words k directions_distinct h

pub direction_back : (f : List ℕ) → direction_of f < length direction_words → f ≡ get_or direction_words (direction_of f) []
unfolding direction_of
direction_back f h = index_of_back direction_words f (index_of direction_words f) refl h

pub kind_at : (k : ℕ) → k < length kind_words → kind_of (get_or kind_words k []) ≡ k
unfolding kind_of
kind_at k h = index_of_at kind_words k kinds_distinct h

pub kind_back : (f : List ℕ) → kind_of f < length kind_words → f ≡ get_or kind_words (kind_of f) []
unfolding kind_of
kind_back f h = index_of_back kind_words f (index_of kind_words f) refl h

-- A field of one byte, and a kind by its byte.
one_byte : (f : List ℕ) → 1 ≤ length f → length f < 2 → f ≡ get_or f 0 0 ∷ []
one_byte [] h k = absurd (omega arith)
one_byte (b ∷ []) h k = refl
one_byte (b ∷ d ∷ f) h k = absurd (omega arith)

pub kind_byte : (f : List ℕ) (b k : ℕ) → kind_of (b ∷ []) ≡ k → 1 ≤ length f → length f < 2 → get_or f 0 0 ≡ b → k ≡ kind_of f
kind_byte f b k e h l g = sym (ap kind_of (one_byte f h l ∙ ap {B = List ℕ} (λ d. d ∷ []) g) ∙ e)

pub kind_short : (f : List ℕ) → length f < 1 → 10 ≡ kind_of f
unfolding kind_of kind_words index_from alike
kind_short [] h = refl
kind_short (b ∷ f) h = absurd (omega arith)

pub kind_long : (f : List ℕ) → 2 ≤ length f → 10 ≡ kind_of f
unfolding kind_of kind_words index_from alike
kind_long [] h = absurd (omega arith)
kind_long (b ∷ []) h = absurd (omega arith)
kind_long (b ∷ d ∷ f) h = simp and-false

pub kind_other : (f : List ℕ) → 1 ≤ length f → length f < 2 → (b : ℕ) → b ≡ get_or f 0 0
    → (b ≡ 77 → ⊥) → (b ≡ 76 → ⊥) → (b ≡ 70 → ⊥) → (b ≡ 80 → ⊥) → (b ≡ 69 → ⊥) → (b ≡ 71 → ⊥) → (b ≡ 83 → ⊥)
    → (b ≡ 84 → ⊥) → (b ≡ 86 → ⊥) → (b ≡ 75 → ⊥) → 10 ≡ kind_of f
kind_other f h l b e m n o p q r s t u v =
    kind_byte f b 10
    (unfold kind_of kind_words index_from alike in
    rw (ne_eqb b 77 m, ne_eqb b 76 n, ne_eqb b 70 o, ne_eqb b 80 p, ne_eqb b 69 q, ne_eqb b 71 r, ne_eqb b 83 s, ne_eqb b 84 t, ne_eqb b 86 u, ne_eqb b 75 v)
    refl)
    h l (sym e)

-- ---- actions: the number is one more than the place

pub action_some : (f : List ℕ) (k : ℕ) → k ≡ index_of action_words f → k < 2 → k + 1 ≡ action_of f
unfolding action_of
action_some f k e h = rw (← e, lt-ltb k 2 h)

pub action_none : (f : List ℕ) (k : ℕ) → k ≡ index_of action_words f → 2 ≤ k → 0 ≡ action_of f
unfolding action_of
action_none f k e h = rw (← e, le-ltb k 2 h)

pub action_at : (k : ℕ) → k < length action_words → action_of (get_or action_words k []) ≡ k + 1
unfolding action_words
action_at k h = sym (action_some (get_or action_words k []) k (sym (index_of_at action_words k actions_distinct h)) h)

pub action_back : (f : List ℕ) → 0 < action_of f → f ≡ get_or ([] ∷ action_words) (action_of f) []
action_back f h =
    ⊎_elim
    (λ t. let l = ltb-true (index_of action_words f) 2 t in
    rw (← action_some f (index_of action_words f) refl l, add-one (index_of action_words f))
    (index_of_back action_words f (index_of action_words f) refl (unfold action_words in l)))
    (λ t. let z : 0 ≡ action_of f = action_none f (index_of action_words f) refl (ltb-false (index_of action_words f) 2 t) in
    absurd (omega arith))
    (true_or_false (ltb (index_of action_words f) 2))
