-- Laws of fields and lines: how a text parts at its first separator, and that putting the
-- parts together gives the text back.
use Prim.Native.Nat.{ℕ, zero, suc, ◌+◌, ◌-◌, ◌≤◌, ◌<◌, zero-le, suc-le-suc}
use mathlib.Core.Path.{◌≡◌, refl, sym, ap, ap₂, ◌∙◌}
use mathlib.Core.Logic.{⊎_elim}
use mathlib.Core.List.{List, [], ◌∷◌}
use mathlib.Core.Bool.{true, false, and-false, false≢true}
use native.Mathlib.Omega.{arith}
use native.Mathlib.Nat.{le_of_eq}
use native.Mathlib.Numerals.{add-one}
use lib.Dec.{eqb, ltb}
use lib.ListN.{length, get_or, take, drop, length-drop}
use lib.Seq.{take_all, take-length}
use borrow.Author.Tests.{eqb-true, eq-eqb, ltb-true, ltb-false}
use Rattle.sets.proofs.Finite.{true_or_false, and_left, and_right}
use Rattle.fields.specs.Split.{push, split, join, Lines, push_line, lines, unlines, place, alike}
use Rattle.fields.specs.Split.Lines.{done, cut, line}

-- ---- the first separator

pub place_le : (c : ℕ) (s : List ℕ) → place c s ≤ length s
unfolding place
place_le c [] = zero-le
place_le c (x ∷ xs) =
    let h = place_le c xs in
    ⊎_elim (λ e. rw e zero-le) (λ e. rw e (suc-le-suc h)) (true_or_false (eqb x c))

-- The first piece and what follows its separator.
split_here : (c : ℕ) (s : List ℕ) → place c s < length s
    → split c s ≡ take (place c s) s ∷ split c (drop (suc (place c s)) s)
unfolding place split
split_here c [] h = absurd (omega arith)
split_here c (x ∷ xs) h =
    let ih = split_here c xs in
    ⊎_elim
    (λ e. rw e refl)
    (λ e. let k : suc (place c xs) < suc (length xs) = rw e at h in rw (e, ih (omega arith)) refl)
    (true_or_false (eqb x c))

-- The only piece.
split_last : (c : ℕ) (s : List ℕ) → place c s ≡ length s → split c s ≡ s ∷ []
unfolding place split
split_last c [] h = refl
split_last c (x ∷ xs) h =
    let ih = split_last c xs in
    ⊎_elim
    (λ e. let k : 0 ≡ suc (length xs) = rw e at h in absurd (omega arith))
    (λ e. let k : suc (place c xs) ≡ suc (length xs) = rw e at h in rw (e, ih (omega arith)) refl)
    (true_or_false (eqb x c))

-- The first line and what follows its line feed.
pub lines_here : (s : List ℕ) → place 10 s < length s
    → lines s ≡ line (take (place 10 s) s) (lines (drop (suc (place 10 s)) s))
unfolding place lines
lines_here [] h = absurd (omega arith)
lines_here (x ∷ xs) h =
    let ih = lines_here xs in
    ⊎_elim
    (λ e. rw e refl)
    (λ e. let k : suc (place 10 xs) < suc (length xs) = rw e at h in rw (e, ih (omega arith)) refl)
    (true_or_false (eqb x 10))

-- Bytes with no line feed.
pub lines_cut : (s : List ℕ) → place 10 s ≡ length s → 0 < length s → lines s ≡ cut s
unfolding place lines
lines_cut [] h p = absurd (omega arith)
lines_cut (x ∷ xs) h p =
    ⊎_elim
    (λ e. let k : 0 ≡ suc (length xs) = rw e at h in absurd (omega arith))
    (λ e. let k : suc (place 10 xs) ≡ suc (length xs) = rw e at h in rw e (go xs (omega arith) (lines_cut xs)))
    (true_or_false (eqb x 10))
  where
    go : (ys : List ℕ) → place 10 ys ≡ length ys
        → (place 10 ys ≡ length ys → 0 < length ys → lines ys ≡ cut ys) → push_line x (lines ys) ≡ cut (x ∷ ys)
    go [] q f = refl
    go (y ∷ ys) q f = rw (f q (suc-le-suc zero-le)) refl

-- ---- the parts put together

pub split_long : (c : ℕ) (s : List ℕ) → 0 < length (split c s)
unfolding split
split_long c [] = suc-le-suc zero-le
split_long c (x ∷ xs) =
    ⊎_elim (λ e. rw e (suc-le-suc zero-le)) (λ e. rw e (go (split c xs))) (true_or_false (eqb x c))
  where
    go : (ps : List (List ℕ)) → 0 < length (push x ps)
    go [] = suc-le-suc zero-le
    go (p ∷ ps) = suc-le-suc zero-le

join_push : (c x : ℕ) (ps : List (List ℕ)) → 0 < length ps → join c (push x ps) ≡ x ∷ join c ps
unfolding join
join_push c x [] h = absurd (omega arith)
join_push c x (p ∷ []) h = refl
join_push c x (p ∷ q ∷ ps) h = refl

join_nil : (c : ℕ) (ps : List (List ℕ)) → 0 < length ps → join c ([] ∷ ps) ≡ c ∷ join c ps
unfolding join
join_nil c [] h = absurd (omega arith)
join_nil c (p ∷ ps) h = refl

pub join_split : (c : ℕ) (s : List ℕ) → join c (split c s) ≡ s
unfolding split
join_split c [] = unfold join in refl
join_split c (x ∷ xs) =
    let ih = join_split c xs in
    ⊎_elim
    (λ e. rw e
    (join_nil c (split c xs) (split_long c xs) ∙ ap₂ {C = List ℕ} (λ a l. a ∷ l) (sym (eqb-true x c e)) ih))
    (λ e. rw e (join_push c x (split c xs) (split_long c xs) ∙ ap {B = List ℕ} (λ l. x ∷ l) ih))
    (true_or_false (eqb x c))

unlines_push : (x : ℕ) (r : Lines) → unlines (push_line x r) ≡ x ∷ unlines r
unfolding unlines
unlines_push x done = refl
unlines_push x (cut l) = refl
unlines_push x (line l r) = refl

pub unlines_lines : (s : List ℕ) → unlines (lines s) ≡ s
unfolding lines unlines
unlines_lines [] = refl
unlines_lines (x ∷ xs) =
    let ih = unlines_lines xs in
    ⊎_elim
    (λ e. rw e (ap₂ {C = List ℕ} (λ a l. a ∷ l) (sym (eqb-true x 10 e)) ih))
    (λ e. rw e (unlines_push x (lines xs) ∙ ap {B = List ℕ} (λ l. x ∷ l) ih))
    (true_or_false (eqb x 10))

-- ---- equal lists pass the test, and only those

pub alike_refl : (s : List ℕ) → alike s s ≡ true
unfolding alike
alike_refl [] = refl
alike_refl (x ∷ xs) = rw (eq-eqb x x refl, alike_refl xs) refl

pub alike_eq : (s t : List ℕ) → alike s t ≡ true → s ≡ t
unfolding alike
alike_eq [] [] h = refl
alike_eq [] (y ∷ ys) h = absurd (false≢true h)
alike_eq (x ∷ xs) [] h = absurd (false≢true h)
alike_eq (x ∷ xs) (y ∷ ys) h =
    ap₂ {C = List ℕ} (λ a l. a ∷ l)
    (eqb-true x y (and_left (eqb x y) _ h))
    (alike_eq xs ys (and_right (eqb x y) _ h))

pub alike_length : (s t : List ℕ) → (length s ≡ length t → ⊥) → alike s t ≡ false
unfolding alike
alike_length [] [] h = absurd (h refl)
alike_length [] (y ∷ ys) h = refl
alike_length (x ∷ xs) [] h = refl
alike_length (x ∷ xs) (y ∷ ys) h = rw (alike_length xs ys (λ e. h (ap suc e))) (and-false (eqb x y))

-- ---- a walk over the pieces

-- A part to the end of a list, as code takes it.
pub part_rest : (a : ℕ) (s : List ℕ) → take (length s - a) (drop a s) ≡ drop a s
part_rest a s = take_all (length s - a) (drop a s) (le_of_eq (length-drop a s))

pub rest_shorter : (n : ℕ) (t : List ℕ) → length (take (length t - (n + 1)) (drop (n + 1) t)) ≡ length t - (n + 1)
rest_shorter n t = rw (part_rest (n + 1) t) (length-drop (n + 1) t)

pub piece_none : (c : ℕ) (t : List ℕ) (n k : ℕ) → n ≡ place c t → length t ≤ n → 0 < k → get_or (split c t) k [] ≡ []
piece_none c t n zero e h p = absurd (omega arith)
piece_none c t n (suc k) e h p = rw (split_last c t (omega (arith, place_le c t))) refl

pub piece_first : (c : ℕ) (t : List ℕ) (n k : ℕ) → n ≡ place c t → k ≤ 0 → get_or (split c t) k [] ≡ take n t
piece_first c t n (suc k) e z = absurd (omega arith)
piece_first c t n zero e z =
    ⊎_elim
    (λ h. rw (e, split_here c t (ltb-true (place c t) (length t) h)) refl)
    (λ h. let k : place c t ≡ length t = omega (arith, place_le c t, ltb-false (place c t) (length t) h) in
    rw (split_last c t k, e, k) (sym (take-length t)))
    (true_or_false (ltb (place c t) (length t)))

pub piece_next : (c : ℕ) (t : List ℕ) (n k : ℕ) → n ≡ place c t → n < length t → 0 < k
    → get_or (split c t) k [] ≡ get_or (split c (take (length t - (n + 1)) (drop (n + 1) t))) (k - 1) []
piece_next c t n zero e h p = absurd (omega arith)
piece_next c t n (suc k) e h p =
    let q : suc k - 1 ≡ k = omega arith in
    rw (part_rest (n + 1) t, add-one n, q, e, split_here c t (omega arith)) refl
