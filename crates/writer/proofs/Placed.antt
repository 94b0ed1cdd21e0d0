-- Laws of lines as they are put: how long a word is, the word of a number, and one field more.
use Prim.Native.Nat.{ℕ, zero, suc, ◌≤◌}
use mathlib.Core.Path.{◌≡◌, refl, ap, subst, ◌∙◌}
use mathlib.Core.List.{List, [], ◌∷◌, ◌++◌, append_assoc}
use native.Mathlib.Omega.{arith}
use lib.ListN.{length, get_or, get_or-eq_default}
use Rattle.fields.specs.Split.{join}
use Rattle.file.specs.Words.{operator_words, action_words, direction_words, kind_words}
use Rattle.fields.specs.private.Put.{Put}
use Rattle.fields.proofs.Output.{put_none, put_then}

-- ---- words are short

pub operator_short : (k : ℕ) → length (get_or operator_words k []) ≤ 5
unfolding operator_words
operator_short zero = omega arith
operator_short (suc zero) = omega arith
operator_short (suc (suc zero)) = omega arith
operator_short (suc (suc (suc zero))) = omega arith
operator_short (suc (suc (suc (suc zero)))) = omega arith
operator_short (suc (suc (suc (suc (suc zero))))) = omega arith
operator_short (suc (suc (suc (suc (suc (suc zero)))))) = omega arith
operator_short (suc (suc (suc (suc (suc (suc (suc zero))))))) = omega arith
operator_short (suc (suc (suc (suc (suc (suc (suc (suc zero)))))))) = omega arith
operator_short (suc (suc (suc (suc (suc (suc (suc (suc (suc zero))))))))) = omega arith
operator_short (suc (suc (suc (suc (suc (suc (suc (suc (suc (suc zero)))))))))) = omega arith
operator_short (suc (suc (suc (suc (suc (suc (suc (suc (suc (suc (suc zero))))))))))) = omega arith
operator_short (suc (suc (suc (suc (suc (suc (suc (suc (suc (suc (suc (suc k)))))))))))) = omega arith

pub action_short : (k : ℕ) → length (get_or ([] ∷ action_words) k []) ≤ 5
unfolding action_words
action_short zero = omega arith
action_short (suc zero) = omega arith
action_short (suc (suc zero)) = omega arith
action_short (suc (suc (suc k))) = omega arith

pub direction_short : (k : ℕ) → length (get_or direction_words k []) ≤ 5
unfolding direction_words
direction_short zero = omega arith
direction_short (suc zero) = omega arith
direction_short (suc (suc k)) = omega arith

pub kind_short : (k : ℕ) → length (get_or kind_words k []) ≤ 1
unfolding kind_words
kind_short zero = omega arith
kind_short (suc zero) = omega arith
kind_short (suc (suc zero)) = omega arith
kind_short (suc (suc (suc zero))) = omega arith
kind_short (suc (suc (suc (suc zero)))) = omega arith
kind_short (suc (suc (suc (suc (suc zero))))) = omega arith
kind_short (suc (suc (suc (suc (suc (suc zero)))))) = omega arith
kind_short (suc (suc (suc (suc (suc (suc (suc zero))))))) = omega arith
kind_short (suc (suc (suc (suc (suc (suc (suc (suc zero)))))))) = omega arith
kind_short (suc (suc (suc (suc (suc (suc (suc (suc (suc zero))))))))) = omega arith
kind_short (suc (suc (suc (suc (suc (suc (suc (suc (suc (suc k)))))))))) = omega arith

-- ---- the word of a number

pub put_at : {o p : List ℕ} {at m : ℕ} (ws : List (List ℕ)) (k n : ℕ) → n ≡ k → Put o p at m (get_or ws k []) → Put o p at m (get_or ws n [])
put_at ws k n e f = rw e f

-- A number past the words has none.
pub put_past : (o : List ℕ) (at : ℕ) (ws : List (List ℕ)) (n : ℕ) → length ws ≤ n → Put o o at at (get_or ws n [])
put_past o at ws n h = rw (get_or-eq_default ws [] h) (put_none o at)

-- ---- one field more

join_more : (c : ℕ) (f : List ℕ) (fs : List (List ℕ)) (g : List ℕ) → join c (f ∷ fs) ++ (c ∷ g) ≡ join c (f ∷ (fs ++ (g ∷ [])))
unfolding join
join_more c f [] g = refl
join_more c f (e ∷ fs) g = append_assoc f (c ∷ join c (e ∷ fs)) (c ∷ g) ∙ ap (λ (l : List ℕ). f ++ (c ∷ l)) (join_more c e fs g)

pub put_next : {o p q : List ℕ} {i j k : ℕ} (f : List ℕ) (fs : List (List ℕ)) (g : List ℕ)
    → Put o p i j (join 9 (f ∷ fs)) → Put p q j k (9 ∷ g) → Put o q i k (join 9 (f ∷ (fs ++ (g ∷ []))))
put_next f fs g x y = subst (Put _ _ _ _) (join_more 9 f fs g) (put_then x y)
