-- Laws of scans: what holds of the rest of a list at i, by its byte at i and the rest at i + 1.
use Prim.Native.Nat.{ℕ, ◌+◌, ◌-◌, ◌*◌, ◌^◌, ◌≤◌, ◌<◌}
use mathlib.Core.Path.{◌≡◌, refl, ap, ◌∙◌}
use mathlib.Core.Logic.{⊎_elim}
use mathlib.Core.List.{List, [], ◌∷◌}
use mathlib.Core.Bool.{true, false}
use native.Mathlib.Omega.{arith}
use native.Mathlib.Nat.{pow-suc}
use native.Mathlib.Numerals.{one-add, add-one}
use lib.Dec.{eqb, ltb}
use lib.ListN.{length, get_or, drop, drop_of_length-le}
use lib.Seq.{drop-cons}
use lib.Pointwise.{pointwise}
use borrow.Author.Tests.{ltb-false}
use denote.Ref.{Bor}
use Rattle.std.specs.Char.{is_ascii_digit}
use Rattle.std.specs.Option.{unwrap_or, option_map}
use Rattle.std.proofs.Common.{Option, None, Some}
use Rattle.std.proofs.lemmas.Option.{unwrap_or-slice_get}
use Rattle.std.specs.List.{position, slice_get, position_or_len, slice_split, onto_first, count_by}
use Rattle.std.proofs.lemmas.List.Recursion.{is_position_or_len}
use Rattle.std.proofs.lemmas.List.Splits.{length-slice_split}
use Rattle.sets.proofs.Finite.{true_or_false}
use Rattle.fields.proofs.Split.{place_le}
use Rattle.fields.specs.Split.{push, split, place, alike}
use Rattle.fields.specs.Number.{is_digit, all_digits, value_from}

-- ---- a separator

place_std : (c : ℕ) (xs : List ℕ) → place c xs ≡ position_or_len (λ x. eqb x c) xs
place_std c xs =
    is_position_or_len (place c) (λ x. eqb x c) (unfold place in refl)
    (λ x ys. unfold place in rw (one-add (place c ys)) refl) xs

pub place_found : (c : ℕ) (xs : List ℕ) → place c xs ≡ unwrap_or (position (λ x. eqb x c) xs) (length xs)
place_found c xs =
    let n = position_or_len (λ x. eqb x c) xs in
    let h : n ≤ length xs = rw place_std at (place_le c xs) in
    place_std c xs
    ∙ ⊎_elim
    (λ t. rw t refl)
    (λ t. rw t (let b = ltb-false n (length xs) t in omega arith))
    (true_or_false (ltb n (length xs)))

push_std : (x : ℕ) (ps : List (List ℕ)) → push x ps ≡ onto_first x ps
push_std x [] = refl
push_std x (p ∷ ps) = refl

pub split_std : (c : ℕ) (xs : List ℕ) → split c xs ≡ slice_split (λ x. eqb x c) xs
unfolding split
split_std c [] = refl
split_std c (x ∷ xs) = rw (split_std c xs, push_std) refl

pub split_count : (c : ℕ) (xs : List ℕ) → length (split c xs) ≡ count_by (λ x. eqb x c) xs + 1
split_count c xs = rw split_std (length-slice_split _ xs)

pub piece_or_empty : (r : Option (Bor (List ℕ))) (b d : Bor (List ℕ)) (ps : List (List ℕ)) (k : ℕ)
    → b ≡ unwrap_or r d → d.now ≡ [] → option_map (λ x. x.now) r ≡ slice_get ps k → b.now ≡ get_or ps k []
piece_or_empty None b d ps k e n g = ap (λ (x : Bor (List ℕ)). x.now) e ∙ n ∙ rw (← g) at (unwrap_or-slice_get ps k [])
piece_or_empty (Some x) b d ps k e n g = ap (λ (x : Bor (List ℕ)). x.now) e ∙ rw (← g) at (unwrap_or-slice_get ps k [])

-- ---- two words

pub alike_std : (s t : List ℕ) → alike s t ≡ pointwise eqb s t
unfolding alike
alike_std [] [] = refl
alike_std [] (y ∷ ys) = refl
alike_std (x ∷ xs) [] = refl
alike_std (x ∷ xs) (y ∷ ys) = rw (alike_std xs ys) refl

-- ---- digits

pub digit_std : (d : ℕ) → is_digit d ≡ is_ascii_digit d
unfolding is_digit
digit_std d = refl

module _ (f : List ℕ) (i : ℕ) (h : i < length f) where
  pub digit_other : is_digit (get_or f i 0) ≡ false → all_digits (drop i f) ≡ false
  unfolding all_digits
  digit_other e = rw (drop-cons f i 0 h, e) refl

  pub digit_next : is_digit (get_or f i 0) ≡ true → all_digits (drop i f) ≡ all_digits (drop (i + 1) f)
  unfolding all_digits
  digit_next e = rw (add-one i, drop-cons f i 0 h, e) refl

  pub value_next : (v : ℕ) → value_from v (drop i f) ≡ value_from (v * 10 + (get_or f i 0 - 48)) (drop (i + 1) f)
  unfolding value_from
  value_next v = rw (add-one i, drop-cons f i 0 h) refl

pub digits_end : (f : List ℕ) (i : ℕ) → length f ≤ i → all_digits (drop i f) ≡ true
unfolding all_digits
digits_end f i h = rw (drop_of_length-le f h) refl

pub value_end : (f : List ℕ) (i v : ℕ) → length f ≤ i → value_from v (drop i f) ≡ v
unfolding value_from
value_end f i v h = rw (drop_of_length-le f h) refl

-- i digits make a value below 10 ^ i.
pub ten_more : (v d i : ℕ) → v < 10 ^ i → d ≤ 57 → v * 10 + (d - 48) < 10 ^ (i + 1)
ten_more v d i h k = rw (add-one i, pow-suc 10 i) (omega arith)
