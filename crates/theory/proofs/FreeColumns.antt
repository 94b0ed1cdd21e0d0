-- The columns of a formula, from the word that has its free variables: the least of them, and the least of the rest.
use Prim.Native.Nat.{ℕ, zero, suc, ◌+◌, ◌-◌, ◌^◌, ◌≤◌, ◌<◌}
use native.Mathlib.Omega.{arith}
use mathlib.Core.Path.{◌≡◌, refl, sym, ap, ap₂, subst, ◌∙◌}
use mathlib.Core.Bool.{Bool, true, false, cond, not, ◌&&◌, ◌||◌, false≢true}
use mathlib.Core.List.{List, [], ◌∷◌}
use lib.Bits.{bit_and}
use lib.Dec.{eqb, ltb}
use borrow.Author.Tests.{eq-eqb, ne_eqb, eqb-true, eqb-false}
use Rattle.sets.specs.Sets.{bit, least}
use Rattle.sets.proofs.Finite.{is_false, and_left, and_right, and_both}
use Rattle.sets.proofs.Bits.{bit_zero}
use Rattle.sets.proofs.Least.{Least, Rest, least_law, rest_law, least_first}
use Rattle.theory.specs.Formula.{Formula, free, those, or_target, columns}
use Rattle.theory.specs.Columns.{columns_fit}
use Rattle.theory.proofs.Places.{In, those_in, those_none}

those_next : (n k : ℕ) (p : ℕ → Bool) (x : ℕ) → k ≤ x → x < k + n → p x ≡ true → ((j : ℕ) → k ≤ j → j < x → p j ≡ false) →
    those n k p ≡ x ∷ those (k + n - suc x) (suc x) p
unfolding those
those_next zero k p x lo hi e none = absurd (omega arith)
those_next (suc n) k p x lo hi e none = go (eqb k x) refl (λ l. those_next n (suc k) p x l (omega arith) e (λ j jl. none j (omega arith)))
  where
    size : suc k + n ≡ k + suc n
    size = omega arith

    here : k ≡ x → n ≡ k + suc n - suc x
    here z = omega arith

    go : (c : Bool) → eqb k x ≡ c → (suc k ≤ x → those n (suc k) p ≡ x ∷ those (suc k + n - suc x) (suc x) p) →
        cond (p k) (k ∷ those n (suc k) p) (those n (suc k) p) ≡ x ∷ those (k + suc n - suc x) (suc x) p
    go true q ih =
        let z : k ≡ x = eqb-true k x q in
        ap (λ c. cond c (k ∷ those n (suc k) p) (those n (suc k) p)) (ap p z ∙ e)
        ∙ ap₂ (λ a m. a ∷ those m (suc a) p) z (here z)
    go false q ih =
        let z : k ≡ x → ⊥ = eqb-false k x q in
        ap (λ c. cond c (k ∷ those n (suc k) p) (those n (suc k) p)) (none k (omega arith) (omega arith))
        ∙ ih (omega arith) ∙ ap (λ m. x ∷ those (m - suc x) (suc x) p) size

-- s has the free variables of f, which are below 16.
module _ (f : Formula) (s : ℕ) (fits : s < 2 ^ 64) (small : (x : ℕ) → free f x ≡ true → x < 16) (has : (x : ℕ) → bit s x ≡ free f x) where
  abbrev rest : ℕ
  rest = bit_and s (s - 1)

  abbrev more : ℕ
  more = bit_and rest (rest - 1)

  empty : s ≡ 0 → (x : ℕ) → free f x ≡ false
  empty e x = sym (has x) ∙ ap (λ w. bit w x) e ∙ bit_zero x

  pub columns_none : s ≡ 0 → columns f ≡ 0 ∷ []
  columns_none e = ap or_target (those_none (free f) 16 0 (λ x _ _. empty e x))

  module _ (some : 0 < s) where
    one : Least s (least s)
    one = least_law s (least s) some fits refl

    left : Rest s rest
    left = rest_law s rest some fits refl

    pub first_free : free f (least s) ≡ true
    first_free = sym (has (least s)) ∙ one.here

    before_first : (j : ℕ) → j < least s → free f j ≡ false
    before_first j l = is_false (free f j) (λ e. omega (arith, least_first s j some fits (has j ∙ e)))

    first_column : those 16 0 (free f) ≡ least s ∷ those (16 - suc (least s)) (suc (least s)) (free f)
    first_column = those_next 16 0 (free f) (least s) (omega arith) (small (least s) first_free) first_free (λ j _ l. before_first j l)

    -- A later free variable is in the rest.
    in_rest : (j : ℕ) → suc (least s) ≤ j → free f j ≡ true → bit rest j ≡ true
    in_rest j l e = left.bits j ∙ and_both _ _ (has j ∙ e) (ap not (ne_eqb j (least s) (λ z. omega arith)))

    rest_fits : rest < 2 ^ 64
    rest_fits = let r : rest < s = left.less in omega arith

    columns_first : columns f ≡ least s ∷ those (16 - suc (least s)) (suc (least s)) (free f)
    columns_first = ap or_target first_column

    pub columns_single : rest ≡ 0 → columns f ≡ least s ∷ []
    columns_single e =
        columns_first
        ∙ ap (λ xs. least s ∷ xs) (those_none (free f) (16 - suc (least s)) (suc (least s))
        (λ x l _. is_false (free f x) (λ q. false≢true (sym (ap (λ w. bit w x) e ∙ bit_zero x) ∙ in_rest x l q))))

    module _ (two : 0 < rest) where
      second : Least rest (least rest)
      second = least_law rest (least rest) two rest_fits refl

      last : Rest rest more
      last = rest_law rest more two rest_fits refl

      second_in : (bit s (least rest) && not (eqb (least rest) (least s))) ≡ true
      second_in = sym (left.bits (least rest)) ∙ second.here

      pub second_free : free f (least rest) ≡ true
      second_free = sym (has (least rest)) ∙ and_left (bit s (least rest)) _ second_in

      apart : least rest ≡ least s → ⊥
      apart z = false≢true (sym (ap not (eq-eqb (least rest) (least s) z)) ∙ and_right (bit s (least rest)) _ second_in)

      pub rising : least s < least rest
      rising = let z : least rest ≡ least s → ⊥ = apart in
          omega (arith, least_first s (least rest) some fits (and_left (bit s (least rest)) _ second_in))

      between : (j : ℕ) → suc (least s) ≤ j → j < least rest → free f j ≡ false
      between j l h = is_false (free f j) (λ e. omega (arith, least_first rest j two rest_fits (in_rest j l e)))

      abbrev after : ℕ
      after = suc (least s) + (16 - suc (least s)) - suc (least rest)

      columns_second : columns f ≡ least s ∷ least rest ∷ those after (suc (least rest)) (free f)
      columns_second =
          columns_first
          ∙ ap (λ xs. least s ∷ xs) (those_next (16 - suc (least s)) (suc (least s)) (free f) (least rest) rising
          (let l : least rest < 16 = small (least rest) second_free in omega (arith, rising)) second_free between)

      in_more : (j : ℕ) → suc (least rest) ≤ j → free f j ≡ true → bit more j ≡ true
      in_more j l e =
          last.bits j ∙ and_both _ _ (in_rest j (omega (arith, rising)) e) (ap not (ne_eqb j (least rest) (λ z. omega arith)))

      pub columns_pair : more ≡ 0 → columns f ≡ least s ∷ least rest ∷ []
      columns_pair e =
          columns_second
          ∙ ap (λ xs. least s ∷ least rest ∷ xs) (those_none (free f) after (suc (least rest))
          (λ x l _. is_false (free f x) (λ q. false≢true (sym (ap (λ w. bit w x) e ∙ bit_zero x) ∙ in_more x l q))))

      module _ (three : 0 < more) where
        third : Least more (least more)
        third = least_law more (least more) three (let r : more < rest = last.less in omega (arith, rest_fits)) refl

        third_in : (bit rest (least more) && not (eqb (least more) (least rest))) ≡ true
        third_in = sym (last.bits (least more)) ∙ third.here

        third_rest : bit rest (least more) ≡ true
        third_rest = and_left (bit rest (least more)) _ third_in

        third_free : free f (least more) ≡ true
        third_free = sym (has (least more)) ∙ and_left (bit s (least more)) _ (sym (left.bits (least more)) ∙ third_rest)

        later : suc (least rest) ≤ least more
        later =
            let z : least more ≡ least rest → ⊥ =
            λ z. false≢true (sym (ap not (eq-eqb (least more) (least rest) z)) ∙ and_right (bit rest (least more)) _ third_in) in
            omega (arith, least_first rest (least more) two rest_fits third_rest)

        too_many : (N : ℕ) → columns_fit N (columns f) ≡ false
        too_many N = ap (columns_fit N) columns_second ∙ go (those after (suc (least rest)) (free f)) refl
          where
            go : (zs : List ℕ) → those after (suc (least rest)) (free f) ≡ zs → columns_fit N (least s ∷ least rest ∷ zs) ≡ false
            go [] e = absurd (subst (In (least more)) e (those_in (free f) after (suc (least rest)) (least more) later
                (omega (arith, rising, small (least more) third_free, later)) third_free))
            go (z ∷ zs) e = refl

  -- Refusal 4's condition.
  pub fit_of_set : (N : ℕ) → columns_fit N (columns f) ≡ (eqb rest 0 || (eqb more 0 && ltb N 17))
  fit_of_set N = by_some (eqb s 0) refl
    where
      by_more : (two : 0 < rest) (some : 0 < s) → (c : Bool) → eqb more 0 ≡ c → columns_fit N (columns f) ≡ (c && ltb N 17)
      by_more two some true e = ap (columns_fit N) (columns_pair some two (eqb-true more 0 e))
      by_more two some false e = too_many some two (let z : more ≡ 0 → ⊥ = eqb-false more 0 e in omega arith) N

      by_rest : (some : 0 < s) → (c : Bool) → eqb rest 0 ≡ c → columns_fit N (columns f) ≡ (c || (eqb more 0 && ltb N 17))
      by_rest some true e = ap (columns_fit N) (columns_single some (eqb-true rest 0 e))
      by_rest some false e = by_more (let z : rest ≡ 0 → ⊥ = eqb-false rest 0 e in omega arith) some (eqb more 0) refl

      by_some : (c : Bool) → eqb s 0 ≡ c → columns_fit N (columns f) ≡ (eqb rest 0 || (eqb more 0 && ltb N 17))
      by_some true e =
          let z : s ≡ 0 = eqb-true s 0 e in
          ap (columns_fit N) (columns_none z) ∙ sym (ap (λ w. eqb (bit_and w (w - 1)) 0 || (eqb (bit_and (bit_and w (w - 1)) (bit_and w (w - 1) - 1)) 0 && ltb N 17)) z)
      by_some false e = by_rest (let z : s ≡ 0 → ⊥ = eqb-false s 0 e in omega arith) (eqb rest 0) refl
