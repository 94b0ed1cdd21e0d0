-- The ways through what checking, opening and revising two banks gives.
use Prim.Native.Nat.{ℕ, ◌≤◌}
use mathlib.Core.Path.{◌≡◌, refl, sym, ap, ap₂, ◌∙◌}
use mathlib.Core.Bool.{Bool, true, false, cond, not, ◌&&◌, ◌||◌, true≢false}
use mathlib.Core.List.{List}
use lib.Dec.{ltb}
use lib.ListN.{length}
use borrow.Author.Tests.{ltb-false}
use Rattle.theory.specs.Terms.{same_size}
use Rattle.memory.specs.Layout.{terms_words, relation_words, own_words, terms_of}
use Rattle.memory.specs.Checks.{good_memory, good_relations}
use Rattle.memory.specs.Outcome.{Outcome, short_banks, good_banks, banks_check, banks_open, banks_revise}
use Rattle.memory.specs.Outcome.Outcome.{passed, refused}

-- 6, 7 and 8 in this order, and then what comes after them.
abbrev way : (short terms banks : Bool) → Outcome → Outcome
way s g b o = cond s (refused 6 0) (cond (not g) (refused 7 0) (cond (not b) (refused 8 0) o))

abbrev pub short : (terms relations own other : List ℕ) → Bool
short terms relations own other = ltb (length terms) terms_words || short_banks relations own other

either : (a b : Bool) → (a || b) ≡ false → (a ≡ false) × (b ≡ false)
either false b e = (refl, e)
either true b e = absurd (true≢false e)

module _ (terms relations own other : List ℕ) where
  -- Memory that is long enough.
  pub banks_long : short terms relations own other ≡ false →
      (terms_words ≤ length terms) × (relation_words ≤ length relations) × (own_words ≤ length own) × (own_words ≤ length other)
  banks_long e =
      let t = either (ltb (length terms) terms_words) (short_banks relations own other) e in
      let r = either (ltb (length relations) relation_words) (ltb (length own) own_words || ltb (length other) own_words) t.1 in
      let o = either (ltb (length own) own_words) (ltb (length other) own_words) r.1 in
      (ltb-false _ _ t.0, ltb-false _ _ r.0, ltb-false _ _ o.0, ltb-false _ _ o.1)

  abbrev g : Bool
  g = good_memory terms

  abbrev b : Bool
  b = good_banks (terms_of terms) relations own other

  abbrev r : Bool
  r = good_relations (terms_of terms) relations

  pub check_short : short terms relations own other ≡ true → refused 6 0 ≡ banks_check terms relations own other
  unfolding banks_check
  check_short e = sym (ap (λ s. way s g b passed) e)

  pub open_short : short terms relations own other ≡ true → refused 6 0 ≡ banks_open terms relations own other
  unfolding banks_open
  open_short e = sym (ap (λ s. way s g r passed) e)

  module _ (s : short terms relations own other ≡ false) where
    pub check_bad_terms : g ≡ false → refused 7 0 ≡ banks_check terms relations own other
    unfolding banks_check
    check_bad_terms e = sym (ap₂ (λ x y. way x y b passed) s e)

    pub open_bad_terms : g ≡ false → refused 7 0 ≡ banks_open terms relations own other
    unfolding banks_open
    open_bad_terms e = sym (ap₂ (λ x y. way x y r passed) s e)

    module _ (t : g ≡ true) where
      pub check_bad_banks : b ≡ false → refused 8 0 ≡ banks_check terms relations own other
      unfolding banks_check
      check_bad_banks e = sym (ap₂ (λ x y. way x y b passed) s t ∙ ap (λ z. way false true z passed) e)

      pub check_passed : b ≡ true → passed ≡ banks_check terms relations own other
      unfolding banks_check
      check_passed e = sym (ap₂ (λ x y. way x y b passed) s t ∙ ap (λ z. way false true z passed) e)

      pub open_bad_relations : r ≡ false → refused 8 0 ≡ banks_open terms relations own other
      unfolding banks_open
      open_bad_relations e = sym (ap₂ (λ x y. way x y r passed) s t ∙ ap (λ z. way false true z passed) e)

      pub open_passed : r ≡ true → passed ≡ banks_open terms relations own other
      unfolding banks_open
      open_passed e = sym (ap₂ (λ x y. way x y r passed) s t ∙ ap (λ z. way false true z passed) e)

module _ (old relations own other new relations' own' other' : List ℕ) where
  abbrev there : Bool
  there = short old relations own other

  abbrev second : Bool
  second = short new relations' own' other'

  abbrev last : Outcome
  last = cond (not (same_size (terms_of old) (terms_of new))) (refused 13 0) passed

  abbrev stands : Bool
  stands = good_banks (terms_of old) relations own other

  abbrev gives : Outcome
  gives = banks_revise old relations own other new relations' own' other'

  pub revise_short : there ≡ true → refused 6 0 ≡ gives
  unfolding banks_revise
  revise_short e = sym (ap (λ s. way (s || second) (good_memory old && good_memory new) stands last) e)

  module _ (l : there ≡ false) where
    pub revise_short_second : second ≡ true → refused 6 0 ≡ gives
    unfolding banks_revise
    revise_short_second e = sym (ap₂ (λ s z. way (s || z) (good_memory old && good_memory new) stands last) l e)

    module _ (k : second ≡ false) where
      long-is : gives ≡ way false (good_memory old && good_memory new) stands last
      unfolding banks_revise
      long-is = ap₂ (λ s z. way (s || z) (good_memory old && good_memory new) stands last) l k

      pub revise_bad_new : good_memory new ≡ false → refused 7 0 ≡ gives
      revise_bad_new e = sym (long-is ∙ ap (λ x. way false (good_memory old && x) stands last) e ∙ by (good_memory old))
        where
          by : (x : Bool) → way false (x && false) stands last ≡ refused 7 0
          by true = refl
          by false = refl

      module _ (n : good_memory new ≡ true) where
        pub revise_bad_old : good_memory old ≡ false → refused 7 0 ≡ gives
        revise_bad_old e = sym (long-is ∙ ap (λ x. way false (x && good_memory new) stands last) e)

        module _ (o : good_memory old ≡ true) where
          good-is : gives ≡ way false true stands last
          good-is = long-is ∙ ap₂ (λ x y. way false (x && y) stands last) o n

          pub revise_bad_banks : stands ≡ false → refused 8 0 ≡ gives
          revise_bad_banks e = sym (good-is ∙ ap (λ x. way false true x last) e)

          pub revise_other_size : stands ≡ true → same_size (terms_of old) (terms_of new) ≡ false → refused 13 0 ≡ gives
          revise_other_size e z =
              sym (good-is ∙ ap (λ x. way false true x last) e ∙ ap (λ x. cond (not x) (refused 13 0) passed) z)

          pub revise_passed : stands ≡ true → same_size (terms_of old) (terms_of new) ≡ true → passed ≡ gives
          revise_passed e z = sym (good-is ∙ ap (λ x. way false true x last) e ∙ ap (λ x. cond (not x) (refused 13 0) passed) z)
