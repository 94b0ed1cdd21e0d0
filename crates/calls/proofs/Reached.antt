-- No `requires` of a private function is empty: terms in which all twelve operators, a prev, a since over a since and
-- effects of both kinds and both directions take part are opened, and requests of theirs are granted, and denied and
-- kept; with no entry used twice, with one that is, and with binds nested so that a memo is taken.
use Prim.Native.Nat.{ℕ, ◌≤◌, ◌<◌}
use native.Mathlib.Omega.{arith}
use mathlib.Core.Path.{◌≡◌, refl, sym, ap, ◌∙◌, subst}
use mathlib.Core.List.{List, [], ◌∷◌, ◌++◌}
use mathlib.Core.Bool.{true, false, cond, ◌&&◌}
use lib.Dec.{eqb, ltb, lit≤}
use lib.ListN.{length, replicate, drop, get_or, length-replicate, get_or-replicate, get_or-append}
use lib.Seq.{get_or-drop}
use borrow.Author.Tests.{eqb-true}
use Rattle.sets.specs.Sets.{any_below, all_below, count_below}
use Rattle.sets.proofs.Finite.{and_left, and_right, and_both, all_true}
use Rattle.theory.specs.Formula.{node, number, below, spelled, free, those}
use Rattle.theory.specs.Meaning.{holds}
use Rattle.theory.specs.Moment.{Relations, affect_all}
use Rattle.theory.specs.Keeper.{Call, judge, keep, keep_all, keeper}
use Rattle.theory.specs.Fit.{every, operand_fits, only_free, reach_fits}
use Rattle.theory.specs.Cases.{requests, looks, own}
use Rattle.memory.specs.Layout.{terms_words, entry_at, policy_at, effect_at, mark_at, terms_of, effects_from, state_of}
use Rattle.memory.specs.Checks.{blank, good_memory}
use Rattle.memory.specs.Outcome.{opens}
use Rattle.memory.specs.Outcome.Outcome.{passed}
use Rattle.calls.specs.Agreement.{fed_all}
use Rattle.calls.specs.Reached.{many_terms, many_state, many_calls, many_answers, Reaches}
use Rattle.calls.proofs.Demand.{all_first_relations, demand_3}

own_inside : (k a b : ℕ) → own k a b ≡ true → (k < 1) × (a < 3) × (b < 3)
unfolding own
own_inside k a b e =
    let ka : (eqb k 0 && eqb a 0) ≡ true = and_left (eqb k 0 && eqb a 0) (eqb b 2) e in
    let kz : k ≡ 0 = eqb-true k 0 (and_left (eqb k 0) (eqb a 0) ka) in
    let az : a ≡ 0 = eqb-true a 0 (and_right (eqb k 0) (eqb a 0) ka) in
    let bz : b ≡ 2 = eqb-true b 2 (and_right (eqb k 0 && eqb a 0) (eqb b 2) e) in
    (omega arith, omega arith, omega arith)

module _ (e : ℕ) (good : good_memory (many_terms e) ≡ true)
    (kept : (keeper (terms_of (many_terms e)) own (looks 1 0 1 ∷ requests 1 0 1 ∷ requests 0 0 1 ∷ requests 1 0 1 ∷ looks 1 0 1 ∷ [])).0 ≡ many_answers)
  where
    long : terms_words ≤ length (many_terms e)
    unfolding many_terms
    long = lit≤ tt

    opened : (opens (many_terms e) (many_state e) ≡ passed) × ((state_of (many_state e)).now.edge ≡ own)
    unfolding terms_of many_terms
    opened = all_first_relations (many_terms e) long good own own_inside []

    reaches : Reaches e
    unfolding fed_all
    reaches = (
      opened.0,
      λ scratch l.
          (demand_3 (many_terms e) (many_state e) opened.0 (many_calls scratch)).0
          ∙ ap (λ (R : Relations). (keeper (terms_of (many_terms e)) R (fed_all (many_calls scratch))).0) opened.1
          ∙ ap (λ (n : ℕ). (keeper (terms_of (many_terms e)) own (called n)).0) l
          ∙ kept,
    )
      where
        called : ℕ → List Call
        called n =
            record { look = true; event = 1; from = 0; to = 1; scratch = n }
            ∷ record { look = false; event = 1; from = 0; to = 1; scratch = n }
            ∷ record { look = false; event = 0; from = 0; to = 1; scratch = n }
            ∷ record { look = false; event = 1; from = 0; to = 1; scratch = n }
            ∷ record { look = true; event = 1; from = 0; to = 1; scratch = n }
            ∷ []

-- Words of 0 are blank.
pub zeros_blank : (w : List ℕ) (from n : ℕ) (rest : List ℕ) → drop from w ≡ replicate n 0 ++ rest → blank w from n ≡ true
unfolding blank
zeros_blank w from n rest e = all_true n (λ k l.
    ap (λ (v : ℕ). eqb v 0)
    (sym (get_or-drop from w k 0) ∙ ap (λ (v : List ℕ). get_or v k 0) e
    ∙ get_or-append (replicate n 0) rest 0 k (subst (λ (m : ℕ). k < m) (sym (length-replicate n 0)) l) ∙ get_or-replicate n k 0 0 l))

-- What the tests of these terms come to: the words after the entries, the policies and the effects, and the marks.
blanks : (e : ℕ) → (blank (many_terms e) (entry_at 20) 944 && (blank (many_terms e) (policy_at 2) 14 && (blank (many_terms e) (effect_at 2 0) 168
    && (all_below 16 (λ j. ltb (get_or (many_terms e) (mark_at j) 0) (cond (ltb j 2) 2 1)) && true)))) ≡ true
unfolding many_terms all_below
blanks e =
    and_both _ _ (zeros_blank (many_terms e) (entry_at 20) 944 (0 ∷ 19 ∷ (replicate 26 0 ++ effects)) refl)
    (and_both _ _ (zeros_blank (many_terms e) (policy_at 2) 14 (replicate 12 0 ++ effects) refl)
    (and_both _ _ (zeros_blank (many_terms e) (effect_at 2 0) 168 marks refl) refl))
  where
    marks : List ℕ
    marks = 0 ∷ 1 ∷ replicate 14 0

    effects : List ℕ
    effects = 1 ∷ 0 ∷ 0 ∷ 2 ∷ 0 ∷ 1 ∷ 1 ∷ 0 ∷ 1 ∷ 2 ∷ 0 ∷ 0 ∷ (replicate 168 0 ++ marks)

-- With no entry used twice, with one that is, and with a memo.
pub reached : Reaches 1 × Reaches 14 × Reaches 16
unfolding many_terms good_memory terms_of every all_below any_below count_below operand_fits only_free reach_fits node number below spelled free those effects_from own judge keep keep_all holds affect_all
reached = (reaches 1 (blanks 1) refl, reaches 14 (blanks 14) refl, reaches 16 (blanks 16) refl)
