-- The effects of an event and their words: what is written is read back, keeps the layout, and is all that keeps it.
use Prim.Native.Nat.{ℕ, zero, suc, ◌+◌, ◌*◌, ◌≤◌, ◌<◌}
use native.Mathlib.Omega.{arith}
use mathlib.Core.Path.{◌≡◌, refl, sym, subst}
use mathlib.Core.Bool.{Bool, true, false, cond, ◌&&◌}
use mathlib.Core.List.{List, [], ◌∷◌}
use lib.Dec.{eqb, ltb}
use lib.ListN.{length, get_or}
use borrow.Author.Tests.{eqb-true, eqb-false, eq-eqb, ltb-true, lt-ltb}
use Rattle.sets.proofs.Finite.{and_left, and_right}
use Rattle.theory.specs.Terms.{Effect}
use Rattle.memory.specs.Layout.{effects_from}
use Rattle.theory.specs.Fit.{◌⇒◌, Within, more}
use Rattle.memory.specs.Checks.{effect_fits}
use Rattle.theory.proofs.Good.{implied}
use Rattle.reader.specs.Memory.{effect_word}

-- The three words from a word on are those of effect number i.
pub record Triple (w : List ℕ) (at : ℕ) (es : List Effect) (i : ℕ) : Type 0 where
  pub kind : get_or w at 0 ≡ effect_word es i 0
  pub relation : get_or w (at + 1) 0 ≡ effect_word es i 1
  pub direction : get_or w (at + 2) 0 ≡ effect_word es i 2

at_first : (from : ℕ) → from + 3 * 0 ≡ from
at_first from = omega arith

at_later : (from i : ℕ) → from + 3 * suc i ≡ from + 3 + 3 * i
at_later from i = omega arith

-- ---- effects written

adds_back : (c : Bool) → eqb (cond c 1 2) 1 ≡ c
adds_back true = refl
adds_back false = refl

back_back : (c : Bool) → eqb (cond c 1 0) 1 ≡ c
back_back true = refl
back_back false = refl

pub effects_read : (w : List ℕ) (from n : ℕ) (es : List Effect) → length es ≤ n → ((i : ℕ) → i < n → Triple w (from + 3 * i) es i) →
    effects_from w from n ≡ es
unfolding effects_from effect_word
effects_read w from zero [] l h = refl
effects_read w from zero (e ∷ es) l h = absurd (omega arith)
effects_read w from (suc n) [] l h =
    let t : Triple w from [] 0 = subst (λ k. Triple w k [] 0) (at_first from) (h 0 (omega arith)) in
    rw t.kind
effects_read w from (suc n) (e ∷ es) l h =
    let t : Triple w from (e ∷ es) 0 = subst (λ k. Triple w k (e ∷ es) 0) (at_first from) (h 0 (omega arith)) in
    let later : effects_from w (from + 3) n ≡ es =
    effects_read w (from + 3) n es (omega arith) (λ i il. subst (λ k. Triple w k es i) (at_later from i) (next i (h (suc i) (omega arith)))) in
    rw (t.kind, t.relation, t.direction, some e.adds, adds_back e.adds, back_back e.back, later)
  where
    some : (c : Bool) → eqb (cond c 1 2) 0 ≡ false
    some true = refl
    some false = refl

    next : (i : ℕ) → Triple w (from + 3 * suc i) (e ∷ es) (suc i) → Triple w (from + 3 * suc i) es i
    next i t = record { kind = t.kind; relation = t.relation; direction = t.direction }

pub effect-fits : (r : ℕ) (es : List Effect) → Within r es → (i : ℕ) → effect_fits r (effect_word es i 0) (effect_word es i 1) (effect_word es i 2) ≡ true
unfolding effect_word
effect-fits r [] g i = refl
effect-fits r (e ∷ es) (more l g) zero = go e.adds e.back
  where
    go : (c d : Bool) → effect_fits r (cond c 1 2) e.relation (cond d 1 0) ≡ true
    go true true = rw (lt-ltb e.relation r l)
    go true false = rw (lt-ltb e.relation r l)
    go false true = rw (lt-ltb e.relation r l)
    go false false = rw (lt-ltb e.relation r l)
effect-fits r (e ∷ es) (more l g) (suc i) = effect-fits r es g i

pub effects_front : (es : List Effect) (i : ℕ) → eqb (effect_word es i 0) 0 ⇒ eqb (effect_word es (suc i) 0) 0 ≡ true
unfolding effect_word
effects_front [] i = refl
effects_front (e ∷ es) zero = go e.adds
  where
    go : (c : Bool) → eqb (cond c 1 2) 0 ⇒ eqb (effect_word es 0 0) 0 ≡ true
    go true = refl
    go false = refl
effects_front (e ∷ es) (suc i) = effects_front es i

-- ---- effects read

-- The effect in three words from a word on, where there is one.
abbrev effect_from : List ℕ → ℕ → Effect
effect_from w from = record { adds = eqb (get_or w from 0) 1; relation = get_or w (from + 1) 0; back = eqb (get_or w (from + 2) 0) 1 }

pub effects_few : (w : List ℕ) (from n : ℕ) → length (effects_from w from n) ≤ n
unfolding effects_from
effects_few w from zero = omega arith
effects_few w from (suc n) = go (eqb (get_or w from 0) 0) (effects_few w (from + 3) n)
  where
    go : (c : Bool) → length (effects_from w (from + 3) n) ≤ n → length (cond c [] (effect_from w from ∷ effects_from w (from + 3) n)) ≤ suc n
    go true h = omega arith
    go false h = omega arith

-- What the tests say of n triples from a word on.
pub record Fitting (w : List ℕ) (r from n : ℕ) : Type 0 where
  pub fit : (i : ℕ) → i < n → effect_fits r (get_or w (from + 3 * i) 0) (get_or w (from + 3 * i + 1) 0) (get_or w (from + 3 * i + 2) 0) ≡ true
  pub front : (i : ℕ) → suc i < n → eqb (get_or w (from + 3 * i) 0) 0 ⇒ eqb (get_or w (from + 3 * suc i) 0) 0 ≡ true

module _ (w : List ℕ) (r : ℕ) where
  abbrev Fit : ℕ → Type 0
  Fit k = effect_fits r (get_or w k 0) (get_or w (k + 1) 0) (get_or w (k + 2) 0) ≡ true

  rest : (from n : ℕ) → Fitting w r from (suc n) → Fitting w r (from + 3) n
  rest from n f = record {
    fit = λ i l. subst Fit (at_later from i) (f.fit (suc i) (omega arith));
    front = λ i l. front i (f.front (suc i) (omega arith));
  }
    where
      front : (i : ℕ) → eqb (get_or w (from + 3 * suc i) 0) 0 ⇒ eqb (get_or w (from + 3 * suc (suc i)) 0) 0 ≡ true →
          eqb (get_or w (from + 3 + 3 * i) 0) 0 ⇒ eqb (get_or w (from + 3 + 3 * suc i) 0) 0 ≡ true
      front i e = rw (at_later from i, at_later from (suc i)) at e

  -- After an effect that is none there are no more.
  blank_triple : (from n : ℕ) → Fitting w r from n → get_or w from 0 ≡ 0 → (i : ℕ) → i < n → Triple w (from + 3 * i) [] i
  unfolding effect_word
  blank_triple from n f z i l = record {
    kind = kinds i l;
    relation = eqb-true _ 0 (and_left (eqb (get_or w (from + 3 * i + 1) 0) 0) _ unused);
    direction = eqb-true _ 0 (and_right (eqb (get_or w (from + 3 * i + 1) 0) 0) _ unused);
  }
    where
      kinds : (i : ℕ) → i < n → get_or w (from + 3 * i) 0 ≡ 0
      kinds zero l = rw (at_first from) z
      kinds (suc i) l = eqb-true _ 0 (implied (eqb (get_or w (from + 3 * i) 0) 0) _ (f.front i l) (eq-eqb _ 0 (kinds i (omega arith))))

      unused : (eqb (get_or w (from + 3 * i + 1) 0) 0 && eqb (get_or w (from + 3 * i + 2) 0) 0) ≡ true
      unused = rw (kinds i l) at (f.fit i l)

  pub effects_written : (from n : ℕ) → Fitting w r from n → (i : ℕ) → i < n → Triple w (from + 3 * i) (effects_from w from n) i
  unfolding effects_from effect_word
  effects_written from zero f i l = absurd (omega arith)
  effects_written from (suc n) f i l = go (eqb (get_or w from 0) 0) refl (effects_written (from + 3) n (rest from n f)) i l
    where
      kind-is : (k : ℕ) → (k ≡ 0 → ⊥) → k < 3 → k ≡ cond (eqb k 1) 1 2
      kind-is zero z l = absurd (z refl)
      kind-is (suc zero) z l = refl
      kind-is (suc (suc zero)) z l = refl
      kind-is (suc (suc (suc k))) z l = absurd (omega arith)

      direction-is : (k : ℕ) → k < 2 → k ≡ cond (eqb k 1) 1 0
      direction-is zero l = refl
      direction-is (suc zero) l = refl
      direction-is (suc (suc k)) l = absurd (omega arith)

      here : eqb (get_or w from 0) 0 ≡ false → Triple w from (effect_from w from ∷ effects_from w (from + 3) n) 0
      here z =
          let t : Fit from = subst Fit (at_first from) (f.fit 0 (omega arith)) in
          let fits : ltb (get_or w from 0) 3 && (ltb (get_or w (from + 1) 0) r && ltb (get_or w (from + 2) 0) 2) ≡ true = rw z at t in
          record {
            kind = kind-is (get_or w from 0) (eqb-false (get_or w from 0) 0 z) (ltb-true _ 3 (and_left (ltb (get_or w from 0) 3) _ fits));
            relation = refl;
            direction = direction-is (get_or w (from + 2) 0)
                (ltb-true _ 2 (and_right (ltb (get_or w (from + 1) 0) r) _ (and_right (ltb (get_or w from 0) 3) _ fits)));
          }

      go : (c : Bool) → eqb (get_or w from 0) 0 ≡ c → ((i : ℕ) → i < n → Triple w (from + 3 + 3 * i) (effects_from w (from + 3) n) i) →
          (i : ℕ) → i < suc n → Triple w (from + 3 * i) (cond c [] (effect_from w from ∷ effects_from w (from + 3) n)) i
      go true z ih i l = blank_triple from (suc n) f (eqb-true _ 0 z) i l
      go false z ih zero l = subst (λ k. Triple w k (effect_from w from ∷ effects_from w (from + 3) n) 0) (sym (at_first from)) (here z)
      go false z ih (suc i) l =
          let t : Triple w (from + 3 * suc i) (effects_from w (from + 3) n) i =
          subst (λ k. Triple w k (effects_from w (from + 3) n) i) (sym (at_later from i)) (ih i (omega arith)) in
          record { kind = t.kind; relation = t.relation; direction = t.direction }
