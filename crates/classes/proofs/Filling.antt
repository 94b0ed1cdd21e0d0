-- The classes that are filled in: a turn of each loop, and for good terms the first old entries with the
-- same fully spelled-out formulas.
use Prim.Native.Nat.{ℕ, zero, suc, ◌+◌, ◌≤◌, ◌<◌}
use native.Mathlib.Omega.{arith}
use native.Mathlib.Numerals.{add-one}
use mathlib.Core.Path.{◌≡◌, refl, sym, ap, ap₂, ◌∙◌, subst}
use mathlib.Core.Bool.{Bool, true, false, cond}
use mathlib.Core.List.{List}
use mathlib.Core.Logic.{◌⊎◌, inl, inr}
use lib.Dec.{eqb, ltb}
use lib.ListN.{length, get_or, set, replicate, length-set, length-replicate}
use lib.Seq.{get_or-set_same, get_or-set_other}
use borrow.Author.Tests.{le-ltb, ltb-false, eq-eqb}
use Rattle.sets.proofs.Finite.{last_or_below}
use Rattle.theory.specs.Formula.{lowest, same}
use Rattle.theory.specs.Limits.{max_entries}
use Rattle.theory.specs.Terms.{Terms, labels, formula, first_same}
use Rattle.theory.specs.private.Classes.{same_entry, Classed}
use Rattle.theory.specs.Fit.{Good}
use Rattle.theory.proofs.Lowest.{lowest_le, lowest_cong}
use Rattle.theory.proofs.SameEntry.{new-class, old-class}
use Rattle.memory.specs.Layout.{terms_of}
use Rattle.memory.specs.Checks.{good_memory}
use Rattle.memory.proofs.Accepted.{good}
use Rattle.classes.specs.private.Keys.{key_of}
use Rattle.classes.specs.private.Filled.{counted, found, key_by, own_filled, filled, classes_of}
use Rattle.classes.proofs.Comparing.{key_cong, key_same}

-- ---- a turn of each loop

pub own_turn : (T : Terms) (w ks : List ℕ) (n : ℕ) (v us : List ℕ) (k key : ℕ) → v ≡ (own_filled T n w ks).0 → us ≡ (own_filled T n w ks).1 → key ≡ key_by T v n → k ≡ found us n key →
    (set v n k ≡ (own_filled T (n + 1) w ks).0) × (set us n key ≡ (own_filled T (n + 1) w ks).1)
unfolding own_filled
own_turn T w ks n v us k key e f q r =
    subst (λ (j : ℕ). (set v n k ≡ (own_filled T j w ks).0) × (set us n key ≡ (own_filled T j w ks).1)) (sym (add-one n)) (
      ap (set v n) (r ∙ ap (found us n) q) ∙ ap₂ (λ (x y : List ℕ). set x n (found y n (key_by T x n))) e f,
      ap (set us n) q ∙ ap₂ (λ (x y : List ℕ). set y n (key_by T x n)) e f,
    )

pub turn : (U : Terms) (ks : List ℕ) (limit : ℕ) (w : List ℕ) (n : ℕ) (v : List ℕ) (k key : ℕ) →
    v ≡ filled U ks limit n w → key ≡ key_by U v n → k ≡ found ks limit key → set v n k ≡ filled U ks limit (n + 1) w
unfolding filled
turn U ks limit w n v k key e q r =
    subst (λ (j : ℕ). set v n k ≡ filled U ks limit j w) (sym (add-one n))
    (ap (set v n) (r ∙ ap (found ks limit) q) ∙ ap (λ (u : List ℕ). set u n (found ks limit (key_by U u n))) e)

pub filled_length : (U : Terms) (ks : List ℕ) (limit n : ℕ) (w : List ℕ) → length (filled U ks limit n w) ≡ length w
unfolding filled
filled_length U ks limit zero w = refl
filled_length U ks limit (suc n) w =
    let v = filled U ks limit n w in length-set v n (found ks limit (key_by U v n)) ∙ filled_length U ks limit n w

own_lengths : (T : Terms) (n : ℕ) (w ks : List ℕ) → (length (own_filled T n w ks).0 ≡ length w) × (length (own_filled T n w ks).1 ≡ length ks)
unfolding own_filled
own_lengths T zero w ks = (refl, refl)
own_lengths T (suc n) w ks =
    let p = own_filled T n w ks in
    let key = key_by T p.0 n in
    let ih = own_lengths T n w ks in
    (length-set p.0 n (found p.1 n key) ∙ ih.0, length-set p.1 n key ∙ ih.1)

-- The number of entries, cut off at the most that there may be.
pub counted_few : (terms : List ℕ) → (terms_of terms).entries ≤ max_entries → (terms_of terms).entries ≡ counted terms
counted_few terms l = rw (le-ltb max_entries (terms_of terms).entries l)

-- Both loops, one after the other.
pub all_filled : (old new before : List ℕ) (l n : ℕ) (ks w : List ℕ) → l ≡ counted old → n ≡ counted new →
    ks ≡ (own_filled (terms_of old) l (replicate max_entries 0) (replicate max_entries 0)).1 → w ≡ filled (terms_of new) ks l n before → w ≡ classes_of old new before
unfolding classes_of
all_filled old new before l n ks w el en ek ew =
    ew
    ∙ ap (λ (v : List ℕ). filled (terms_of new) v l n before) ek
    ∙ ap₂ (λ (i j : ℕ). filled (terms_of new) (own_filled (terms_of old) i (replicate max_entries 0) (replicate max_entries 0)).1 i j before) el en

-- ---- good terms

few_labels : (T : Terms) → Good T → labels T < 65536
few_labels T g = omega (arith, g.few_relations, g.few_events)

small_class : (T : Terms) → Good T → (U : Terms) (x : ℕ) → first_same T (formula U x) < 65536
unfolding first_same
small_class T g U x = omega (arith, lowest_le (λ k. same (formula T k) (formula U x)) T.entries, g.few_entries)

-- One class more.
classed_more : (T U : Terms) (w : List ℕ) (n c : ℕ) → Classed T U n w → n < length w → c ≡ first_same T (formula U n) → Classed T U (suc n) (set w n c)
classed_more T U w n c f l e = record { here = λ k kl. go k (last_or_below k n kl) }
  where
    go : (k : ℕ) → (k < n) ⊎ (k ≡ n) → get_or (set w n c) k 0 ≡ first_same T (formula U k)
    go k (inl kl) = get_or-set_other w n k c 0 (λ z. omega arith) ∙ f.here k kl
    go k (inr z) = rw z (get_or-set_same w n c 0 l ∙ e)

-- The lowest below n, or n, is that below n + 1 where n passes.
lowest_self : (p : ℕ → Bool) (n : ℕ) → p n ≡ true → lowest (suc n) p ≡ lowest n p
unfolding lowest
lowest_self p n e = go (ltb (lowest n p) n) refl
  where
    go : (b : Bool) → ltb (lowest n p) n ≡ b → cond b (lowest n p) (cond (p n) n (suc n)) ≡ lowest n p
    go true q = refl
    go false q = rw e (let h = ltb-false (lowest n p) n q in let l = lowest_le p n in omega arith)

module _ (T : Terms) (g : Good T) where
  abbrev own : ℕ → ℕ
  own x = first_same T (formula T x)

  abbrev key : ℕ → ℕ
  key j = key_of own (T.entry j)

  record Owned (n : ℕ) (w ks : List ℕ) : Type 0 where
    pub classed : Classed T T n w
    pub keys : (j : ℕ) → j < n → get_or ks j 0 ≡ key j

  owned : (n : ℕ) (w ks : List ℕ) → n ≤ length w → n ≤ length ks → n ≤ T.entries → Owned n (own_filled T n w ks).0 (own_filled T n w ks).1
  unfolding own_filled
  owned zero w ks l k m = record { classed = record { here = λ j jl. absurd (omega arith) }; keys = λ j jl. absurd (omega arith) }
  owned (suc n) w ks l k m =
      let v : List ℕ = (own_filled T n w ks).0 in
      let us : List ℕ = (own_filled T n w ks).1 in
      let lengths = own_lengths T n w ks in
      let ih : Owned n v us = owned n w ks (omega arith) (omega arith) (omega arith) in
      let fine = g.entry n (omega arith) in
      let is_key : key_by T v n ≡ key n = key_cong T n fine (λ x. get_or v x 0) own ih.classed.here in
      let same : (j : ℕ) → j < n → eqb (get_or us j 0) (key_by T v n) ≡ same_entry own own (T.entry j) (T.entry n) =
      λ j jl. ap₂ eqb (ih.keys j jl) is_key
      ∙ key_same T T j n (g.entry j (omega arith)) fine (few_labels T g) (few_labels T g) own own (λ x _. small_class T g T x) (λ x _. small_class T g T x) in
      let self : same_entry own own (T.entry n) (T.entry n) ≡ true =
      sym (key_same T T n n fine fine (few_labels T g) (few_labels T g) own own (λ x _. small_class T g T x) (λ x _. small_class T g T x))
      ∙ eq-eqb (key n) (key n) refl in
      let is-class : found us n (key_by T v n) ≡ own n =
      lowest_cong n (λ j. eqb (get_or us j 0) (key_by T v n)) (λ j. same_entry own own (T.entry j) (T.entry n)) same
      ∙ sym (lowest_self (λ j. same_entry own own (T.entry j) (T.entry n)) n self)
      ∙ sym (old-class T g.entry n (omega arith) own (λ x _. refl)) in
      record {
        classed = classed_more T T v n (found us n (key_by T v n)) ih.classed (omega (arith, lengths.0)) is-class;
        keys = λ j jl. go us n (key_by T v n) (omega (arith, lengths.1)) ih.keys is_key j (last_or_below j n jl);
      }
    where
      go : (us : List ℕ) (n k : ℕ) → n < length us → ((j : ℕ) → j < n → get_or us j 0 ≡ key j) → k ≡ key n → (j : ℕ) → (j < n) ⊎ (j ≡ n) → get_or (set us n k) j 0 ≡ key j
      go us n k l h e j (inl jl) = get_or-set_other us n j k 0 (λ z. omega arith) ∙ h j jl
      go us n k l h e j (inr z) = rw z (get_or-set_same us n k 0 l ∙ e)

module _ (T U : Terms) (gt : Good T) (gu : Good U) (ks : List ℕ) (is_key : (j : ℕ) → j < T.entries → get_or ks j 0 ≡ key T gt j) where
  abbrev new : ℕ → ℕ
  new y = first_same T (formula U y)

  filled_classed : (w : List ℕ) (n : ℕ) → n ≤ length w → n ≤ U.entries → Classed T U n (filled U ks T.entries n w)
  unfolding filled
  filled_classed w zero l m = record { here = λ k kl. absurd (omega arith) }
  filled_classed w (suc n) l m =
      let v : List ℕ = filled U ks T.entries n w in
      let ih : Classed T U n v = filled_classed w n (omega arith) (omega arith) in
      let fine = gu.entry n (omega arith) in
      let is-mine : key_by U v n ≡ key_of new (U.entry n) = key_cong U n fine (λ y. get_or v y 0) new ih.here in
      classed_more T U v n (found ks T.entries (key_by U v n)) ih (omega (arith, filled_length U ks T.entries n w))
      (lowest_cong T.entries (λ j. eqb (get_or ks j 0) (key_by U v n)) (λ j. same_entry (own T gt) new (T.entry j) (U.entry n))
      (λ j jl. ap₂ eqb (is_key j jl) is-mine
      ∙ key_same T U j n (gt.entry j jl) fine (few_labels T gt) (few_labels U gu) (own T gt) new (λ x _. small_class T gt T x) (λ y _. small_class T gt U y))
      ∙ sym (new-class T U gt.entry gu.entry n (omega arith) (own T gt) new (λ x _. refl) (λ y _. refl)))

counted_good : (terms : List ℕ) → good_memory terms ≡ true → counted terms ≡ (terms_of terms).entries
counted_good terms g = sym (counted_few terms (omega (arith, (good terms g).few_entries)))

-- Of each entry of good new terms, what is filled in is the first entry of good old terms with the
-- same fully spelled-out formula.
pub classed : (old new before w : List ℕ) → good_memory old ≡ true → good_memory new ≡ true → length before ≡ max_entries → w ≡ classes_of old new before →
    Classed (terms_of old) (terms_of new) (terms_of new).entries w
unfolding classes_of
classed old new before w p q l e =
    let z : List ℕ = replicate max_entries 0 in
    let zl : length z ≡ max_entries = length-replicate {A = ℕ} max_entries 0 in
    let T : Terms = terms_of old in
    let few = (good old p).few_entries in
    rw (e, counted_good old p, counted_good new q)
    (filled_classed T (terms_of new) (good old p) (good new q) (own_filled T T.entries z z).1
    (owned T (good old p) T.entries z z (omega (arith, few, zl)) (omega (arith, few, zl)) (omega arith)).keys before
    (terms_of new).entries (omega (arith, (good new q).few_entries, l)) (omega arith))
