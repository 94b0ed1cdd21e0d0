-- What the tests have made sure of so far, part by part: the entries, the policies, the marks, the effects, the edges,
-- the tables, the event edge; and that one line more keeps it so.
use Prim.Native.Nat.{ℕ, zero, suc, ◌+◌, ◌*◌, ◌/◌, ◌%◌, ◌≤◌, ◌<◌}
use mathlib.Core.Path.{◌≡◌, refl, sym, ap, subst, subst₂, ◌∙◌}
use mathlib.Core.Logic.{◌⊎◌, inl, inr, ⊎_elim}
use mathlib.Core.List.{List, [], ◌∷◌, ◌++◌}
use mathlib.Core.Bool.{Bool, true, false, ◌&&◌, true≢false, false≢true}
use native.Mathlib.Omega.{arith}
use native.Mathlib.Numerals.{add-one}
use lib.Dec.{eqb, ltb}
use lib.ListN.{length, length-append}
use borrow.Author.Tests.{eqb-true, ltb-true, leb-true, eq-eqb, lt-ltb}
use Rattle.sets.proofs.Finite.{true_or_false, and_left, and_right, and_both, last_or_below}
use Rattle.theory.specs.Formula.{Formula, Entry, Operand, first_operand, second_operand, third_operand, number, spelled, is_past, columns}
use Rattle.theory.specs.Formula.Operand.{unused, variable, binder, label, entry, count}
use Rattle.theory.specs.Terms.{Effect, Terms, formula, tables, past_entry}
use Rattle.theory.specs.Moment.{Event}
use Rattle.theory.specs.Columns.{columns_fit, inside, pair_word, pair_bit}
use Rattle.theory.specs.Fit.{operand_fits, only_free, reach_fits, Within}
use Rattle.theory.proofs.Good.{fits_entry}
use Rattle.theory.specs.Fit.Within.{more}
use Rattle.file.specs.Line.{has_third}
use Rattle.file.specs.File.{update, with_bit, has_two, event_named, event_said}
use Rattle.file.specs.Reading.{in_range, is_lower}
use Rattle.theory.proofs.AlikeTerms.{number_agree, spelled_agree}
use Rattle.file.proofs.Update.{update_same, update_other, update_cases}

-- ---- entries

abbrev pub no_entry : Entry
no_entry = record { op = 0; a = 0; b = 0; c = 0 }

pub record EntryFits (members labels : ℕ) (g : ℕ → Entry) (n : ℕ) : Type 0 where
  pub known : (g n).op < 12
  pub first : operand_fits (first_operand (g n).op) labels n (g n).a ≡ true
  pub second : operand_fits (second_operand (g n).op) labels n (g n).b ≡ true
  pub third : operand_fits (third_operand (g n).op) labels n (g n).c ≡ true
  pub columns-fit : is_past (g n).op ≡ true → columns_fit members (columns (spelled g n)) ≡ true
  pub reaches : (g n).op ≡ 10 → reach_fits (g n).a (spelled g (g n).b) (spelled g (g n).c) ≡ true

pub record EntriesFit (members labels entries : ℕ) (g : ℕ → Entry) : Type 0 where
  pub few : entries < 257
  pub few_tables : number g entries < 33
  pub fit : (n : ℕ) → n < entries → EntryFits members labels g n
  pub blank : (n : ℕ) → entries ≤ n → g n ≡ no_entry

-- The two tests of an operand are those of the lent memory.
pub operand-fits : (k : Operand) (labels n v : ℕ) → in_range k labels v ≡ true → is_lower k n v ≡ true → operand_fits k labels n v ≡ true
unfolding operand_fits in_range is_lower
operand-fits unused labels n v p q = p
operand-fits variable labels n v p q = p
operand-fits binder labels n v p q = p
operand-fits label labels n v p q = p
operand-fits entry labels n v p q = q
operand-fits count labels n v p q = p

-- And the other way round; an operand that fits has at most five digits.
pub in-range : (k : Operand) (labels n v : ℕ) → operand_fits k labels n v ≡ true → in_range k labels v ≡ true
unfolding operand_fits in_range
in-range unused labels n v h = h
in-range variable labels n v h = h
in-range binder labels n v h = h
in-range label labels n v h = h
in-range entry labels n v h = refl
in-range count labels n v h = h

pub is-lower : (k : Operand) (labels n v : ℕ) → operand_fits k labels n v ≡ true → is_lower k n v ≡ true
unfolding operand_fits is_lower
is-lower unused labels n v h = refl
is-lower variable labels n v h = refl
is-lower binder labels n v h = refl
is-lower label labels n v h = refl
is-lower entry labels n v h = h
is-lower count labels n v h = refl

pub operand_small : (k : Operand) (labels n v : ℕ) → labels < 100000 → n < 100000 → operand_fits k labels n v ≡ true → v < 100000
unfolding operand_fits
operand_small unused labels n v p q h = let e = eqb-true v 0 h in omega arith
operand_small variable labels n v p q h = let e = ltb-true v 16 h in omega arith
operand_small binder labels n v p q h = let e = ltb-true v 16 (and_right (ltb 0 v) _ h) in omega arith
operand_small label labels n v p q h = let e = ltb-true v labels h in omega arith
operand_small entry labels n v p q h = let e = ltb-true v n h in omega arith
operand_small count labels n v p q h = let e = leb-true v 64 (and_right (ltb 0 v) _ h) in omega arith

-- An operand that is not used is 0, and only reach and many use their third.
pub unused_fits : (labels n v : ℕ) (k : Operand) → operand_fits k labels n v ≡ true → k ≡ unused → v ≡ 0
unfolding operand_fits
unused_fits labels n v k h e = eqb-true v 0 (rw e at h)

pub third_unused : (o : ℕ) → has_third o ≡ false → third_operand o ≡ unused
third_unused zero h = refl
third_unused (suc zero) h = refl
third_unused (suc (suc zero)) h = refl
third_unused (suc (suc (suc zero))) h = refl
third_unused (suc (suc (suc (suc zero)))) h = refl
third_unused (suc (suc (suc (suc (suc zero))))) h = refl
third_unused (suc (suc (suc (suc (suc (suc zero)))))) h = refl
third_unused (suc (suc (suc (suc (suc (suc (suc zero))))))) h = refl
third_unused (suc (suc (suc (suc (suc (suc (suc (suc zero)))))))) h = refl
third_unused (suc (suc (suc (suc (suc (suc (suc (suc (suc zero))))))))) h = refl
third_unused (suc (suc (suc (suc (suc (suc (suc (suc (suc (suc zero)))))))))) h = absurd (true≢false h)
third_unused (suc (suc (suc (suc (suc (suc (suc (suc (suc (suc (suc zero))))))))))) h = absurd (true≢false h)
third_unused (suc (suc (suc (suc (suc (suc (suc (suc (suc (suc (suc (suc o)))))))))))) h = refl

-- The formulas of a reach are those of entries below it.
pub reach_kept : (labels n : ℕ) (g h : ℕ → Entry) (v : Entry) → ((k : ℕ) → k < n → g k ≡ h k) → v.op ≡ 10
    → operand_fits (second_operand v.op) labels n v.b ≡ true → operand_fits (third_operand v.op) labels n v.c ≡ true
    → reach_fits v.a (spelled g v.b) (spelled g v.c) ≡ true → reach_fits v.a (spelled h v.b) (spelled h v.c) ≡ true
reach_kept labels n g h v e o p q r =
    let b = fits_entry labels n v.b (second_operand v.op) p (ap second_operand o) in
    let c = fits_entry labels n v.c (third_operand v.op) q (ap third_operand o) in
    subst₂ (λ (φ ψ : Formula). reach_fits v.a φ ψ ≡ true)
    (spelled_agree g h v.b (λ k l. e k (omega arith))) (spelled_agree g h v.c (λ k l. e k (omega arith))) r

entry_kept : (members labels : ℕ) (g h : ℕ → Entry) (n : ℕ) → ((k : ℕ) → k ≤ n → g k ≡ h k) → EntryFits members labels g n → EntryFits members labels h n
entry_kept members labels g h n e t =
    let r = e n (omega arith) in
    record {
      known = subst (λ (x : Entry). x.op < 12) r t.known;
      first = subst (λ (x : Entry). operand_fits (first_operand x.op) labels n x.a ≡ true) r t.first;
      second = subst (λ (x : Entry). operand_fits (second_operand x.op) labels n x.b ≡ true) r t.second;
      third = subst (λ (x : Entry). operand_fits (third_operand x.op) labels n x.c ≡ true) r t.third;
      columns-fit = λ p. subst (λ (φ : Formula). columns_fit members (columns φ) ≡ true) (spelled_agree g h n e)
          (t.columns-fit (subst (λ (x : Entry). is_past x.op ≡ true) (sym r) p));
      reaches = λ p. let q = subst (λ (x : Entry). x.op ≡ 10) (sym r) p in
          subst (λ (x : Entry). reach_fits x.a (spelled h x.b) (spelled h x.c) ≡ true) r
          (reach_kept labels n g h (g n) (λ k l. e k (omega arith)) q t.second t.third (t.reaches q));
    }

-- An entry put at n.
module _ (members labels n : ℕ) (g : ℕ → Entry) (v : Entry) where
  abbrev now : ℕ → Entry
  now = update g n v

  pub entry_put : v.op < 12 → operand_fits (first_operand v.op) labels n v.a ≡ true → operand_fits (second_operand v.op) labels n v.b ≡ true
      → operand_fits (third_operand v.op) labels n v.c ≡ true → (is_past v.op ≡ true → columns_fit members (columns (spelled now n)) ≡ true)
      → (v.op ≡ 10 → reach_fits v.a (spelled g v.b) (spelled g v.c) ≡ true) → EntryFits members labels now n
  entry_put p q r u s m =
      let e = sym (update_same g n v) in
      record {
        known = subst (λ (x : Entry). x.op < 12) e p;
        first = subst (λ (x : Entry). operand_fits (first_operand x.op) labels n x.a ≡ true) e q;
        second = subst (λ (x : Entry). operand_fits (second_operand x.op) labels n x.b ≡ true) e r;
        third = subst (λ (x : Entry). operand_fits (third_operand x.op) labels n x.c ≡ true) e u;
        columns-fit = λ t. s (subst (λ (x : Entry). is_past x.op ≡ true) (sym e) t);
        reaches = λ t. let o = subst (λ (x : Entry). x.op ≡ 10) (sym e) t in
            subst (λ (x : Entry). reach_fits x.a (spelled now x.b) (spelled now x.c) ≡ true) e
            (reach_kept labels n g now v (λ k l. sym (update_other g n v k (λ z. omega arith))) o r u (m o));
      }

  tables_put : number g n < 33 → (is_past v.op ≡ true → number g n < 32) → number now (n + 1) < 33
  unfolding number
  tables_put h i =
      let e = number_agree now g n (λ k l. update_other g n v k (λ z. omega arith)) in
      rw (add-one n, update_same g n v, e)
      (⊎_elim (λ p. rw p (let l = i p in omega arith)) (λ p. rw p h) (true_or_false (is_past v.op)))

  pub entry_more : EntriesFit members labels n g → n < 256 → (is_past v.op ≡ true → number g n < 32) → EntryFits members labels now n → EntriesFit members labels (n + 1) now
  entry_more t l i f =
      record {
        few = omega arith;
        few_tables = tables_put t.few_tables i;
        fit = λ k m. ⊎_elim
            (λ b. entry_kept members labels g now k (λ j p. sym (update_other g n v j (λ z. omega arith))) (t.fit k b))
            (λ b. subst (EntryFits members labels now) (sym b) f)
            (last_or_below k n (omega arith));
        blank = λ k m. update_other g n v k (λ z. omega arith) ∙ t.blank k (omega arith);
      }

-- ---- policies

pub record PoliciesFit (policies events entries : ℕ) (g : ℕ → Entry) (policy : ℕ → ℕ) : Type 0 where
  pub few : policies ≤ events
  pub exists : (j : ℕ) → j < policies → policy j < entries
  pub free : (j : ℕ) → j < policies → only_free 0 (spelled g (policy j)) ≡ true
  pub blank : (j : ℕ) → policies ≤ j → policy j ≡ 0

-- Before the first policy, events and entries may change.
pub policies_none : {p e m e' m' : ℕ} {g h : ℕ → Entry} {policy : ℕ → ℕ} → p ≡ 0 → PoliciesFit p e m g policy → PoliciesFit p e' m' h policy
policies_none z t = record {
  few = omega arith;
  exists = λ j l. absurd (omega arith);
  free = λ j l. absurd (omega arith);
  blank = t.blank;
}

pub policy_more : {e m : ℕ} {g : ℕ → Entry} {policy : ℕ → ℕ} (j n : ℕ) → j < e → n < m → only_free 0 (spelled g n) ≡ true
    → PoliciesFit j e m g policy → PoliciesFit (j + 1) e m g (update policy j n)
policy_more {m = m} {g = g} {policy = policy} j n h i q t = record {
  few = omega arith;
  exists = λ k l. update_cases policy j n (λ x. x < m) k (λ z. i) (λ z. t.exists k (omega arith));
  free = λ k l. update_cases policy j n (λ x. only_free 0 (spelled g x) ≡ true) k (λ z. q) (λ z. t.free k (omega arith));
  blank = λ k l. update_other policy j n k (λ z. omega arith) ∙ t.blank k (omega arith);
}

-- ---- kept events

pub record MarksFit (marks events : ℕ) (kept : ℕ → Bool) : Type 0 where
  pub few : marks ≤ events
  pub later : (j : ℕ) → marks ≤ j → kept j ≡ false

-- Before the first mark, events may change.
pub marks_none : {m e e' : ℕ} {kept : ℕ → Bool} → m ≡ 0 → MarksFit m e kept → MarksFit m e' kept
marks_none z t = record { few = omega arith; later = t.later }

pub mark_more : {m e : ℕ} {kept : ℕ → Bool} (j : ℕ) → m ≤ j → j < e → MarksFit m e kept → MarksFit (j + 1) e (update kept j true)
mark_more {kept = kept} j h l t = record {
  few = omega arith;
  later = λ k p. update_other kept j true k (λ z. omega arith) ∙ t.later k (omega arith);
}

-- ---- effects

pub record EffectsFit (event events relations : ℕ) (effects : ℕ → List Effect) : Type 0 where
  pub within : (j : ℕ) → Within relations (effects j)
  pub few : (j : ℕ) → length (effects j) ≤ 4
  pub later : (j : ℕ) → event < j → effects j ≡ []
  pub beyond : (j : ℕ) → events ≤ j → effects j ≡ []

pub effects_none : (event events relations : ℕ) (effects : ℕ → List Effect) → ((j : ℕ) → effects j ≡ []) → EffectsFit event events relations effects
effects_none event events relations effects h = record {
  within = λ j. subst (Within relations) (sym (h j)) Within.none;
  few = λ j. rw h (omega arith);
  later = λ j l. h j;
  beyond = λ j l. h j;
}

within_more : {r : ℕ} {es : List Effect} → Within r es → (x : Effect) → x.relation < r → Within r (es ++ (x ∷ []))
within_more Within.none x h = more h Within.none
within_more (more p ps) x h = more p (within_more ps x h)

pub effect_more : {i e r : ℕ} {effects : ℕ → List Effect} (j : ℕ) (x : Effect) → i ≤ j → j < e → length (effects j) < 4 → x.relation < r
    → EffectsFit i e r effects → EffectsFit j e r (update effects j (effects j ++ (x ∷ [])))
effect_more {r = r} {effects = effects} j x h l m q t =
    let s : List Effect = effects j ++ (x ∷ []) in
    let o = length-append (effects j) (x ∷ []) in
    record {
      within = λ k. update_cases effects j s (Within r) k (λ z. within_more (t.within j) x q) (λ z. t.within k);
      few = λ k. update_cases effects j s (λ y. length y ≤ 4) k (λ z. omega arith) (λ z. t.few k);
      later = λ k p. update_other effects j s k (λ z. omega arith) ∙ t.later k (omega arith);
      beyond = λ k p. update_other effects j s k (λ z. omega arith) ∙ t.beyond k p;
    }

-- ---- edges and the bits of the tables

-- The number of an edge or a bit, by relation or table, from, to.
abbrev pub code : (k a b : ℕ) → ℕ
code k a b = k * 4096 + a * 64 + b

-- Each bit is of one of so many relations or tables and between members.
pub record Inside (kinds members : ℕ) (R : (k a b : ℕ) → Bool) : Type 0 where
  pub within : (k a b : ℕ) → R k a b ≡ true → (k < kinds) × (a < members) × (b < members)

-- Each bit is of a table that there is, at a place of members.
pub record InsideTables (T : Terms) (X : (t i k : ℕ) → Bool) : Type 0 where
  pub within : (t i k : ℕ) → X t i k ≡ true → (t < tables T) × (inside T.members (columns (formula T (past_entry T t))) i k ≡ true)

pub tables_none : {T : Terms} {X : (t i k : ℕ) → Bool} → ((t i k : ℕ) → X t i k ≡ false) → InsideTables T X
tables_none h = record { within = λ t i k e. absurd (false≢true (sym (h t i k) ∙ e)) }

-- A place of a table by the number of its columns.
pub one_place : (N : ℕ) (cs : List ℕ) (a b : ℕ) → has_two cs ≡ false → a < N → b < N → inside N cs a b ≡ true
one_place N [] a b e al bl = and_both _ _ (lt-ltb a N al) (lt-ltb b N bl)
one_place N (x ∷ []) a b e al bl = and_both _ _ (lt-ltb a N al) (lt-ltb b N bl)
one_place N (x ∷ y ∷ zs) a b e al bl = absurd (true≢false e)

pub place_one : (N : ℕ) (cs : List ℕ) (a b : ℕ) → has_two cs ≡ false → inside N cs a b ≡ true → (a < N) × (b < N)
place_one N [] a b e i = (ltb-true a N (and_left (ltb a N) _ i), ltb-true b N (and_right (ltb a N) _ i))
place_one N (x ∷ []) a b e i = (ltb-true a N (and_left (ltb a N) _ i), ltb-true b N (and_right (ltb a N) _ i))
place_one N (x ∷ y ∷ zs) a b e i = absurd (true≢false e)

pub two_few : (N : ℕ) (cs : List ℕ) → has_two cs ≡ true → columns_fit N cs ≡ true → N < 17
two_few N [] e f = absurd (false≢true e)
two_few N (x ∷ []) e f = absurd (false≢true e)
two_few N (x ∷ y ∷ []) e f = ltb-true N 17 f
two_few N (x ∷ y ∷ z ∷ zs) e f = absurd (false≢true f)

pub two_place : (N : ℕ) (cs : List ℕ) (a b c : ℕ) → has_two cs ≡ true → N < 17 → a < N → b < N → c < N → inside N cs (pair_word a b) (pair_bit b c) ≡ true
two_place N [] a b c e few al bl cl = absurd (false≢true e)
two_place N (x ∷ []) a b c e few al bl cl = absurd (false≢true e)
two_place N (x ∷ y ∷ zs) a b c e few al bl cl =
    let m : (4 * a + b / 4) / 4 ≡ a = omega arith in
    let f : 4 * ((4 * a + b / 4) % 4) + (16 * (b % 4) + c) / 16 ≡ b = omega arith in
    let g : (16 * (b % 4) + c) % 16 ≡ c = omega arith in
    rw (m, f, g, lt-ltb a N al, lt-ltb b N bl, lt-ltb c N cl, lt-ltb (16 * (b % 4) + c) 64 (omega arith)) refl

pub place_two : (N : ℕ) (cs : List ℕ) (i k : ℕ) → has_two cs ≡ true → inside N cs i k ≡ true → (i / 4 < N) × (4 * (i % 4) + k / 16 < N) × (k % 16 < N) × (k < 64)
place_two N [] i k e p = absurd (false≢true e)
place_two N (x ∷ []) i k e p = absurd (false≢true e)
place_two N (x ∷ y ∷ zs) i k e p =
    let q = and_right (ltb (i / 4) N) _ p in
    let r = and_right (ltb (4 * (i % 4) + k / 16) N) _ q in (
      ltb-true (i / 4) N (and_left (ltb (i / 4) N) _ p),
      ltb-true (4 * (i % 4) + k / 16) N (and_left (ltb (4 * (i % 4) + k / 16) N) _ q),
      ltb-true (k % 16) N (and_left (ltb (k % 16) N) _ r),
      ltb-true k 64 (and_right (ltb (k % 16) N) _ r),
    )

-- No bit comes after that of k, a and b.
pub record UpTo (R : (k a b : ℕ) → Bool) (k a b : ℕ) : Type 0 where
  pub upto : (l c d : ℕ) → R l c d ≡ true → code l c d ≤ code k a b

pub inside_none : {kinds members : ℕ} {R : (k a b : ℕ) → Bool} → ((k a b : ℕ) → R k a b ≡ false) → Inside kinds members R
inside_none h = record { within = λ k a b e. absurd (false≢true (sym (h k a b) ∙ e)) }

pub up_to_none : {R : (k a b : ℕ) → Bool} {k a b : ℕ} → ((k a b : ℕ) → R k a b ≡ false) → UpTo R k a b
up_to_none h = record { upto = λ k a b e. absurd (false≢true (sym (h k a b) ∙ e)) }

-- One bit more.
module _ (R : (k a b : ℕ) → Bool) (k a b : ℕ) where
  -- A bit is that one or was there.
  pub bit_cases : (l c d : ℕ) → with_bit R k a b l c d ≡ true → ((l ≡ k) × (c ≡ a) × (d ≡ b)) ⊎ (R l c d ≡ true)
  bit_cases l c d e =
      ⊎_elim
      (λ p. let q = and_right (eqb l k) _ p in
      inl (eqb-true l k (and_left (eqb l k) _ p), eqb-true c a (and_left (eqb c a) _ q), eqb-true d b (and_right (eqb c a) _ q)))
      (λ p. inr (rw p at e))
      (true_or_false (eqb l k && (eqb c a && eqb d b)))

  pub bit_there : with_bit R k a b k a b ≡ true
  bit_there = rw (eq-eqb k k refl, eq-eqb a a refl, eq-eqb b b refl) refl

  pub bit_stays : (l c d : ℕ) → R l c d ≡ true → with_bit R k a b l c d ≡ true
  bit_stays l c d e = ⊎_elim (λ p. rw p refl) (λ p. rw p e) (true_or_false (eqb l k && (eqb c a && eqb d b)))

  pub inside_more : {r N : ℕ} → k < r → a < N → b < N → Inside r N R → Inside r N (with_bit R k a b)
  inside_more h i j t = record {
    within = λ x y z e. ⊎_elim
        (λ p. let p0 = p.0 in let p1 = p.1 in let p2 = p.2 in (omega arith, omega arith, omega arith))
        (λ p. t.within x y z p)
        (bit_cases x y z e);
  }

  pub tables_more : {T : Terms} → k < tables T → inside T.members (columns (formula T (past_entry T k))) a b ≡ true → InsideTables T R → InsideTables T (with_bit R k a b)
  tables_more {T} h i t = record {
    within = λ x y z e. ⊎_elim
        (λ p. rw (p.0, p.1, p.2) (h, i))
        (λ p. t.within x y z p)
        (bit_cases x y z e);
  }

  -- (l, c, d) comes before (k, a, b), or nothing has come yet.
  pub up_to_more : {l c d : ℕ} → (((k a b : ℕ) → R k a b ≡ false) ⊎ (code l c d < code k a b)) → UpTo R l c d → UpTo (with_bit R k a b) k a b
  up_to_more o t = record {
    upto = λ x y z e. ⊎_elim
        (λ p. let p0 = p.0 in let p1 = p.1 in let p2 = p.2 in rw (p0, p1, p2) (omega arith))
        (λ p. ⊎_elim
        (λ q. absurd (false≢true (sym (q x y z) ∙ p)))
        (λ q. let m = t.upto x y z p in omega arith)
        o)
        (bit_cases x y z e);
  }

-- ---- the event edge

pub data EventFits (events members : ℕ) : Event → Type 0 where
  none : EventFits events members Event.none
  happened : {j u v : ℕ} → j < events → u < members → v < members → EventFits events members (Event.happened j u v)
  tried : {j u v : ℕ} → j < events → u < members → v < members → EventFits events members (Event.tried j u v)

pub event_none : {events members : ℕ} {x : Event} → x ≡ Event.none → EventFits events members x
event_none {events} {members} e = subst (EventFits events members) (sym e) none

-- What a V line says, granted or denied.
pub event-named : {events members : ℕ} (j u v : ℕ) → event_named j < events → u < members → v < members → EventFits events members (event_said j u v)
event-named j u v p q r =
    ⊎_elim
    (λ e. let l = rw e at p in rw e (happened l q r))
    (λ e. let l = rw e at p in rw e (tried l q r))
    (true_or_false (ltb j 16))
