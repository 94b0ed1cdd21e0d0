-- The variables that an entry reads, as sets of bits; the slots of a memo made ready one after the other.
use Prim.Native.Nat.{ℕ, zero, suc, ◌+◌, ◌*◌, ◌<◌, ◌≤◌}
use native.Mathlib.Omega.{arith}
use mathlib.Core.Path.{◌≡◌, refl, sym, ap, ◌∙◌, subst}
use mathlib.Core.Bool.{Bool, true, false, cond, not, ◌&&◌, ◌||◌, or-false, false≢true, true≢false}
use mathlib.Core.List.{List, [], ◌∷◌}
use mathlib.Core.Logic.{⊎_elim}
use lib.Dec.{eqb, ltb}
use lib.ListN.{length, get_or, set, length-set}
use lib.Seq.{get_or-set_same, get_or-set_other}
use borrow.Author.Count.{below_more}
use borrow.Author.Tests.{eq-eqb, ne_eqb, eqb-true, lt-ltb}
use Rattle.sets.specs.Sets.{bit}
use Rattle.sets.proofs.Finite.{and_left, and_right, and_both, or_left, or_right, or_cases}
use Rattle.theory.specs.Formula.{Formula, node, first_operand, second_operand, third_operand, number, below, spelled, is_past, free, columns}
use Rattle.theory.specs.Formula.Operand.{variable, entry}
use Rattle.theory.specs.Formula.Formula.{top, var}
use Rattle.theory.specs.Terms.{Terms, formula}
use Rattle.memory.specs.TableIndex.{index_first, index_last, index_columns}
use Rattle.deciding.specs.private.Memo.{is_one, reads, slot_of, have_of, reads_of, Memo, Apart, Fresh}
use Rattle.theory.proofs.Unfolding.{below_spelled}
use Rattle.memory.proofs.FreeSets.{Free}
use Rattle.deciding.proofs.Remembering.{empty_slot}

-- r has every variable that an entry reads, where f, g and k have those of its operands.
abbrev pub Covered : (op a p f g k r : ℕ) → Type 0
Covered op a p f g k r =
    (t b c x : ℕ) (h : ℕ → Formula) → (first_operand op ≡ variable → a < 64) → (is_past op ≡ true → index_columns p ≡ columns (node t h op a b c)) →
    (first_operand op ≡ entry → reads (h a) x ≡ true → bit f x ≡ true) → (second_operand op ≡ entry → reads (h b) x ≡ true → bit g x ≡ true) →
    (third_operand op ≡ entry → reads (h c) x ≡ true → bit k x ≡ true) →
    reads (node t h op a b c) x ≡ true → bit r x ≡ true

-- A past-time entry reads its columns.
at_six : (t a b c x : ℕ) (h : ℕ → Formula) → reads (node t h 6 a b c) x ≡ true → is_one (columns (node t h 6 a b c)) x ≡ true
unfolding node reads
at_six t a b c x h q = q

at_seven : (t a b c x : ℕ) (h : ℕ → Formula) → reads (node t h 7 a b c) x ≡ true → is_one (columns (node t h 7 a b c)) x ≡ true
unfolding node reads
at_seven t a b c x h q = q

reads_past : (op t a b c x : ℕ) (h : ℕ → Formula) → is_past op ≡ true → reads (node t h op a b c) x ≡ true → is_one (columns (node t h op a b c)) x ≡ true
reads_past op t a b c x h p =
    ⊎_elim
    (λ e. subst (λ (k : ℕ). reads (node t h k a b c) x ≡ true → is_one (columns (node t h k a b c)) x ≡ true) (sym (eqb-true op 6 e)) (at_six t a b c x h))
    (λ e. subst (λ (k : ℕ). reads (node t h k a b c) x ≡ true → is_one (columns (node t h k a b c)) x ≡ true) (sym (eqb-true op 7 e)) (at_seven t a b c x h))
    (or_cases (eqb op 6) (eqb op 7) p)

one_of : (x y z : ℕ) (c : Bool) → is_one (cond c (z ∷ []) (y ∷ z ∷ [])) x ≡ true → (eqb x y || eqb x z) ≡ true
unfolding is_one
one_of x y z true e = or_right (eqb x y) (eqb x z) (sym (or-false (eqb x z)) ∙ e)
one_of x y z false e = sym (ap (λ (b : Bool). eqb x y || b) (or-false (eqb x z))) ∙ e

-- s has the first column alone, and r the last one too.
pub covered_past : (op a p f g k s r : ℕ) → is_past op ≡ true → ((x : ℕ) → bit s x ≡ ltb x 64 && eqb x (index_first p)) →
    ((x : ℕ) → bit r x ≡ bit s x || (ltb x 64 && eqb x (index_last p))) → Covered op a p f g k r
covered_past op a p f g k s r past es e t b c x h v col p' q' s' z =
    let is : (eqb x (index_first p) || eqb x (index_last p)) ≡ true =
    one_of x (index_first p) (index_last p) (eqb (index_first p) (index_last p)) (ap (λ (cs : List ℕ). is_one cs x) (col past) ∙ reads_past op t a b c x h past z) in
    ⊎_elim
    (λ q. e x ∙ or_left (bit s x) _ (es x ∙ and_both (ltb x 64) _ (lt-ltb x 64 (low x (index_first p) (omega arith) q)) q))
    (λ q. e x ∙ or_right (bit s x) _ (and_both (ltb x 64) _ (lt-ltb x 64 (low x (index_last p) (omega arith) q)) q))
    (or_cases (eqb x (index_first p)) (eqb x (index_last p)) is)
  where
    low : (x y : ℕ) → y < 16 → eqb x y ≡ true → x < 64
    low x y l q = let w : x ≡ y = eqb-true x y q in omega arith

-- Any other reads what is free in it, where its operands read what is free in theirs.
reads_free : (op : ℕ) → is_past op ≡ false → (t a b b' c c' x : ℕ) (h h' : ℕ → Formula) → (first_operand op ≡ entry → reads (h a) x ≡ true → free (h' a) x ≡ true)
    → (second_operand op ≡ entry → reads (h b) x ≡ true → free (h' b') x ≡ true) → (third_operand op ≡ entry → reads (h c) x ≡ true → free (h' c') x ≡ true)
    → reads (node t h op a b c) x ≡ true → free (node t h' op a b' c') x ≡ true
unfolding node reads free
reads_free zero n t a b b' c c' x h h' p s u q = absurd (false≢true q)
reads_free (suc zero) n t a b b' c c' x h h' p s u q = q
reads_free (suc (suc zero)) n t a b b' c c' x h h' p s u q = p refl q
reads_free (suc (suc (suc zero))) n t a b b' c c' x h h' p s u q =
    ⊎_elim (λ e. or_left (free (h' a) x) (free (h' b') x) (p refl e)) (λ e. or_right (free (h' a) x) (free (h' b') x) (s refl e)) (or_cases (reads (h a) x) (reads (h b) x) q)
reads_free (suc (suc (suc (suc zero)))) n t a b b' c c' x h h' p s u q = s refl q
reads_free (suc (suc (suc (suc (suc zero))))) n t a b b' c c' x h h' p s u q = s refl q
reads_free (suc (suc (suc (suc (suc (suc zero)))))) n t a b b' c c' x h h' p s u q = absurd (true≢false n)
reads_free (suc (suc (suc (suc (suc (suc (suc zero))))))) n t a b b' c c' x h h' p s u q = absurd (true≢false n)
reads_free (suc (suc (suc (suc (suc (suc (suc (suc zero)))))))) n t a b b' c c' x h h' p s u q =
    and_both (not (eqb x a)) (free (h' b') x) (and_left (not (eqb x a)) (reads (h b) x) q) (s refl (and_right (not (eqb x a)) (reads (h b) x) q))
reads_free (suc (suc (suc (suc (suc (suc (suc (suc (suc zero))))))))) n t a b b' c c' x h h' p s u q =
    ⊎_elim (λ e. or_left (eqb x a) (free (h' b') x) e) (λ e. or_right (eqb x a) (free (h' b') x) (s refl e)) (or_cases (eqb x a) (reads (h b) x) q)
reads_free (suc (suc (suc (suc (suc (suc (suc (suc (suc (suc zero)))))))))) m t a b b' c c' x h h' p s u q = u refl q
reads_free (suc (suc (suc (suc (suc (suc (suc (suc (suc (suc (suc zero))))))))))) m t a b b' c c' x h h' p s u q = s refl q
reads_free (suc (suc (suc (suc (suc (suc (suc (suc (suc (suc (suc (suc n)))))))))))) m t a b b' c c' x h h' p s u q = absurd (false≢true q)

-- A formula in which x is free exactly when it is in w.
whose : (w x : ℕ) → Bool → Formula
whose w x true = var x
whose w x false = top

whose_free : (w x : ℕ) (c : Bool) → free (whose w x c) x ≡ c
unfolding free whose
whose_free w x true = eq-eqb x x refl
whose_free w x false = refl

-- Three such formulas at three numbers from a on.
operands : (a f g k x : ℕ) → ℕ → Formula
operands a f g k x n = cond (eqb n a) (whose f x (bit f x)) (cond (eqb n (suc a)) (whose g x (bit g x)) (whose k x (bit k x)))

first-is : (a f g k x : ℕ) → free (operands a f g k x a) x ≡ bit f x
unfolding operands
first-is a f g k x = rw (eq-eqb a a refl) (whose_free f x (bit f x))

second_is : (a f g k x : ℕ) → free (operands a f g k x (suc a)) x ≡ bit g x
unfolding operands
second_is a f g k x = rw (ne_eqb (suc a) a (λ e. let z : ⊥ = omega arith in z), eq-eqb (suc a) (suc a) refl) (whose_free g x (bit g x))

third-is : (a f g k x : ℕ) → free (operands a f g k x (suc (suc a))) x ≡ bit k x
unfolding operands
third-is a f g k x =
    rw (ne_eqb (suc (suc a)) a (λ e. let z : ⊥ = omega arith in z), ne_eqb (suc (suc a)) (suc a) (λ e. let z : ⊥ = omega arith in z)) (whose_free k x (bit k x))

pub covered_free : (op a p f g k r : ℕ) → is_past op ≡ false → Free op a f g k r → Covered op a p f g k r
covered_free op a p f g k r n e t b c x h v col s s' s'' q =
    e t (suc a) (suc (suc a)) x (operands a f g k x) v (λ z. sym (first-is a f g k x)) (λ z. sym (second_is a f g k x)) (λ z. sym (third-is a f g k x))
    ∙ reads_free op n t a b (suc a) c (suc (suc a)) x h (operands a f g k x) (λ z y. first-is a f g k x ∙ s z y) (λ z y. second_is a f g k x ∙ s' z y)
    (λ z y. third-is a f g k x ∙ s'' z y) q

-- ---- the slots below i have no rows, and the sets of variables
pub record Preparing (T : Terms) (i : ℕ) (sets m : List ℕ) : Type 0 where
  pub upto : i ≤ T.entries
  pub long : length sets ≡ 256
  pub covers : (k y : ℕ) → k < i → reads (formula T k) y ≡ true → bit (get_or sets k 0) y ≡ true
  pub none : (k : ℕ) → k < i → 133 * k + 133 ≤ length m → have_of (slot_of k m) ≡ 0
  pub slots : (k y : ℕ) → k < i → 133 * k + 133 ≤ length m → reads (formula T k) y ≡ true → bit (reads_of (slot_of k m)) y ≡ true

pub preparing : (T : Terms) (sets m : List ℕ) → length sets ≡ 256 → Preparing T 0 sets m
preparing T sets m e = record {
  upto = omega arith;
  long = e;
  covers = λ k y l. absurd (let z : ⊥ = omega arith in z);
  none = λ k l. absurd (let z : ⊥ = omega arith in z);
  slots = λ k y l. absurd (let z : ⊥ = omega arith in z);
}

module _ (T : Terms) (i : ℕ) {sets m m' : List ℕ} (r : ℕ) (few : T.entries < 257) (here : i < T.entries) (f : Preparing T i sets m)
    (mine : (y : ℕ) → reads (formula T i) y ≡ true → bit r y ≡ true) (apart : Apart i m m')
    (new : 133 * i + 133 ≤ length m → (have_of (slot_of i m') ≡ 0) × (reads_of (slot_of i m') ≡ r)) where
  fits : (k : ℕ) → 133 * k + 133 ≤ length m' → 133 * k + 133 ≤ length m
  fits k l = subst (λ (z : ℕ). 133 * k + 133 ≤ z) apart.long l

  pub preparing_more : Preparing T (i + 1) (set sets i r) m'
  preparing_more = record {
    upto = omega arith;
    long = length-set sets i r ∙ f.long;
    covers = λ k y l. below_more (λ k. reads (formula T k) y ≡ true → bit (get_or (set sets i r) k 0) y ≡ true) i
        (λ k l q. ap (λ (w : ℕ). bit w y) (get_or-set_other sets i k r 0 (λ e. let z : ⊥ = omega arith in z)) ∙ f.covers k y l q)
        (λ q. ap (λ (w : ℕ). bit w y) (get_or-set_same sets i r 0 (let l : length sets ≡ 256 = f.long in omega arith)) ∙ mine y q) k l;
    none = λ k l. below_more (λ k. 133 * k + 133 ≤ length m' → have_of (slot_of k m') ≡ 0) i
        (λ k l q. ap have_of (apart.same k (λ e. let z : ⊥ = omega arith in z)) ∙ f.none k l (fits k q))
        (λ q. (new (fits i q)).0) k l;
    slots = λ k y l. below_more (λ k. 133 * k + 133 ≤ length m' → reads (formula T k) y ≡ true → bit (reads_of (slot_of k m')) y ≡ true) i
        (λ k l q z. ap (λ (w : List ℕ). bit (reads_of w) y) (apart.same k (λ e. let z : ⊥ = omega arith in z)) ∙ f.slots k y l (fits k q) z)
        (λ q z. ap (λ (w : ℕ). bit w y) (new (fits i q)).1 ∙ mine y z) k l;
  }

-- What entry i reads, from the sets of the entries below it.
pub covers_entry : (T : Terms) (i p f g k r : ℕ) {sets m : List ℕ} → Preparing T i sets m
    → (first_operand (T.entry i).op ≡ variable → (T.entry i).a < 64) → (is_past (T.entry i).op ≡ true → index_columns p ≡ columns (formula T i))
    → (first_operand (T.entry i).op ≡ entry → (T.entry i).a < i) → (second_operand (T.entry i).op ≡ entry → (T.entry i).b < i)
    → (third_operand (T.entry i).op ≡ entry → (T.entry i).c < i)
    → f ≡ get_or sets (T.entry i).a 0 → g ≡ get_or sets (T.entry i).b 0 → k ≡ get_or sets (T.entry i).c 0 → Covered (T.entry i).op (T.entry i).a p f g k r
    → (y : ℕ) → reads (formula T i) y ≡ true → bit r y ≡ true
unfolding spelled
covers_entry T i p f g k r {sets} h v col la lb lc ef eg ek c y =
    c (number T.entry i) (T.entry i).b (T.entry i).c y (below T.entry i) v col
    (lower (T.entry i).a f ef la) (lower (T.entry i).b g eg lb) (lower (T.entry i).c k ek lc)
  where
    lower : {A : Type 0} (n w : ℕ) → w ≡ get_or sets n 0 → (A → n < i) → A → reads (below T.entry i n) y ≡ true → bit w y ≡ true
    lower n w e l z q = ap (λ (w : ℕ). bit w y) e ∙ h.covers n y (l z) (subst (λ (φ : Formula). reads φ y ≡ true) (below_spelled T.entry i n (l z)) q)

pub prepared_memo : (T : Terms) {sets m : List ℕ} (rel past : List ℕ) → Preparing T T.entries sets m → Memo T rel past T.entries m
prepared_memo T rel past f = record { slot = λ k l q. empty_slot k (f.none k l q) (λ y. f.slots k y l q) }

pub prepared_fresh : (T : Terms) {sets m : List ℕ} → Preparing T T.entries sets m → Fresh T.entries 0 m
prepared_fresh T f = record { none = λ k l n q. f.none k n q }
