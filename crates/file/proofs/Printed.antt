-- A line printed and read, read and printed: the two undo each other.
use Prim.Native.Nat.{ℕ, zero, suc, ◌+◌, ◌<◌}
use mathlib.Core.Path.{◌≡◌, refl, sym, ap, subst, ◌∙◌}
use mathlib.Core.Logic.{◌⊎◌, inl, inr, ⊎_elim}
use mathlib.Core.List.{List, [], ◌∷◌, map}
use mathlib.Core.Bool.{Bool, true, false, cond, not}
use native.Mathlib.Omega.{arith}
use lib.Dec.{eqb, ltb, lit<}
use lib.ListN.{length, get_or}
use lib.Seq.{ext_get_or}
use borrow.Author.Tests.{not-true, eqb-true, ltb-true, lt-ltb}
use Rattle.sets.proofs.Finite.{true_or_false, not_both, or_cases}
use Rattle.theory.specs.Fit.{every}
use Rattle.theory.proofs.Good.{every_at}
use Rattle.fields.specs.Split.{split}
use Rattle.fields.specs.Number.{is_number, is_digit, all_digits, value_of, digits}
use Rattle.file.specs.Words.{operator_words, action_words, direction_words, kind_words, index_of, operator_of, action_of, direction_of, kind_of}
use Rattle.file.specs.Line.{num, is_num, single_line, labels_line, short_entry_line, long_entry_line, has_third, entry_line, policy_line, effect_line, triple_line, pair_line, table_line, line_of, parsed, fields_of, printed}
use Rattle.file.specs.Normal.{normal_field}
use Rattle.file.specs.declared.line.Line.{Line}
use Rattle.file.specs.declared.line.Line.TheVariants.{Members, Labels, Entry, Policy, Effect, Edge, Form, TableBit, PairBit, EventEdge, Mark, Malformed}
use Rattle.fields.proofs.Numeral.{value_small}
use Rattle.fields.proofs.Digits.{value_of_digits, digits_number}
use Rattle.file.proofs.Words.{operator_at, operator_back, action_at, action_back, direction_at, direction_back, kind_at, kind_back}
use Rattle.file.proofs.Plain.{word_all, split_printed}

-- A line whose numbers have at most five digits and whose words are known: one that can be written.
pub data Ranged : Line → Type 0 where
  members : {n : ℕ} → n < 100000 → Ranged (Members n)
  labels : {r e : ℕ} → r < 100000 → e < 100000 → Ranged (Labels r e)
  entry : {n o a b c : ℕ} → n < 100000 → o < 12 → a < 100000 → b < 100000 → c < 100000 → (has_third o ≡ false → c ≡ 0) → Ranged (Entry n o a b c)
  policy : {j n : ℕ} → j < 100000 → n < 100000 → Ranged (Policy j n)
  effect : {j c k d : ℕ} → j < 100000 → 0 < c → c < 3 → k < 100000 → d < 2 → Ranged (Effect j c k d)
  edge : {k a b : ℕ} → k < 100000 → a < 100000 → b < 100000 → Ranged (Edge k a b)
  form : {n : ℕ} → n < 100000 → Ranged (Form n)
  bit : {t a b : ℕ} → t < 100000 → a < 100000 → b < 100000 → Ranged (TableBit t a b)
  pair : {t a b c : ℕ} → t < 100000 → a < 100000 → b < 100000 → c < 100000 → Ranged (PairBit t a b c)
  event : {j u v : ℕ} → j < 100000 → u < 100000 → v < 100000 → Ranged (EventEdge j u v)
  mark : {j : ℕ} → j < 100000 → Ranged (Mark j)

-- ---- printed and read

kind_word : (k : ℕ) → k < 10 → kind_of (get_or kind_words k []) ≡ k
kind_word k h = kind_at k (unfold kind_words in h)

action_word : (c : ℕ) → 0 < c → c < 3 → action_of (get_or ([] ∷ action_words) c []) ≡ c
action_word zero p h = absurd (omega arith)
action_word (suc c) p h = action_at c (unfold action_words in omega arith) ∙ (omega arith)

-- A line's fields say the line.
pub parsed_printed : {l : Line} → Ranged l → parsed (fields_of l) ≡ l
unfolding parsed fields_of line_of single_line labels_line short_entry_line long_entry_line entry_line policy_line effect_line triple_line every pair_line table_line
parsed_printed (members {n = n} h) = rw (kind_word 0 (lit< tt), digits_number n h, value_of_digits n h) refl
parsed_printed (labels {r = r} {e = e} h i) =
    rw (kind_word 1 (lit< tt), digits_number r h, digits_number e i, value_of_digits r h, value_of_digits e i) refl
parsed_printed (entry {n = n} {o = o} {a = a} {b = b} {c = c} h i j k m z) =
    ⊎_elim
    (λ e. rw e (rw (
      kind_word 2 (lit< tt),
      operator_at o (unfold operator_words in i),
    ) (rw e (rw (
      digits_number n h,
      digits_number a j,
      digits_number b k,
      digits_number c m,
      value_of_digits n h,
      value_of_digits a j,
      value_of_digits b k,
      value_of_digits c m,
    ) refl))))
    (λ e. rw e (rw (
      kind_word 2 (lit< tt),
      operator_at o (unfold operator_words in i),
    ) (rw e (rw (
      digits_number n h,
      lt-ltb o 12 i,
      digits_number a j,
      digits_number b k,
      value_of_digits n h,
      value_of_digits a j,
      value_of_digits b k,
      z e,
    ) refl))))
    (true_or_false (has_third o))
parsed_printed (policy {j = j} {n = n} h i) =
    rw (kind_word 3 (lit< tt), digits_number j h, digits_number n i, value_of_digits j h, value_of_digits n i) refl
parsed_printed (effect {j = j} {c = c} {k = k} {d = d} h p i m n) =
    rw (
      kind_word 4 (lit< tt),
      digits_number j h,
      action_word c p i,
      lt-ltb 0 c p,
      digits_number k m,
      direction_at d (unfold direction_words in n),
      lt-ltb d 2 n,
      value_of_digits j h,
      value_of_digits k m,
    ) refl
parsed_printed (edge {k = k} {a = a} {b = b} h i j) =
    rw (kind_word 5 (lit< tt), digits_number k h, digits_number a i, digits_number b j, value_of_digits k h, value_of_digits a i, value_of_digits b j) refl
parsed_printed (form {n = n} h) = rw (kind_word 6 (lit< tt), digits_number n h, value_of_digits n h) refl
parsed_printed (bit {t = t} {a = a} {b = b} h i j) =
    rw (kind_word 7 (lit< tt), digits_number t h, digits_number a i, digits_number b j, value_of_digits t h, value_of_digits a i, value_of_digits b j) refl
parsed_printed (pair {t = t} {a = a} {b = b} {c = c} h i j k) =
    rw (kind_word 7 (lit< tt), digits_number t h, digits_number a i, digits_number b j, digits_number c k, value_of_digits t h, value_of_digits a i, value_of_digits b j, value_of_digits c k) refl
parsed_printed (event {j = j} {u = u} {v = v} h i m) =
    rw (kind_word 8 (lit< tt), digits_number j h, digits_number u i, digits_number v m, value_of_digits j h, value_of_digits u i, value_of_digits v m) refl
parsed_printed (mark {j = j} h) = rw (kind_word 9 (lit< tt), digits_number j h, value_of_digits j h) refl

-- And the printed line parts into them.
pub split_ranged : {l : Line} → Ranged l → split 9 (printed l) ≡ fields_of l
unfolding fields_of
split_ranged (members {n = n} h) = split_printed (Members n) (omega arith)
split_ranged (labels {r = r} {e = e} h i) = split_printed (Labels r e) (omega arith)
split_ranged (entry {n = n} {o = o} {a = a} {b = b} {c = c} h i j k m z) = split_printed (Entry n o a b c) (omega arith)
split_ranged (policy {j = j} {n = n} h i) = split_printed (Policy j n) (omega arith)
split_ranged (effect {j = j} {c = c} {k = k} {d = d} h p i m n) = split_printed (Effect j c k d) (omega arith)
split_ranged (edge {k = k} {a = a} {b = b} h i j) = split_printed (Edge k a b) (omega arith)
split_ranged (form {n = n} h) = split_printed (Form n) (omega arith)
split_ranged (bit {t = t} {a = a} {b = b} h i j) = split_printed (TableBit t a b) (omega arith)
split_ranged (pair {t = t} {a = a} {b = b} {c = c} h i j k) = split_printed (PairBit t a b c) (omega arith)
split_ranged (event {j = j} {u = u} {v = v} h i m) = split_printed (EventEdge j u v) (omega arith)
split_ranged (mark {j = j} h) = split_printed (Mark j) (omega arith)

-- ---- read and printed

-- The n fields from k on.
abbrev places : List (List ℕ) → ℕ → ℕ → List (List ℕ)
places fs k zero = []
places fs k (suc n) = get_or fs k [] ∷ places fs (suc k) n

places_at : (fs : List (List ℕ)) (k n i : ℕ) → i < n → get_or (places fs k n) i [] ≡ get_or fs (k + i) []
places_at fs k zero i h = absurd (omega arith)
places_at fs k (suc n) zero h = let e : k ≡ k + 0 = omega arith in ap (λ (m : ℕ). get_or fs m []) e
places_at fs k (suc n) (suc i) h =
    let e : suc k + i ≡ k + suc i = omega arith in places_at fs (suc k) n i (omega arith) ∙ ap (λ (m : ℕ). get_or fs m []) e

places_length : (fs : List (List ℕ)) (k n : ℕ) → length (places fs k n) ≡ n
places_length fs k zero = refl
places_length fs k (suc n) = ap suc (places_length fs (suc k) n)

-- Fields of a known count, one by one.
places_all : (fs : List (List ℕ)) (n : ℕ) → length fs ≡ n → places fs 0 n ≡ fs
places_all fs n h =
    let l = places_length fs 0 n in
    ext_get_or [] (places fs 0 n) fs (l ∙ sym h) (λ i m. let z : 0 + i ≡ i = omega arith in
    places_at fs 0 n i (omega arith) ∙ ap (λ (m : ℕ). get_or fs m []) z)

number_normal : (f : List ℕ) → is_number f ≡ true → digits (value_of f) ≡ normal_field f
number_normal f h = rw h refl

word_normal : (f w : List ℕ) → f ≡ w → not (is_number w) ≡ true → w ≡ normal_field f
word_normal f w e h = rw (e, not-true (is_number w) h) refl

-- No word is a number.
kind_normal : (f : List ℕ) (k : ℕ) → kind_of f ≡ k → k < 10 → get_or kind_words k [] ≡ normal_field f
unfolding is_number is_digit all_digits kind_words every
kind_normal f k e h =
    word_normal f (get_or kind_words k [])
    (subst (λ (m : ℕ). m < 10 → f ≡ get_or kind_words m []) e (kind_back f) h)
    (word_all (λ w. not (is_number w)) kind_words refl refl k)

operator_normal : (f : List ℕ) → operator_of f < 12 → get_or operator_words (operator_of f) [] ≡ normal_field f
unfolding is_number is_digit all_digits operator_words every
operator_normal f h =
    word_normal f (get_or operator_words (operator_of f) []) (operator_back f h) (word_all (λ w. not (is_number w)) operator_words refl refl (operator_of f))

action_normal : (f : List ℕ) → 0 < action_of f → get_or ([] ∷ action_words) (action_of f) [] ≡ normal_field f
unfolding is_number is_digit all_digits action_words every
action_normal f h =
    word_normal f (get_or ([] ∷ action_words) (action_of f) []) (action_back f h) (word_all (λ w. not (is_number w)) ([] ∷ action_words) refl refl (action_of f))

direction_normal : (f : List ℕ) → direction_of f < 2 → get_or direction_words (direction_of f) [] ≡ normal_field f
unfolding is_number is_digit all_digits direction_words every
direction_normal f h =
    word_normal f (get_or direction_words (direction_of f) []) (direction_back f h) (word_all (λ w. not (is_number w)) direction_words refl refl (direction_of f))

action_small : (f : List ℕ) → action_of f < 3
unfolding action_of
action_small f = ⊎_elim (λ e. let l = ltb-true (index_of action_words f) 2 e in rw e (omega arith)) (λ e. rw e (omega arith)) (true_or_false (ltb (index_of action_words f) 2))

third_known : (o : ℕ) → has_third o ≡ true → o < 12
third_known o h = ⊎_elim (λ e. let q = eqb-true o 10 e in omega arith) (λ e. let q = eqb-true o 11 e in omega arith) (or_cases (eqb o 10) (eqb o 11) h)

-- What fields say that say a line: a line that can be written, with the same fields, the numbers in their normal form.
pub record Formed (fs : List (List ℕ)) (l : Line) : Type 0 where
  pub ranged : Ranged l
  pub fields : fields_of l ≡ map normal_field fs

abbrev Says : List (List ℕ) → Line → Type 0
Says fs l = (l ≡ Malformed) ⊎ Formed fs l

tested : (fs : List (List ℕ)) (bs : List Bool) (l : Line) → (((k : ℕ) → get_or bs k true ≡ true) → Formed fs l) → Says fs (cond (every bs) l Malformed)
tested fs bs l h = ⊎_elim (λ e. rw e (inr (h (every_at bs e)))) (λ e. rw e (inl refl)) (true_or_false (every bs))

module _ (fs : List (List ℕ)) where
  abbrev field : ℕ → List ℕ
  field k = get_or fs k []

  all : (n : ℕ) → eqb (length fs) n ≡ true → map normal_field (places fs 0 n) ≡ map normal_field fs
  all n h = ap (map normal_field) (places_all fs n (eqb-true (length fs) n h))

  small : (k : ℕ) → is_num fs k ≡ true → num fs k < 100000
  small k h = value_small (field k) h

  single : (k : ℕ) (says : ℕ → Line) → kind_of (field 0) ≡ k → k < 10 → ((x : ℕ) → x < 100000 → Ranged (says x))
      → ((x : ℕ) → fields_of (says x) ≡ get_or kind_words k [] ∷ digits x ∷ []) → Says fs (single_line says fs)
  unfolding single_line
  single k says e l r h = tested fs _ _ (λ t. record {
    ranged = r _ (small 1 (t 1));
    fields = h _ ∙ rw (kind_normal (field 0) k e l, number_normal (field 1) (t 1)) (all 2 (t 0));
  })

  triple : (k : ℕ) (says : ℕ → ℕ → ℕ → Line) → kind_of (field 0) ≡ k → k < 10
      → ((x y z : ℕ) → x < 100000 → y < 100000 → z < 100000 → Ranged (says x y z))
      → ((x y z : ℕ) → fields_of (says x y z) ≡ get_or kind_words k [] ∷ digits x ∷ digits y ∷ digits z ∷ []) → Says fs (triple_line says fs)
  unfolding triple_line
  triple k says e l r h = tested fs _ _ (λ t. record {
    ranged = r _ _ _ (small 1 (t 1)) (small 2 (t 2)) (small 3 (t 3));
    fields = h _ _ _ ∙ rw (kind_normal (field 0) k e l, number_normal (field 1) (t 1), number_normal (field 2) (t 2), number_normal (field 3) (t 3)) (all 4 (t 0));
  })

  said : (k : ℕ) → kind_of (field 0) ≡ k → Says fs (line_of k fs)
  unfolding line_of labels_line short_entry_line long_entry_line entry_line policy_line effect_line pair_line table_line fields_of
  said zero e = single 0 Members e (lit< tt) (λ x h. members h) (λ x. refl)
  said (suc zero) e = tested fs _ _ (λ t. record {
    ranged = labels (small 1 (t 1)) (small 2 (t 2));
    fields = rw (kind_normal (field 0) 1 e (lit< tt), number_normal (field 1) (t 1), number_normal (field 2) (t 2)) (all 3 (t 0));
  })
  said (suc (suc zero)) e =
      ⊎_elim
      (λ h. rw h (tested fs _ _ (λ t. let o = third_known (operator_of (field 2)) h in record {
        ranged = entry (small 1 (t 1)) o (small 3 (t 2)) (small 4 (t 3)) (small 5 (t 4)) (λ z. absurd (not_both _ h z));
        fields = rw (kind_normal (field 0) 2 e (lit< tt), number_normal (field 1) (t 1), operator_normal (field 2) o, h, number_normal (field 3) (t 2), number_normal (field 4) (t 3), number_normal (field 5) (t 4)) (all 6 (t 0));
      })))
      (λ h. rw h (tested fs _ _ (λ t. let o = ltb-true (operator_of (field 2)) 12 (t 2) in record {
        ranged = entry (small 1 (t 1)) o (small 3 (t 3)) (small 4 (t 4)) (lit< tt) (λ z. refl);
        fields = rw (kind_normal (field 0) 2 e (lit< tt), number_normal (field 1) (t 1), operator_normal (field 2) o, h, number_normal (field 3) (t 3), number_normal (field 4) (t 4)) (all 5 (t 0));
      })))
      (true_or_false (has_third (operator_of (field 2))))
  said (suc (suc (suc zero))) e = tested fs _ _ (λ t. record {
    ranged = policy (small 1 (t 1)) (small 2 (t 2));
    fields = rw (kind_normal (field 0) 3 e (lit< tt), number_normal (field 1) (t 1), number_normal (field 2) (t 2)) (all 3 (t 0));
  })
  said (suc (suc (suc (suc zero)))) e = tested fs _ _ (λ t.
      let a = ltb-true 0 (action_of (field 2)) (t 2) in let d = ltb-true (direction_of (field 4)) 2 (t 4) in record {
        ranged = effect (small 1 (t 1)) a (action_small (field 2)) (small 3 (t 3)) d;
        fields = rw (kind_normal (field 0) 4 e (lit< tt), number_normal (field 1) (t 1), action_normal (field 2) a, number_normal (field 3) (t 3), direction_normal (field 4) d) (all 5 (t 0));
      })
  said (suc (suc (suc (suc (suc zero))))) e = triple 5 Edge e (lit< tt) (λ x y z h i j. edge h i j) (λ x y z. refl)
  said (suc (suc (suc (suc (suc (suc zero)))))) e = single 6 Form e (lit< tt) (λ x h. form h) (λ x. refl)
  said (suc (suc (suc (suc (suc (suc (suc zero))))))) e =
      ⊎_elim
      (λ h. rw h (tested fs _ _ (λ t. record {
        ranged = pair (small 1 (t 1)) (small 2 (t 2)) (small 3 (t 3)) (small 4 (t 4));
        fields = rw (kind_normal (field 0) 7 e (lit< tt), number_normal (field 1) (t 1), number_normal (field 2) (t 2), number_normal (field 3) (t 3), number_normal (field 4) (t 4)) (all 5 h);
      })))
      (λ h. rw h (triple 7 TableBit e (lit< tt) (λ x y z h i j. bit h i j) (λ x y z. refl)))
      (true_or_false (eqb (length fs) 5))
  said (suc (suc (suc (suc (suc (suc (suc (suc zero)))))))) e = triple 8 EventEdge e (lit< tt) (λ x y z h i j. event h i j) (λ x y z. refl)
  said (suc (suc (suc (suc (suc (suc (suc (suc (suc zero))))))))) e = single 9 Mark e (lit< tt) (λ x h. mark h) (λ x. refl)
  said (suc (suc (suc (suc (suc (suc (suc (suc (suc (suc k)))))))))) e = inl refl

  pub formed : (parsed fs ≡ Malformed) ⊎ Formed fs (parsed fs)
  unfolding parsed
  formed = said (kind_of (field 0)) refl
