-- The rows of a table with two columns go to the quarters of their new numbers, one after
-- another; which tables have two.
use Prim.Native.Nat.{ℕ, ◌+◌, ◌-◌, ◌*◌, ◌/◌, ◌%◌, ◌≤◌, ◌<◌}
use native.Mathlib.Omega.{arith}
use native.Mathlib.Numerals.{add-one}
use mathlib.Core.Path.{◌≡◌, refl, sym, ap, ap₂, subst, ◌∙◌}
use mathlib.Core.Bool.{Bool, true, false, cond, not, ◌&&◌, ◌||◌, false≢true}
use mathlib.Core.List.{List, [], ◌∷◌}
use lib.Dec.{eqb, ltb}
use lib.ListN.{length, get_or, set, take, drop, length-set}
use lib.Seq.{get_or-set_same, get_or-set_other, get_or-take, get_or-drop}
use borrow.Author.Tests.{eq-eqb, eqb-true, eqb-false, lt-ltb, ltb-true}
use Rattle.sets.specs.Sets.{any_below, bit}
use Rattle.sets.proofs.Finite.{bool_iff, is_false, not_both, and_left, and_right, and_both, any_intro, any_elim}
use Rattle.sets.proofs.Bits.{bit_zero}
use Rattle.theory.specs.Formula.{number, is_past, columns}
use Rattle.theory.specs.Columns.{columns_fit, inside, word_under, bit_under}
use Rattle.theory.specs.Terms.{Terms, formula, tables}
use Rattle.memory.specs.Layout.{table_columns}
use Rattle.memory.specs.TableIndex.{index_table, index_first, index_last, index_columns, Indexed}
use Rattle.memory.proofs.Words.{columns_fitting}
use Rattle.theory.specs.Fit.{Good}
use Rattle.theory.proofs.Past.{past_is}
use Rattle.theory.proofs.MembersPlaces.{PairInside, pair_inside, pair_word_back, pair_bit_back, under_inside, under_back}
use Rattle.theory.specs.MembersRenumbered.{Renumbering}
use Rattle.renumber.specs.private.Spread.{spread}
use Rattle.renumber.proofs.Spreading.{spread_cong}
use Rattle.renumber.specs.private.PairRows.{Few, goes_to, Gone, is_two, is_pairs}

any_more : (n : ℕ) (f : ℕ → Bool) → any_below (n + 1) f ≡ (f n || any_below n f)
unfolding any_below
any_more n f = ap (λ m. any_below m f) (add-one n)

none_below : (f : ℕ → Bool) → any_below 0 f ≡ false
unfolding any_below
none_below f = refl

or_swap : (x y : Bool) → (x || y) ≡ (y || x)
or_swap true true = refl
or_swap true false = refl
or_swap false true = refl
or_swap false false = refl

-- ---- one row

-- The first of four parts.
pub first_part : (p : ℕ → ℕ) (r row : ℕ) → ((m : ℕ) → bit row m ≡ spread 16 (λ k. p (16 * 0 + k)) r m) → (m : ℕ) → bit row m ≡ spread 16 p r m
first_part p r row h m = h m ∙ spread_cong 16 (λ k. p (16 * 0 + k)) p r m (λ k _. let z : 16 * 0 + k ≡ k = omega arith in ap p z)

-- r is row q of the word w, spread by p to row.
module _ (p : ℕ → ℕ) (few : Few p) (w q r row : ℕ) (here : (c : ℕ) → bit r c ≡ (ltb c 16 && bit w (16 * q + c)))
    (there : (m : ℕ) → bit row m ≡ spread 16 p r m)
  where
    from_row : (m : ℕ) → bit row m ≡ true → (c : ℕ) × (c < 16) × (bit w (16 * q + c) ≡ true) × (m ≡ p c)
    unfolding spread
    from_row m e =
        let s = any_elim 16 (λ c. bit r c && (ltb m 64 && eqb m (p c))) (sym (there m) ∙ e) in
        let b = sym (here s.0) ∙ and_left (bit r s.0) _ s.2 in (
          s.0,
          ltb-true s.0 16 (and_left (ltb s.0 16) _ b),
          and_right (ltb s.0 16) _ b,
          eqb-true m (p s.0) (and_right (ltb m 64) _ (and_right (bit r s.0) _ s.2)),
        )

    to_row : (c : ℕ) → c < 16 → bit w (16 * q + c) ≡ true → bit row (p c) ≡ true
    unfolding spread
    to_row c l e =
        there (p c) ∙ any_intro 16 (λ x. bit r x && (ltb (p c) 64 && eqb (p c) (p x))) c l
        (and_both _ _ (here c ∙ and_both _ _ (lt-ltb c 16 l) e)
        (and_both _ _ (lt-ltb (p c) 64 (let z : p c < 16 = few c l in omega arith)) (eq-eqb (p c) (p c) refl)))

    -- In quarter b of a word.
    quartered : (b k : ℕ) → (eqb (k / 16) b && bit row (k % 16)) ≡ any_below 16 (λ c. bit w (16 * q + c) && eqb k (16 * b + p c))
    quartered b k =
        bool_iff _ _
        (λ e.
        let z : k / 16 ≡ b = eqb-true (k / 16) b (and_left (eqb (k / 16) b) _ e) in
        let s = from_row (k % 16) (and_right (eqb (k / 16) b) _ e) in
        let y : k % 16 ≡ p s.0 = s.3 in
        any_intro 16 (λ c. bit w (16 * q + c) && eqb k (16 * b + p c)) s.0 s.1 (and_both _ _ s.2 (eq-eqb k (16 * b + p s.0) (omega arith))))
        (λ e.
        let s = any_elim 16 (λ c. bit w (16 * q + c) && eqb k (16 * b + p c)) e in
        let l : p s.0 < 16 = few s.0 s.1 in
        let y : k ≡ 16 * b + p s.0 = eqb-true k (16 * b + p s.0) (and_right (bit w (16 * q + s.0)) _ s.2) in
        let c : p s.0 ≡ k % 16 = omega arith in
        and_both _ _ (eq-eqb (k / 16) b (omega arith))
        (subst (λ m. bit row m ≡ true) c (to_row s.0 s.1 (and_left (bit w (16 * q + s.0)) _ s.2))))

-- The word of a row is there.
pub place_below : (p : ℕ → ℕ) → Few p → (m j q a b : ℕ) → m < 16 → j < 4 → q < 4 → a ≡ p m → b ≡ p (4 * j + q) → 4 * a + b / 4 < 64
place_below p few m j q a b ml jl ql ea eb =
    let al : p m < 16 = few m ml in
    let bl : p (4 * j + q) < 16 = few (4 * j + q) (omega arith) in
    omega arith

-- ---- one row after another

module _ (p : ℕ → ℕ) (few : Few p) (ws : ℕ → ℕ) (into : List ℕ) where
  -- Row d, in a word that gets it in its quarter.
  pub gone_more : (d n j q a b k r row w : ℕ) → Gone p ws into d → n < 16 → j < 4 → q < 4 → d ≡ 16 * n + 4 * j + q → a ≡ p n → b ≡ p (4 * j + q) → k ≡ 4 * a + b / 4 →
      ((c : ℕ) → bit r c ≡ (ltb c 16 && bit (ws (4 * n + j)) (16 * q + c))) → ((m : ℕ) → bit row m ≡ spread 16 p r m) →
      ((m : ℕ) → bit w m ≡ (bit (get_or into k 0) m || (eqb (m / 16) (b % 4) && bit row (m % 16)))) → Gone p ws (set into k w) (d + 1)
  gone_more d n j q a b k r row w g nl jl ql ed ea eb ek here there t = record {
    long = length-set into k w ∙ g.long;
    bits = λ o m. by o m (eqb o k) refl;
  }
    where
      al : a < 16
      al = let z : p n < 16 = few n nl in omega arith

      bl : b < 16
      bl = let z : p (4 * j + q) < 16 = few (4 * j + q) (omega arith) in omega arith

      first : d / 16 ≡ n
      first = omega arith

      second : d % 16 ≡ 4 * j + q
      second = omega arith

      word : d / 4 ≡ 4 * n + j
      word = omega arith

      quarter : d % 4 ≡ q
      quarter = omega arith

      bits_of : ℕ → ℕ → Bool
      bits_of b m = any_below 16 (λ c. bit (ws (4 * n + j)) (16 * q + c) && eqb m (16 * (b % 4) + p c))

      -- What row d says.
      says : (o m : ℕ) → goes_to p ws d o m ≡ (eqb o k && bits_of b m)
      says o m =
          rw (first, second, word, quarter, ← ea, ← eb, ← ek)

      by : (o m : ℕ) (c : Bool) → eqb o k ≡ c → bit (get_or (set into k w) o 0) m ≡ any_below (d + 1) (λ d. goes_to p ws d o m)
      by o m true e =
          let z : o ≡ k = eqb-true o k e in
          ap (λ x. bit (get_or (set into k w) x 0) m) z ∙ ap (λ x. bit x m) (get_or-set_same into k w 0 (omega (arith, g.long, al, bl))) ∙ t m
          ∙ ap₂ ◌||◌ (ap (λ x. bit (get_or into x 0) m) (sym z) ∙ g.bits o m) (quartered p few (ws (4 * n + j)) q r row here there (b % 4) m)
          ∙ or_swap (any_below d (λ d. goes_to p ws d o m)) (bits_of b m)
          ∙ ap (λ x. x || any_below d (λ d. goes_to p ws d o m)) (sym (says o m ∙ ap (λ x. x && bits_of b m) e))
          ∙ sym (any_more d (λ d. goes_to p ws d o m))
      by o m false e =
          ap (λ x. bit x m) (get_or-set_other into k o w 0 (eqb-false o k e)) ∙ g.bits o m
          ∙ ap (λ x. x || any_below d (λ d. goes_to p ws d o m)) (sym (says o m ∙ ap (λ x. x && bits_of b m) e))
          ∙ sym (any_more d (λ d. goes_to p ws d o m))

  -- Row d of a word that is 0.
  gone_empty : (d : ℕ) → ws (d / 4) ≡ 0 → Gone p ws into d → Gone p ws into (d + 1)
  gone_empty d z g = record {
    long = g.long;
    bits = λ j m.
        g.bits j m ∙ ap (λ x. x || any_below d (λ d. goes_to p ws d j m)) (sym (empty j m)) ∙ sym (any_more d (λ d. goes_to p ws d j m));
  }
    where
      empty : (j m : ℕ) → goes_to p ws d j m ≡ false
      empty j m = is_false _ (λ e.
          let s = any_elim 16 (λ c. bit (ws (d / 4)) (16 * (d % 4) + c) && eqb m (16 * (p (d % 16) % 4) + p c)) (and_right (eqb j _) _ e) in
          not_both _ (and_left (bit (ws (d / 4)) (16 * (d % 4) + s.0)) _ s.2) (ap (λ x. bit x (16 * (d % 4) + s.0)) z ∙ bit_zero _))

  -- The four rows of such a word.
  pub gone_word : (i d e : ℕ) → d ≡ 4 * i → e ≡ 4 * (i + 1) → ws i ≡ 0 → Gone p ws into d → Gone p ws into e
  gone_word i d e from to z g =
      let at : (q : ℕ) → q < 4 → ws ((4 * i + q) / 4) ≡ 0 = λ q l. (let y : (4 * i + q) / 4 ≡ i = omega arith in ap ws y ∙ z) in
      let none : d ≡ 4 * i + 0 = omega arith in
      let one : 4 * i + 0 + 1 ≡ 4 * i + 1 = omega arith in
      let two : 4 * i + 1 + 1 ≡ 4 * i + 2 = omega arith in
      let three : 4 * i + 2 + 1 ≡ 4 * i + 3 = omega arith in
      let four : 4 * i + 3 + 1 ≡ e = omega arith in
      subst (Gone p ws into) four (gone_empty (4 * i + 3) (at 3 (omega arith))
      (subst (Gone p ws into) three (gone_empty (4 * i + 2) (at 2 (omega arith))
      (subst (Gone p ws into) two (gone_empty (4 * i + 1) (at 1 (omega arith))
      (subst (Gone p ws into) one (gone_empty (4 * i + 0) (at 0 (omega arith)) (subst (Gone p ws into) none g))))))))

  pub gone_none : length into ≡ 64 → ((i : ℕ) → get_or into i 0 ≡ 0) → Gone p ws into 0
  gone_none l z = record { long = l; bits = λ j m. ap (λ x. bit x m) (z j) ∙ bit_zero m ∙ sym (none_below _) }

-- ---- the set of such tables

module _ (T : Terms) where
  pub pairs_none : (b : ℕ) → bit 0 b ≡ is_pairs T 0 b
  unfolding is_pairs
  pairs_none b = bit_zero b ∙ sym (none_below _)

  -- A table with one column.
  pub pairs_skip : (s two : ℕ) → is_two (table_columns T s) ≡ false → ((b : ℕ) → bit two b ≡ is_pairs T s b) → (b : ℕ) → bit two b ≡ is_pairs T (s + 1) b
  unfolding is_pairs
  pairs_skip s two one h b =
      h b ∙ sym (any_more s (λ t. eqb b (16 + t) && is_two (table_columns T t)) ∙ ap (λ x. (eqb b (16 + s) && x) || is_pairs T s b) one ∙ none (eqb b (16 + s)))
    where
      none : (c : Bool) → ((c && false) || is_pairs T s b) ≡ is_pairs T s b
      none true = refl
      none false = refl

  -- A table with two.
  pub pairs_more : (s two x two' : ℕ) → s < 32 → x ≡ 16 + s → is_two (table_columns T s) ≡ true → ((b : ℕ) → bit two b ≡ is_pairs T s b) →
      ((b : ℕ) → bit two' b ≡ (bit two b || (ltb b 64 && eqb b x))) → (b : ℕ) → bit two' b ≡ is_pairs T (s + 1) b
  unfolding is_pairs
  pairs_more s two x two' sl e tw h w b =
      w b ∙ ap₂ ◌||◌ (h b) (ap (λ y. ltb b 64 && eqb b y) e ∙ go (eqb b (16 + s)) refl ∙ ap (λ y. eqb b (16 + s) && y) (sym tw))
      ∙ or_swap (is_pairs T s b) (eqb b (16 + s) && is_two (table_columns T s))
      ∙ sym (any_more s (λ t. eqb b (16 + t) && is_two (table_columns T t)))
    where
      go : (c : Bool) → eqb b (16 + s) ≡ c → (ltb b 64 && eqb b (16 + s)) ≡ (eqb b (16 + s) && true)
      go true q =
          let z : b ≡ 16 + s = eqb-true b (16 + s) q in
          rw (q, lt-ltb b 64 (omega arith))
      go false q = rw q (is_false _ (λ y. not_both false (and_right (ltb b 64) false y) refl))

  -- A relation is none.
  pub pairs_relation : (s b : ℕ) → b < 16 → is_pairs T s b ≡ false
  unfolding is_pairs
  pairs_relation s b l = is_false _ (λ e.
      let w = any_elim s (λ t. eqb b (16 + t) && is_two (table_columns T t)) e in
      let z : b ≡ 16 + w.0 = eqb-true b (16 + w.0) (and_left (eqb b (16 + w.0)) _ w.2) in
      absurd (omega arith))

  pub pairs_in : (s t : ℕ) → t < s → is_two (table_columns T t) ≡ true → is_pairs T s (16 + t) ≡ true
  unfolding is_pairs
  pairs_in s t l two = any_intro s (λ u. eqb (16 + t) (16 + u) && is_two (table_columns T u)) t l (and_both _ _ (eq-eqb (16 + t) (16 + t) refl) two)

  pub pairs_out : (s t : ℕ) → (t < s → is_two (table_columns T t) ≡ true → ⊥) → is_pairs T s (16 + t) ≡ false
  unfolding is_pairs
  pairs_out s t out = is_false _ (λ e.
      let w = any_elim s (λ u. eqb (16 + t) (16 + u) && is_two (table_columns T u)) e in
      let z : 16 + t ≡ 16 + w.0 = eqb-true (16 + t) (16 + w.0) (and_left (eqb (16 + t) (16 + w.0)) _ w.2) in
      let y : t ≡ w.0 = omega arith in
      out (let l = w.1 in omega arith) (ap (λ u. is_two (table_columns T u)) y ∙ and_right (eqb (16 + t) (16 + w.0)) _ w.2))

-- Two columns are of few members.
two_few : (N : ℕ) (cs : List ℕ) → columns_fit N cs ≡ true → is_two cs ≡ true → N < 17
two_few N [] fit two = absurd (false≢true two)
two_few N (x ∷ []) fit two = absurd (false≢true two)
two_few N (x ∷ y ∷ []) fit two = ltb-true N 17 fit
two_few N (x ∷ y ∷ z ∷ zs) fit two = absurd (false≢true fit)

-- Where there is such a table.
pub pairs_few : (T : Terms) → Good T → (b : ℕ) → is_pairs T (tables T) b ≡ true → T.members < 17
unfolding is_pairs
pairs_few T good b e =
    let w = any_elim (tables T) (λ t. eqb b (16 + t) && is_two (table_columns T t)) e in
    two_few T.members (table_columns T w.0) (columns_fitting T good w.0 w.1) (and_right (eqb b (16 + w.0)) _ w.2)

-- The index says which table it is, and whether it has two columns.
module _ (T : Terms) (good : Good T) (index : List ℕ) (h : Indexed T index) (n w : ℕ) (l : n < T.entries) (past : is_past (T.entry n).op ≡ true) (is : w ≡ get_or index n 0) where
  same_columns : table_columns T (number T.entry n) ≡ columns (formula T n)
  same_columns = ap (λ d. columns (formula T d)) (past_is T n l past)

  pub indexed_table : index_table w ≡ number T.entry n
  indexed_table = ap index_table is ∙ (h.table n l past).0

  pub indexed_two : is_two (table_columns T (number T.entry n)) ≡ not (eqb (index_first w) (index_last w))
  indexed_two = ap is_two (same_columns ∙ sym (h.table n l past).1 ∙ ap index_columns (sym is)) ∙ go (eqb (index_first w) (index_last w))
    where
      go : (c : Bool) → is_two (cond c (index_last w ∷ []) (index_first w ∷ index_last w ∷ [])) ≡ not c
      go true = refl
      go false = refl

-- 64 words of a list.
module _ (w : List ℕ) (at : ℕ) (l : at + 64 ≤ length w) where
  pub part_word : (a : ℕ) → a < 64 → get_or (take (at + 64 - at) (drop at w)) a 0 ≡ get_or w (at + a) 0
  part_word a al = get_or-take (at + 64 - at) (drop at w) a 0 (omega arith) ∙ get_or-drop at w a 0

-- ---- what the words of such a table then say

-- Row 16a + b is that of a and b.
module _ (a b : ℕ) (al : a < 16) (bl : b < 16) where
  row_member : (16 * a + b) / 16 ≡ a
  row_member = omega arith

  row_first : (16 * a + b) % 16 ≡ b
  row_first = omega arith

  row_word : (16 * a + b) / 4 ≡ 4 * a + b / 4
  row_word = omega arith

  row_quarter : (16 * a + b) % 4 ≡ b % 4
  row_quarter = omega arith

  row_below : 16 * a + b < 256
  row_below = omega arith

  word_below : 4 * a + b / 4 < 64
  word_below = omega arith

-- They said X, in words ws.
module _ (N : ℕ) (p q : ℕ → ℕ) (r : Renumbering N p q) (few : N < 17) (x y : ℕ) (X : ℕ → ℕ → Bool) (ws : ℕ → ℕ)
    (says : (i k : ℕ) → i < 64 → bit (ws i) k ≡ (inside N (x ∷ y ∷ []) i k && X i k))
  where
    abbrev cs : List ℕ
    cs = x ∷ y ∷ []

    fit : columns_fit N cs ≡ true
    fit = lt-ltb N 17 few

    pairs_said : (j k : ℕ) → j < 64 → any_below 256 (λ d. goes_to p ws d j k) ≡ (inside N cs j k && X (word_under cs q j k) (bit_under cs q j k))
    pairs_said j k jl = bool_iff _ _ there back
      where
        there : any_below 256 (λ d. goes_to p ws d j k) ≡ true → (inside N cs j k && X (word_under cs q j k) (bit_under cs q j k)) ≡ true
        there e = go s.0 s.1 (eqb-true j _ (and_left (eqb j _) _ s.2)) u.0 u.1
            (and_left (bit (ws (s.0 / 4)) (16 * (s.0 % 4) + u.0)) _ u.2) (eqb-true k _ (and_right (bit (ws (s.0 / 4)) (16 * (s.0 % 4) + u.0)) _ u.2))
          where
            s : (d : ℕ) × (d < 256) × (goes_to p ws d j k ≡ true)
            s = any_elim 256 (λ d. goes_to p ws d j k) e

            u : (c : ℕ) × (c < 16) × ((bit (ws (s.0 / 4)) (16 * (s.0 % 4) + c) && eqb k (16 * (p (s.0 % 16) % 4) + p c)) ≡ true)
            u = any_elim 16 (λ c. bit (ws (s.0 / 4)) (16 * (s.0 % 4) + c) && eqb k (16 * (p (s.0 % 16) % 4) + p c)) (and_right (eqb j _) _ s.2)

            go : (d : ℕ) → d < 256 → j ≡ 4 * p (d / 16) + p (d % 16) / 4 → (c : ℕ) → c < 16 → bit (ws (d / 4)) (16 * (d % 4) + c) ≡ true →
                k ≡ 16 * (p (d % 16) % 4) + p c → (inside N cs j k && X (word_under cs q j k) (bit_under cs q j k)) ≡ true
            go d dl ej c cl b ek =
                let both : (inside N cs (d / 4) (16 * (d % 4) + c) && X (d / 4) (16 * (d % 4) + c)) ≡ true = sym (says (d / 4) (16 * (d % 4) + c) (omega arith)) ∙ b in
                let o : inside N cs (d / 4) (16 * (d % 4) + c) ≡ true = and_left (inside N cs (d / 4) (16 * (d % 4) + c)) _ both in
                let member : d / 4 / 4 ≡ d / 16 = omega arith in
                let first : 4 * (d / 4 % 4) + (16 * (d % 4) + c) / 16 ≡ d % 16 = omega arith in
                let last : (16 * (d % 4) + c) % 16 ≡ c = omega arith in
                let word : j ≡ word_under cs p (d / 4) (16 * (d % 4) + c) = ej ∙ ap₂ (λ a b. 4 * p a + p b / 4) (sym member) (sym first) in
                let place : k ≡ bit_under cs p (d / 4) (16 * (d % 4) + c) = ek ∙ ap₂ (λ b c. 16 * (p b % 4) + p c) (sym first) (sym last) in
                let home = under_back N p r.new q r.back cs (d / 4) (16 * (d % 4) + c) fit o in
                rw (word, place)
                (and_both _ _ (under_inside N p r.new cs (d / 4) (16 * (d % 4) + c) fit o)
                (ap₂ X home.0 home.1 ∙ and_right (inside N cs (d / 4) (16 * (d % 4) + c)) _ both))

        back : (inside N cs j k && X (word_under cs q j k) (bit_under cs q j k)) ≡ true → any_below 256 (λ d. goes_to p ws d j k) ≡ true
        back e = go (q (j / 4)) (q (4 * (j % 4) + k / 16)) (q (k % 16)) refl refl refl
          where
            o : inside N cs j k ≡ true
            o = and_left (inside N cs j k) _ e

            h : PairInside N j k
            h = pair_inside N j k x y [] o

            go : (a b c : ℕ) → a ≡ q (j / 4) → b ≡ q (4 * (j % 4) + k / 16) → c ≡ q (k % 16) → any_below 256 (λ d. goes_to p ws d j k) ≡ true
            go a b c ea eb ec =
                let al : a < 16 = (let z : q (j / 4) < N = r.old (j / 4) h.member in omega arith) in
                let bl : b < 16 = (let z : q (4 * (j % 4) + k / 16) < N = r.old (4 * (j % 4) + k / 16) h.first in omega arith) in
                let cl : c < 16 = (let z : q (k % 16) < N = r.old (k % 16) h.last in omega arith) in
                let pa : p a ≡ j / 4 = ap p ea ∙ r.forth (j / 4) in
                let pb : p b ≡ 4 * (j % 4) + k / 16 = ap p eb ∙ r.forth (4 * (j % 4) + k / 16) in
                let pc : p c ≡ k % 16 = ap p ec ∙ r.forth (k % 16) in
                let i : word_under cs q j k ≡ 4 * a + b / 4 = ap₂ (λ a b. 4 * a + b / 4) (sym ea) (sym eb) in
                let m : bit_under cs q j k ≡ 16 * (b % 4) + c = ap₂ (λ b c. 16 * (b % 4) + c) (sym eb) (sym ec) in
                let set : bit (ws (4 * a + b / 4)) (16 * (b % 4) + c) ≡ true =
                says (4 * a + b / 4) (16 * (b % 4) + c) (word_below a b al bl)
                ∙ ap₂ (λ i m. inside N cs i m && X i m) (sym i) (sym m)
                ∙ and_both _ _ (under_inside N q r.old cs j k fit o) (and_right (inside N cs j k) _ e) in
                any_intro 256 (λ d. goes_to p ws d j k) (16 * a + b) (row_below a b al bl)
                (rw (row_member a b al bl, row_first a b al bl, row_word a b al bl, row_quarter a b al bl)
                (and_both _ _ (eq-eqb j (4 * p a + p b / 4) (sym (ap₂ (λ a b. 4 * a + b / 4) pa pb ∙ pair_word_back j k h.below)))
                (any_intro 16 (λ c. bit (ws (4 * a + b / 4)) (16 * (b % 4) + c) && eqb k (16 * (p b % 4) + p c)) c cl
                (and_both _ _ set (eq-eqb k (16 * (p b % 4) + p c) (sym (ap₂ (λ b c. 16 * (b % 4) + c) pb pc ∙ pair_bit_back j k h.below)))))))

-- The same of any two columns.
pub two_said : (N : ℕ) (p q : ℕ → ℕ) → Renumbering N p q → (cs : List ℕ) → columns_fit N cs ≡ true → is_two cs ≡ true → (X : ℕ → ℕ → Bool) (ws : ℕ → ℕ) →
    ((i k : ℕ) → i < 64 → bit (ws i) k ≡ (inside N cs i k && X i k)) → (j k : ℕ) → j < 64 →
    any_below 256 (λ d. goes_to p ws d j k) ≡ (inside N cs j k && X (word_under cs q j k) (bit_under cs q j k))
two_said N p q r [] fit two X ws says = absurd (false≢true two)
two_said N p q r (x ∷ []) fit two X ws says = absurd (false≢true two)
two_said N p q r (x ∷ y ∷ []) fit two X ws says = pairs_said N p q r (ltb-true N 17 fit) x y X ws says
two_said N p q r (x ∷ y ∷ z ∷ zs) fit two X ws says = absurd (false≢true fit)
