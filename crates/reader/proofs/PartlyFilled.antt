-- Refusal 11, by the words that the lines have filled: a line is the first T line of a partly
-- filled word where they say so.
use Prim.Native.Nat.{ℕ, zero, suc, ◌+◌, ◌-◌, ◌^◌, ◌≤◌, ◌<◌}
use native.Mathlib.Omega.{arith}
use mathlib.Core.Path.{◌≡◌, refl, sym, ap, ap₂, subst, ◌∙◌}
use mathlib.Core.Bool.{Bool, true, false, cond, not, ◌&&◌}
use mathlib.Core.List.{List, [], append-nil}
use lib.Dec.{eqb, ltb}
use lib.ListN.{length, get_or}
use lib.Pow.{pow_mono}
use borrow.Author.Tests.{eqb-true, eq-eqb, ne_eqb, lt-ltb, ltb-true, ltb-false, not-true}
use Rattle.sets.specs.Sets.{bit, all_below}
use Rattle.sets.proofs.Finite.{bool_iff, is_false, not_both, and_right, all_true, all_out, and_left, and_under}
use Rattle.sets.proofs.Bits.{bit_zero, bit_mask, same_bits}
use Rattle.sets.proofs.Pack.{pack_cong, pack_each}
use Rattle.theory.specs.Formula.{free, highest}
use Rattle.theory.specs.Terms.{Terms, formula, tables, past_entry, Alike}
use Rattle.theory.specs.Tables.{State}
use Rattle.theory.specs.Fit.{closed, Good}
use Rattle.theory.proofs.Good.{small}
use Rattle.theory.proofs.AlikeTerms.{met-is, same_past}
use Rattle.memory.specs.Layout.{table_at, terms_of, words_of, table_columns}
use Rattle.memory.specs.Checks.{good_state}
use Rattle.memory.specs.Outcome.{checks}
use Rattle.memory.specs.Outcome.Outcome.{passed}
use Rattle.memory.specs.TableIndex.{Masked}
use Rattle.memory.proofs.StateTests.{full_is}
use Rattle.memory.proofs.Words.{word_table, word_of_table}
use Rattle.memory.proofs.Outcomes.{passed_checked}
use Rattle.fields.specs.Split.{lines, split}
use Rattle.fields.specs.Split.Lines.{done, cut}
use Rattle.fields.specs.private.Lines.{LineTaken}
use Rattle.file.specs.Line.{parsed}
use Rattle.file.specs.File.{File, state_said}
use Rattle.file.specs.Reading.{partly, partly_filled, partly_at}
use Rattle.file.specs.Reading.Reading.{accepted}
use Rattle.file.specs.declared.line.Line.{Line}
use Rattle.file.specs.declared.line.Line.TheVariants.{Members, Labels, Entry, Policy, Effect, Edge, Form, TableBit, PairBit, EventEdge, Mark, Malformed}
use Rattle.file.proofs.Fit.{InsideTables}
use Rattle.file.proofs.Accepted.{Accepted, read_good, level_read}
use Rattle.reader.specs.Memory.{memory_of}
use Rattle.reader.specs.private.Storing.{all_read, Holds}
use Rattle.reader.specs.private.Partly.{table_word, partly_in, Found}
use Rattle.reader.proofs.TermsMemory.{memory_alike}
use Rattle.reader.proofs.StateMemory.{state_alike, good_level, bare_columns}
use Rattle.theory.specs.Columns as places

-- ---- the tables without a free variable

highest_below : (n : ℕ) (p : ℕ → Bool) → 0 < n → highest n p < n
unfolding highest
highest_below zero p h = absurd (omega arith)
highest_below (suc n) p h = go (p n) (highest_below n p)
  where
    go : (c : Bool) → (0 < n → highest n p < n) → cond c n (highest n p) < suc n
    go true ih = omega arith
    go false ih = none n ih
      where
        none : (m : ℕ) → (0 < m → highest m p < m) → highest m p < suc m
        none zero ih = omega arith
        none (suc m) ih = omega (arith, ih (omega arith))

-- A set of free variables is empty.
closed_set : (T : Terms) → Good T → (n w : ℕ) → n < T.entries → ((x : ℕ) → bit w x ≡ free (formula T n) x) → eqb w 0 ≡ closed (formula T n)
unfolding closed
closed_set T g n w h b =
    bool_iff _ _
    (λ e. all_true 16 (λ x x<. ap not (sym (b x) ∙ ap (λ (y : ℕ). bit y x) (eqb-true w 0 e) ∙ bit_zero x)))
    (λ e. eq-eqb w 0 (same_bits w 0 (λ x. is_false (bit w x) (none e x) ∙ sym (bit_zero x))))
  where
    none : all_below 16 (λ x. not (free (formula T n) x)) ≡ true → (x : ℕ) → bit w x ≡ true → ⊥
    none e x q =
        let f : free (formula T n) x ≡ true = sym (b x) ∙ q in
        not_both (free (formula T n) x) f
        (not-true (free (formula T n) x) (all_out 16 (λ x. not (free (formula T n) x)) e x (small T g n h x f)))

module _ (T : Terms) (fine : Good T) where
  entry_there : (t : ℕ) → past_entry T t < T.entries
  entry_there t = highest_below T.entries _ (omega (arith, fine.policy_exists 0 fine.some_event))

  bare-is : (U : Terms) → Alike T U → (masks : List ℕ) → Masked T masks → (t : ℕ) →
      eqb (get_or masks (past_entry U t) 0) 0 ≡ closed (formula T (past_entry T t))
  bare-is U a masks m t =
      let same : past_entry U t ≡ past_entry T t = sym (same_past T U a t ∙ ap (λ (X : Terms). past_entry X t) (met-is T U a)) in
      ap (λ (k : ℕ). eqb (get_or masks k 0) 0) same
      ∙ closed_set T fine (past_entry T t) (get_or masks (past_entry T t) 0) (entry_there t) (λ x. m.bits (past_entry T t) x (entry_there t))

-- ---- the words of the tables

module _ (T : Terms) (fine : Good T) (S : State) (inside : InsideTables T S.table) (t a : ℕ) (bare : closed (formula T (past_entry T t)) ≡ true) where
  abbrev full : ℕ
  full = 2 ^ T.members - 1

  all_inside : all_below T.members (S.table t a) ≡ true → (t < tables T) × (a < T.members)
  all_inside e =
      let i = inside.within t a 0 (all_out T.members (S.table t a) e 0 fine.some_member) in
      let w : ltb a T.members && ltb 0 T.members ≡ true = rw (bare_columns (formula T (past_entry T t)) bare) at i.1 in
      (i.0, ltb-true a T.members (and_left (ltb a T.members) _ w))

  some_full : 0 < full
  some_full = let p : 2 ^ 1 ≤ 2 ^ T.members = pow_mono (let q : 1 ≤ T.members = omega (arith, fine.some_member) in q) in omega arith

  full_word : (p : Bool) → ltb t 32 ≡ p → (q : Bool) → ltb a 64 ≡ q →
      eqb (cond (p && q) (get_or (words_of T S) (table_at t a) 0) 0) full ≡ all_below T.members (S.table t a)
  full_word true p true q =
      bool_iff _ _
      (λ e. all_true T.members (λ b bl. and_right (places.inside T.members (table_columns T t) a b) _ (and_right (ltb t (tables T)) _
      (sym (word_table T S fine.few_members t a b tl al) ∙ ap (λ (w : ℕ). bit w b) (eqb-true _ full e) ∙ bit_mask T.members b ∙ lt-ltb b T.members bl))))
      (λ e. let i = all_inside e in
      eq-eqb _ full (word_of_table T S t a tl al ∙ rw (bare_columns (formula T (past_entry T t)) bare, lt-ltb t (tables T) i.0, lt-ltb a T.members i.1)
      (pack_cong T.members (λ b bl. all_out T.members (S.table t a) e b bl) ∙ omega (arith, pack_each T.members))))
    where
      tl : t < 32
      tl = ltb-true t 32 p

      al : a < 64
      al = ltb-true a 64 q
  full_word true p false q =
      ne_eqb 0 full (λ z. omega (arith, some_full))
      ∙ sym (is_false _ (λ e. omega (arith, (all_inside e).1, fine.few_members, ltb-false a 64 q)))
  full_word false p c q =
      ne_eqb 0 full (λ z. omega (arith, some_full))
      ∙ sym (is_false _ (λ e. omega (arith, (all_inside e).0, fine.few_tables, ltb-false t 32 p)))

-- ---- a line

module _ (f : File) (acc : Accepted f) (terms state masks : List ℕ) (holds : Holds f terms state masks) where
  abbrev T : Terms
  T = f.terms

  held_alike : Alike T (terms_of terms)
  held_alike =
      subst (λ (w : List ℕ). Alike T (terms_of w)) (append-nil (memory_of T) ∙ sym holds.terms_are) (memory_alike T acc.good acc.tidy [])

  full_held : (full : ℕ) → full < 2 ^ 64 → ((m : ℕ) → bit full m ≡ ltb m 64 && ltb m (terms_of terms).members) → full ≡ 2 ^ T.members - 1
  full_held full l h =
      full_is T.members full acc.good.few_members l (λ m. h m ∙ ap (λ (n : ℕ). ltb m 64 && ltb m n) (sym held_alike.members))

  line_partly : (full : ℕ) → full ≡ 2 ^ T.members - 1 → (l : Line) → partly_in terms state masks full l ≡ partly_filled f l
  unfolding partly_in partly
  line_partly full e (Members n) = refl
  line_partly full e (Labels r m) = refl
  line_partly full e (Entry n o a b c) = refl
  line_partly full e (Policy j n) = refl
  line_partly full e (Effect j c k d) = refl
  line_partly full e (Edge k a b) = refl
  line_partly full e (Form n) = refl
  line_partly full e (TableBit t a b) =
      ap (λ (x : Bool). x && not (eqb (table_word state t a) full)) (bare-is T acc.good (terms_of terms) held_alike masks holds.masked t)
      ∙ and_under (closed (formula T (past_entry T t))) _ _ (λ q. ap not
      (ap₂ (λ (w : List ℕ) (v : ℕ). eqb (table_word w t a) v) holds.state-is e
      ∙ full_word T acc.good (state_said f) acc.bits t a q (ltb t 32) refl (ltb a 64) refl))
  line_partly full e (PairBit t a b c) = refl
  line_partly full e (EventEdge j u v) = refl
  line_partly full e (Mark j) = refl
  line_partly full e Malformed = refl

  -- A check passes only where the tables without a free variable are level.
  check_level : (text : List ℕ) → all_read text ≡ accepted f → passed ≡ checks terms state → partly_at f 1 (lines text) ≡ 0
  check_level text r c =
      level_read text f r (good_level T acc.good (state_said f) acc.bits
      (ap (good_state T) (sym holds.state-is) ∙ state_alike T (terms_of terms) held_alike state ∙ (passed_checked terms state c).good-state))

-- ---- the loop over the lines

-- The text t is left from line n on, and no line before it is such a line.
pub record Looking (text terms state masks t : List ℕ) (n : ℕ) : Type 0 where
  pub counted : n + length t ≤ suc (length text)
  pub same : (f : File) → all_read text ≡ accepted f → Holds f terms state masks → partly_at f n (lines t) ≡ partly_at f 1 (lines text)

pub looking_first : (text terms state masks : List ℕ) → Looking text terms state masks text 1
looking_first text terms state masks = record { counted = omega arith; same = λ f e h. refl }

module _ (text terms state masks t : List ℕ) (n : ℕ) (s : Looking text terms state masks t n) where
  pub looking_done : lines t ≡ done → Found text terms state masks 0
  unfolding partly_at
  looking_done h f e k = sym (ap (partly_at f n) h) ∙ s.same f e k

  pub looking_cut : lines t ≡ cut t → Found text terms state masks 0
  unfolding partly_at
  looking_cut h f e k = sym (ap (partly_at f n) h) ∙ s.same f e k

-- The line l of bytes b is taken from t, and rest is left; full has the bits of all members.
pub record Look (text terms state masks t b rest : List ℕ) (n full : ℕ) (l : Line) : Type 0 where
  pub looking : Looking text terms state masks t n
  pub fits : full < 2 ^ 64
  pub bits : (m : ℕ) → bit full m ≡ ltb m 64 && ltb m (terms_of terms).members
  pub taken : LineTaken t b rest
  pub line : l ≡ parsed (split 9 b)

module _ {text terms state masks t b rest : List ℕ} {n full : ℕ} {l : Line} (s : Look text terms state masks t b rest n full l) where
  line_looked : (f : File) → all_read text ≡ accepted f → Holds f terms state masks → (x : Bool) → partly_in terms state masks full l ≡ x →
      partly_at f n (lines t) ≡ cond x n (partly_at f (n + 1) (lines rest))
  unfolding partly_at
  line_looked f r h x q =
      let acc = read_good text f r in
      let p : partly_filled f (parsed (split 9 b)) ≡ x =
      ap (partly_filled f) (sym s.line)
      ∙ sym (line_partly f acc terms state masks h full (full_held f acc terms state masks h full s.fits s.bits) l) ∙ q in
      ap (partly_at f n) s.taken.first ∙ rw p refl

  pub looking_here : partly_in terms state masks full l ≡ true → Found text terms state masks n
  looking_here q f r h = sym (line_looked f r h true q) ∙ s.looking.same f r h

  pub looking_next : partly_in terms state masks full l ≡ false → Looking text terms state masks rest (n + 1)
  looking_next q = record {
    counted = omega (arith, s.taken.shorter, s.looking.counted);
    same = λ f r h. sym (line_looked f r h false q) ∙ s.looking.same f r h;
  }

-- A check that passes.
pub found_none : (text terms state masks : List ℕ) → passed ≡ checks terms state → Found text terms state masks 0
found_none text terms state masks c f e h = sym (check_level f (read_good text f e) terms state masks h text e c)
