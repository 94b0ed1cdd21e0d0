-- The words of the state while lines are read: bits as they come, and at the end the words
-- of the state that the file says.
use Prim.Native.Nat.{ℕ, ◌+◌, ◌-◌, ◌*◌, ◌/◌, ◌%◌, ◌^◌, ◌≤◌, ◌<◌}
use native.Mathlib.Omega.{arith}
use mathlib.Core.Path.{◌≡◌, refl, sym, ap, ap₂, ◌∙◌}
use mathlib.Core.Logic.{⊎_elim}
use mathlib.Core.List.{List, [], ◌∷◌}
use mathlib.Core.Bool.{Bool, true, false, cond, ◌&&◌, ◌||◌, false≢true}
use lib.Bits.{bit_or, or_lt}
use lib.Dec.{eqb, ltb}
use lib.ListN.{length, get_or, set, replicate}
use lib.Pow.{pow-lt}
use borrow.Author.Tests.{eq-eqb, ne_eqb, lt-ltb, le-ltb, ltb-true, ltb-false, eqb-true, eqb-false}
use Rattle.sets.specs.Sets.{bit, pack}
use Rattle.theory.specs.Columns.{inside}
use Rattle.theory.proofs.Good.{implies}
use Rattle.sets.proofs.Finite.{true_or_false, and_left, and_right, and_both, all_true, is_false, not_both}
use Rattle.sets.proofs.Bits.{bits_equal, bits_below, bit_set}
use Rattle.sets.proofs.Pack.{bit_pack, pack_cong, pack_lt, pack_none}
use Rattle.theory.specs.Terms.{tables}
use Rattle.theory.specs.Moment.{Relations}
use Rattle.theory.specs.Tables.{Tables}
use Rattle.memory.specs.Layout.{state_words, relation_at, table_at, event_at, event_word, row, table_columns, table_row, word_at, words_of, tabulate}
use Rattle.memory.specs.Checks.{fits, table_fits}
use Rattle.memory.proofs.Row.{length_tabulate, get_d_tabulate, row_fits, row_fits_table}
use Rattle.file.specs.File.{File, update, with_bit, state_said}
use Rattle.file.proofs.Fit.{Inside, InsideTables}
use Rattle.reader.specs.private.Storing.{with_bit_at}
use Rattle.reader.proofs.WordLists.{tabulate_cong, set_tabulate, tabulate_none}

-- Bit b of word a of block k; and relations and tables as one row of blocks.
abbrev pub Blocks : Type 0
Blocks = (k a b : ℕ) → Bool

abbrev pub together : Relations → Tables → Blocks
together R X k a b = cond (ltb k 16) (R k a b) (X (k - 16) a b)

-- The words of blocks, and the event word after them.
abbrev bits_word : Blocks → ℕ → ℕ → ℕ
bits_word B e i = cond (ltb i event_at) (pack 64 (B (i / 64) (i % 64))) e

unfoldable pub bits_memory : Blocks → ℕ → List ℕ
bits_memory B e = tabulate state_words (bits_word B e)

-- The words of what a file says of relations, tables and event edge.
abbrev pub bits_of : File → List ℕ
bits_of f = bits_memory (together f.edges f.table) (event_word f.last)

pub length_bits : (B : Blocks) (e : ℕ) → length (bits_memory B e) ≡ state_words
unfolding bits_memory
length_bits B e = length_tabulate state_words (bits_word B e)

-- ---- nothing

pub bits_none : bits_memory (together (λ k a b. false) (λ t a b. false)) 0 ≡ replicate state_words 0
unfolding bits_memory
bits_none = tabulate_cong state_words _ (λ i. 0) (λ i l. go (ltb i event_at) i) ∙ tabulate_none state_words
  where
    none : (c : Bool) → cond c false false ≡ false
    none true = refl
    none false = refl

    go : (c : Bool) (i : ℕ) → cond c (pack 64 (λ b. cond (ltb (i / 64) 16) false false)) 0 ≡ 0
    go true i = pack_cong 64 (λ b l. none (ltb (i / 64) 16)) ∙ pack_none 64
    go false i = refl

-- ---- one bit more

module _ (B : Blocks) (k a b : ℕ) (kl : k < 48) (al : a < 64) (bl : b < 64) (e : ℕ) where
  or_cond : (x y : Bool) → x || y ≡ cond y true x
  or_cond true true = refl
  or_cond true false = refl
  or_cond false true = refl
  or_cond false false = refl

  bit_word : bit_or (pack 64 (B k a)) (2 ^ b) ≡ pack 64 (with_bit B k a b k a)
  bit_word =
      bits_equal 64 (bit_or (pack 64 (B k a)) (2 ^ b)) (pack 64 (with_bit B k a b k a))
      (or_lt 64 (pack 64 (B k a)) (2 ^ b) (pack_lt 64 (B k a)) (pow-lt bl)) (pack_lt 64 (with_bit B k a b k a))
      (λ x l. bit_set (pack 64 (B k a)) b x
      ∙ rw (bit_pack 64 (B k a) x, bit_pack 64 (with_bit B k a b k a) x, lt-ltb x 64 l, eq-eqb k k refl, eq-eqb a a refl)
      (or_cond (B k a x) (eqb x b)))

  other_word : (i : ℕ) → (i ≡ 64 * k + a → ⊥) → pack 64 (B (i / 64) (i % 64)) ≡ pack 64 (with_bit B k a b (i / 64) (i % 64))
  other_word i at = pack_cong 64 (λ x l. go x (eqb (i / 64) k) refl (eqb (i % 64) a) refl)
    where
      go : (x : ℕ) (p : Bool) → eqb (i / 64) k ≡ p → (q : Bool) → eqb (i % 64) a ≡ q →
          B (i / 64) (i % 64) x ≡ cond (p && (q && eqb x b)) true (B (i / 64) (i % 64) x)
      go x true e true f = absurd (at (omega (arith, eqb-true (i / 64) k e, eqb-true (i % 64) a f)))
      go x true e false f = refl
      go x false e q f = refl

  bit_words : (i : ℕ) → update (bits_word B e) (64 * k + a) (bit_or (pack 64 (B k a)) (2 ^ b)) i ≡ bits_word (with_bit B k a b) e i
  bit_words i =
      ⊎_elim
      (λ p. let at : i ≡ 64 * k + a = eqb-true i (64 * k + a) p in
      let quo : i / 64 ≡ k = omega arith in
      let rem : i % 64 ≡ a = omega arith in
      rw (p, lt-ltb i event_at (omega arith), quo, rem) bit_word)
      (λ p. rw p (ap (λ (w : ℕ). cond (ltb i event_at) w e) (other_word i (eqb-false i (64 * k + a) p))))
      (true_or_false (eqb i (64 * k + a)))

  bit_stored : with_bit_at (bits_memory B e) (64 * k + a) b ≡ bits_memory (with_bit B k a b) e
  unfolding bits_memory
  bit_stored =
      ap (λ (w : ℕ). set (tabulate state_words (bits_word B e)) (64 * k + a) (bit_or w (2 ^ b))) word
      ∙ set_tabulate state_words (bits_word B e) (64 * k + a) (bit_or (pack 64 (B k a)) (2 ^ b))
      ∙ tabulate_cong state_words _ _ (λ i l. bit_words i)
    where
      quo : (64 * k + a) / 64 ≡ k
      quo = omega arith

      rem : (64 * k + a) % 64 ≡ a
      rem = omega arith

      word : get_or (tabulate state_words (bits_word B e)) (64 * k + a) 0 ≡ pack 64 (B k a)
      word = get_d_tabulate state_words (bits_word B e) (64 * k + a) (omega arith) ∙ rw (lt-ltb (64 * k + a) event_at (omega arith), quo, rem)

module _ (R : Relations) (X : Tables) (k a b : ℕ) where
  edge_together : k < 16 → with_bit (together R X) k a b ≡ together (with_bit R k a b) X
  edge_together kl = λ d l c x. go l c x (ltb l 16) refl d
    where
      go : (l c x : ℕ) (p : Bool) → ltb l 16 ≡ p →
          cond (eqb l k && (eqb c a && eqb x b)) true (cond p (R l c x) (X (l - 16) c x)) ≡ cond p (with_bit R k a b l c x) (X (l - 16) c x)
      go l c x true p = refl
      go l c x false p = rw (ne_eqb l k (λ e. omega (arith, ltb-false l 16 p)))

  bit_together : with_bit (together R X) (16 + k) a b ≡ together R (with_bit X k a b)
  bit_together = λ d l c x. go l c x (ltb l 16) refl d
    where
      same : (l : ℕ) → 16 ≤ l → eqb l (16 + k) ≡ eqb (l - 16) k
      same l h =
          ⊎_elim
          (λ p. p ∙ sym (eq-eqb (l - 16) k (omega (arith, eqb-true l (16 + k) p))))
          (λ p. p ∙ sym (ne_eqb (l - 16) k (λ z. eqb-false l (16 + k) p (omega arith))))
          (true_or_false (eqb l (16 + k)))

      go : (l c x : ℕ) (p : Bool) → ltb l 16 ≡ p →
          cond (eqb l (16 + k) && (eqb c a && eqb x b)) true (cond p (R l c x) (X (l - 16) c x)) ≡ cond p (R l c x) (with_bit X k a b (l - 16) c x)
      go l c x true p = rw (ne_eqb l (16 + k) (λ e. omega (arith, ltb-true l 16 p)))
      go l c x false p = rw (same l (ltb-false l 16 p))

  pub edge_stored : k < 16 → a < 64 → b < 64 → (e : ℕ) →
      with_bit_at (bits_memory (together R X) e) (relation_at k a) b ≡ bits_memory (together (with_bit R k a b) X) e
  edge_stored kl al bl e = bit_stored (together R X) k a b (omega arith) al bl e ∙ ap (λ (B : Blocks). bits_memory B e) (edge_together kl)

  pub table_stored : k < 32 → a < 64 → b < 64 → (e : ℕ) →
      with_bit_at (bits_memory (together R X) e) (table_at k a) b ≡ bits_memory (together R (with_bit X k a b)) e
  table_stored kl al bl e =
      let at : table_at k a ≡ 64 * (16 + k) + a = omega arith in
      ap (λ (i : ℕ). with_bit_at (bits_memory (together R X) e) i b) at
      ∙ bit_stored (together R X) (16 + k) a b (omega arith) al bl e ∙ ap (λ (B : Blocks). bits_memory B e) bit_together

pub event_stored : (B : Blocks) (e v : ℕ) → set (bits_memory B e) event_at v ≡ bits_memory B v
unfolding bits_memory
event_stored B e v =
    set_tabulate state_words (bits_word B e) event_at v
    ∙ tabulate_cong state_words _ _ (λ i l. ⊎_elim (last i) (before i l) (true_or_false (eqb i event_at)))
  where
    last : (i : ℕ) → eqb i event_at ≡ true → update (bits_word B e) event_at v i ≡ bits_word B v i
    last i p = rw (p, le-ltb i event_at (omega (arith, eqb-true i event_at p)))

    before : (i : ℕ) → i < state_words → eqb i event_at ≡ false → update (bits_word B e) event_at v i ≡ bits_word B v i
    before i l p = let z : i ≡ event_at → ⊥ = eqb-false i event_at p in rw (p, lt-ltb i event_at (omega arith))

-- ---- the words of a state

-- A word of blocks that lie inside.
module _ (kinds N : ℕ) (R : Blocks) (few : N < 65) (inside : Inside kinds N R) (k a : ℕ) where
  word_fits : fits N (ltb k kinds) a (pack 64 (R k a)) ≡ true
  word_fits = go (ltb k kinds && ltb a N) refl
    where
      go : (c : Bool) → (ltb k kinds && ltb a N) ≡ c → cond c (ltb (pack 64 (R k a)) (2 ^ N)) (eqb (pack 64 (R k a)) 0) ≡ true
      go true e =
          lt-ltb (pack 64 (R k a)) (2 ^ N) (bits_below N (pack 64 (R k a)) 64 (pack_lt 64 (R k a))
          (λ b t. (inside.within k a b (and_right (ltb b 64) _ (sym (bit_pack 64 (R k a) b) ∙ t))).2))
      go false e =
          eq-eqb (pack 64 (R k a)) 0 (pack_cong 64 (λ b _. is_false (R k a b) (λ t.
          let i = inside.within k a b t in
          not_both _ (ap₂ ◌&&◌ (lt-ltb k kinds i.0) (lt-ltb a N i.1)) e)) ∙ pack_none 64)

  inside_word : pack 64 (R k a) ≡ cond (ltb k kinds) (row N (R k) a) 0
  inside_word =
      row_fits N (ltb k kinds) (R k) a (pack 64 (R k a))
      (λ b l. sym (bit_pack 64 (R k a) b ∙ rw (lt-ltb b 64 (omega arith)))) word_fits

-- A word of a table with these columns, where c says whether it is there.
module _ (N : ℕ) (few : N < 65) (p : ℕ → ℕ → Bool) (i : ℕ) where
  one : (c : Bool) → ((k : ℕ) → p i k ≡ true → (c ≡ true) × (i < N) × (k < N)) → fits N c i (pack 64 (p i)) ≡ true
  one c h = go (c && ltb i N) refl
    where
      go : (d : Bool) → (c && ltb i N) ≡ d → cond d (ltb (pack 64 (p i)) (2 ^ N)) (eqb (pack 64 (p i)) 0) ≡ true
      go true e =
          lt-ltb (pack 64 (p i)) (2 ^ N) (bits_below N (pack 64 (p i)) 64 (pack_lt 64 (p i))
          (λ b t. (h b (and_right (ltb b 64) _ (sym (bit_pack 64 (p i) b) ∙ t))).2))
      go false e =
          eq-eqb (pack 64 (p i)) 0 (pack_cong 64 (λ b _. is_false (p i b) (λ t. let q = h b t in not_both _ (ap₂ ◌&&◌ q.0 (lt-ltb i N q.1)) e)) ∙ pack_none 64)

  packed_fits : (cs : List ℕ) (c : Bool) → ((k : ℕ) → p i k ≡ true → (c ≡ true) × (inside N cs i k ≡ true)) → table_fits N cs c i (pack 64 (p i)) ≡ true
  packed_fits [] c h = one c (λ k e. let q = h k e in (q.0, ltb-true i N (and_left (ltb i N) _ q.1), ltb-true k N (and_right (ltb i N) _ q.1)))
  packed_fits (x ∷ []) c h = one c (λ k e. let q = h k e in (q.0, ltb-true i N (and_left (ltb i N) _ q.1), ltb-true k N (and_right (ltb i N) _ q.1)))
  packed_fits (x ∷ y ∷ zs) true h =
      and_both _ _ (lt-ltb (pack 64 (p i)) (2 ^ 64) (pack_lt 64 (p i)))
      (all_true 64 (λ k _. implies (bit (pack 64 (p i)) k) (λ e. (h k (and_right (ltb k 64) _ (sym (bit_pack 64 (p i) k) ∙ e))).1)))
  packed_fits (x ∷ y ∷ zs) false h =
      eq-eqb (pack 64 (p i)) 0 (pack_cong 64 (λ k _. is_false (p i k) (λ e. false≢true (h k e).0)) ∙ pack_none 64)

  packed_row : (cs : List ℕ) (c : Bool) → ((k : ℕ) → p i k ≡ true → (c ≡ true) × (inside N cs i k ≡ true)) → pack 64 (p i) ≡ cond c (table_row N cs p i) 0
  packed_row cs c h =
      row_fits_table N few cs c p i (pack 64 (p i)) (λ k l. sym (bit_pack 64 (p i) k ∙ rw (lt-ltb k 64 l))) (packed_fits cs c h)

-- What the lines have put there is what the file says.
module _ (f : File) (few : f.terms.members < 65) (edges : Inside f.terms.relations f.terms.members f.edges)
    (bits : InsideTables f.terms f.table)
  where
    pub bits_words : bits_of f ≡ words_of f.terms (state_said f)
    unfolding bits_memory words_of word_at
    bits_words = tabulate_cong state_words _ _ (λ i l. go i (ltb i 1024) refl (ltb i event_at) refl)
      where
        go : (i : ℕ) (c : Bool) → ltb i 1024 ≡ c → (d : Bool) → ltb i event_at ≡ d →
            cond d (pack 64 (together f.edges f.table (i / 64) (i % 64))) (event_word f.last)
            ≡ cond c (cond (ltb (i / 64) f.terms.relations) (row f.terms.members (f.edges (i / 64)) (i % 64)) 0)
            (cond d (cond (ltb ((i - 1024) / 64) (tables f.terms)) (table_row f.terms.members (table_columns f.terms ((i - 1024) / 64)) (f.table ((i - 1024) / 64)) (i % 64)) 0) (event_word f.last))
        go i true p true q =
            let l = ltb-true i 1024 p in
            let some : ltb (i / 64) 16 ≡ true = lt-ltb (i / 64) 16 (omega arith) in
            ap (pack 64) (λ d b. cond (some d) (f.edges (i / 64) (i % 64) b) (f.table (i / 64 - 16) (i % 64) b))
            ∙ (inside_word f.terms.relations f.terms.members f.edges few edges (i / 64) (i % 64))
        go i true p false q = absurd (omega (arith, ltb-true i 1024 p, ltb-false i event_at q))
        go i false p true q =
            let l = ltb-false i 1024 p in
            let t : i / 64 - 16 ≡ (i - 1024) / 64 = omega arith in
            let none : ltb (i / 64) 16 ≡ false = le-ltb (i / 64) 16 (omega arith) in
            ap (pack 64) (λ d b. cond (none d) (f.edges (i / 64) (i % 64) b) (f.table (t d) (i % 64) b))
            ∙ packed_row f.terms.members few (f.table ((i - 1024) / 64)) (i % 64) (table_columns f.terms ((i - 1024) / 64)) (ltb ((i - 1024) / 64) (tables f.terms))
            (λ k e. let w = bits.within ((i - 1024) / 64) (i % 64) k e in (lt-ltb ((i - 1024) / 64) (tables f.terms) w.0, w.1))
        go i false p false q = refl
