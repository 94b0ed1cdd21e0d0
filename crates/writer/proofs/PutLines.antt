-- Laws of lines put one after the other: a list of them, the bits of a word, the effects of an event.
use Prim.Native.Nat.{ℕ, zero, suc, ◌+◌, ◌-◌, ◌*◌, ◌/◌, ◌%◌, ◌<◌, ◌≤◌}
use mathlib.Core.Path.{◌≡◌, refl, sym, ap, ap₂, subst, ◌∙◌}
use mathlib.Core.Bool.{Bool, true, false, cond}
use mathlib.Core.List.{List, [], ◌∷◌, ◌++◌, append_assoc, append-nil}
use native.Mathlib.Omega.{arith}
use native.Mathlib.Nat.{add-zero, add-suc, mul-suc}
use native.Mathlib.Numerals.{add-one}
use lib.ListN.{length, get_or, length-append}
use borrow.Author.Tests.{lt-ltb, ne_eqb}
use Rattle.sets.specs.Sets.{bit}
use Rattle.sets.proofs.Bits.{bit_zero}
use Rattle.memory.specs.Layout.{effect_at, effects_from, event_of, state_of}
use Rattle.file.specs.Line.{printed}
use Rattle.fields.specs.Split.{join}
use Rattle.fields.specs.private.Put.{Put}
use Rattle.theory.specs.Terms.{Terms}
use Rattle.file.specs.Writing.{listed, mark_line, effect_lines, bit_at, event_edge_line, printed_all}
use Rattle.writer.specs.private.Kinds.{Paired, edge_lines, table_lines, triple_of, says, bit_of, row_of, rows_of}
use Rattle.file.specs.declared.line.Line.{Line}
use Rattle.file.specs.declared.line.Line.TheVariants.{TableBit, PairBit, EventEdge, Mark}
use Rattle.fields.proofs.Output.{put_none, put_then, put_out}
use Rattle.file.proofs.PartsSoFar.{event_line}

-- ---- lists of lines

printed_append : (ks ls : List Line) → printed_all ks ++ printed_all ls ≡ printed_all (ks ++ ls)
unfolding printed_all
printed_append [] ls = refl
printed_append (k ∷ ks) ls =
    append_assoc (printed k) (10 ∷ printed_all ks) (printed_all ls) ∙ ap (λ (l : List ℕ). printed k ++ (10 ∷ l)) (printed_append ks ls)

pub put_lines : {o p q : List ℕ} {i j k : ℕ} (ks ls : List Line)
    → Put o p i j (printed_all ks) → Put p q j k (printed_all ls) → Put o q i k (printed_all (ks ++ ls))
put_lines ks ls x y = subst (Put _ _ _ _) (printed_append ks ls) (put_then x y)

pub put_line : {o p : List ℕ} {i j : ℕ} (l : Line) → Put o p i j (printed l ++ (10 ∷ [])) → Put o p i j (printed_all (l ∷ []))
unfolding printed_all
put_line l x = x

listed_suc : (n : ℕ) (f : ℕ → List Line) → listed (suc n) f ≡ listed n f ++ f n
unfolding listed
listed_suc n f = refl

listed_cong : (n : ℕ) {f g : ℕ → List Line} → ((k : ℕ) → k < n → f k ≡ g k) → listed n f ≡ listed n g
unfolding listed
listed_cong zero h = refl
listed_cong (suc n) h = ap₂ ◌++◌ (listed_cong n (λ k l. h k (omega arith))) (h n (omega arith))

listed_empty : (n : ℕ) → listed n (λ k. []) ≡ []
unfolding listed
listed_empty zero = refl
listed_empty (suc n) = rw (listed_empty n) refl

listed_span : (a n : ℕ) (f : ℕ → List Line) → listed a f ++ listed n (λ k. f (a + k)) ≡ listed (a + n) f
unfolding listed
listed_span a zero f = rw (add-zero a) (append-nil (listed a f))
listed_span a (suc n) f =
    sym (append_assoc (listed a f) (listed n (λ k. f (a + k))) (f (a + n)))
    ∙ rw (add-suc a n) (ap (λ (l : List Line). l ++ f (a + n)) (listed_span a n f))

-- ---- a loop that puts f 0, f 1, .. f (n − 1), each of at most k bytes: the first i have been put

pub record Running (o p : List ℕ) (at m k n i : ℕ) (f : ℕ → List Line) : Type 0 where
  pub within : i ≤ n
  pub few : m ≤ at + k * i
  pub put : Put o p at m (printed_all (listed i f))

pub running_start : (o : List ℕ) (at k n : ℕ) (f : ℕ → List Line) → Running o o at at k n 0 f
unfolding listed printed_all
running_start o at k n f = record { within = omega arith; few = omega arith; put = put_none o at }

pub running_more : {o p q : List ℕ} {at m r k n i : ℕ} {f : ℕ → List Line}
    → i < n → Running o p at m k n i f → Put p q m r (printed_all (f i)) → r ≤ m + k → Running o q at r k n (i + 1) f
unfolding listed
running_more {at = at} {m = m} {r = r} {k = k} {n = n} {i = i} {f = f} l g x h = record {
  within = omega arith;
  few = let e : k * (i + 1) ≡ k * i + k = ap (λ (j : ℕ). k * j) (add-one i) ∙ mul-suc k i in let b = g.few in omega arith;
  put = rw (add-one i) (put_lines (listed i f) (f i) g.put x);
}

pub running_end : {o p : List ℕ} {at m k n i : ℕ} {f : ℕ → List Line}
    → n ≤ i → Running o p at m k n i f → Put o p at m (printed_all (listed n f))
running_end {n = n} {i = i} l g = let e : i ≡ n = (let w = g.within in omega arith) in rw e at g.put

-- ---- the lines of a word: those of number 64 i to 64 i + 63

bit-at : (t : Bool) (s w i b : ℕ) → b < 64 → bit_of t s w i b ≡ cond (bit w b) (says t s (i / 64) (i % 64) b ∷ []) []
bit-at t s w i b h =
    let p : (64 * i + b) / 4096 ≡ i / 64 = omega arith in
    let q : (64 * i + b) / 64 % 64 ≡ i % 64 = omega arith in
    let r : (64 * i + b) % 64 ≡ b = omega arith in
    rw (p, q, r)

module _ (t : Bool) (s w i b : ℕ) (h : b < 64) where
  pub put_bit_there : {o p : List ℕ} {at m : ℕ} (c : Bool) → c ≡ bit w b → c ≡ true
      → Put o p at m (printed (says t s (i / 64) (i % 64) b) ++ (10 ∷ [])) → Put o p at m (printed_all (bit_of t s w i b))
  put_bit_there c e y x = rw (bit-at t s w i b h, ← e, y) (put_line (says t s (i / 64) (i % 64) b) x)

  pub put_bit_none : (o : List ℕ) (at : ℕ) (c : Bool) → c ≡ bit w b → c ≡ false → Put o o at at (printed_all (bit_of t s w i b))
  unfolding printed_all
  put_bit_none o at c e y = rw (bit-at t s w i b h, ← e, y) (put_none o at)

-- A table's bit is said by its columns.
module _ (s t i k : ℕ) {o p : List ℕ} {at m : ℕ} where
  pub put_one_said : (c : Bool) → c ≡ bit s t → c ≡ false → Put o p at m (printed (TableBit t i k) ++ (10 ∷ [])) → Put o p at m (printed (says true s t i k) ++ (10 ∷ []))
  put_one_said c e y x = rw (← e, y) x

  pub put_two_said : (c : Bool) → c ≡ bit s t → c ≡ true
      → Put o p at m (printed (PairBit t (i / 4) (4 * (i % 4) + k / 16) (k % 16)) ++ (10 ∷ [])) → Put o p at m (printed (says true s t i k) ++ (10 ∷ []))
  put_two_said c e y x = rw (← e, y) x

-- A word without bits.
pub put_row_none : (o : List ℕ) (at : ℕ) (t : Bool) (s w i : ℕ) → w ≡ 0 → Put o o at at (printed_all (row_of t s w i))
unfolding printed_all
put_row_none o at t s w i e =
    let none : row_of t s w i ≡ [] = listed_cong 64 (λ b h. bit-at t s w i b h ∙ rw (e, bit_zero b) refl) ∙ listed_empty 64 in
    rw none (put_none o at)

-- ---- lines past the end of an output

-- What is put into no output is put past the end of any.
pub put_skipped : {at m : ℕ} {bs : List ℕ} (o : List ℕ) → length o ≤ at → Put [] [] at m bs → Put o o at m bs
put_skipped o h x = put_out o _ _ _ h x.next

-- The fields of a line have a tab or the line feed after each.
module _ (at r : ℕ) (k d e f : List ℕ) where
  pub skip_three : r ≡ at + 4 + length k + length d + length e + length f
      → Put [] [] at r (join 9 (k ∷ d ∷ e ∷ f ∷ []) ++ (10 ∷ []))
  unfolding join
  skip_three h = put_out [] at r _ (omega arith) (simp length-append (omega arith))

  pub skip_four : (g : List ℕ) → r ≡ at + 5 + length k + length d + length e + length f + length g
      → Put [] [] at r (join 9 (k ∷ d ∷ e ∷ f ∷ g ∷ []) ++ (10 ∷ []))
  unfolding join
  skip_four g h = put_out [] at r _ (omega arith) (simp length-append (omega arith))

-- ---- the lines of n words from one on are those of the relations or tables that they hold

module _ (t : Bool) (s : ℕ) (R : (k a b : ℕ) → Bool) (w : List ℕ) (first : ℕ) where
  abbrev Holds : ℕ → Type 0
  Holds n = (i b : ℕ) → i < n → R (i / 64) (i % 64) b ≡ bit (get_or w (first + i) 0) b

  bit_held : (n : ℕ) → Holds n → (i b : ℕ) → i < n → b < 64 → bit_of t s (get_or w (first + i) 0) i b ≡ bit_at (says t s) R (64 * i + b)
  bit_held n h i b l g =
      let p : (64 * i + b) / 4096 ≡ i / 64 = omega arith in
      let q : (64 * i + b) / 64 % 64 ≡ i % 64 = omega arith in
      let r : (64 * i + b) % 64 ≡ b = omega arith in
      rw (p, q, r, h i b l) refl

  rows_held : (n : ℕ) → Holds n → rows_of t s w first n ≡ listed (64 * n) (bit_at (says t s) R)
  rows_held zero h = unfold listed in refl
  rows_held (suc n) h =
      let f : ℕ → List Line = bit_at (says t s) R in
      let e : 64 * suc n ≡ 64 * n + 64 = omega arith in
      listed_suc n (λ i. row_of t s (get_or w (first + i) 0) i)
      ∙ ap₂ ◌++◌ (rows_held n (λ i b l. h i b (omega arith))) (listed_cong 64 (λ b g. bit_held (suc n) h n b (omega arith) g))
      ∙ listed_span (64 * n) 64 f ∙ ap (λ (m : ℕ). listed m f) (sym e)

edges_held : (w : List ℕ) → Holds false 0 (state_of w).now.edge w 0 1024
unfolding state_of
edges_held w i b l =
    let e : 64 * (i / 64) + i % 64 ≡ 0 + i = omega arith in
    rw (lt-ltb (i / 64) 16 (omega arith), lt-ltb (i % 64) 64 (omega arith), e) refl

tables_held : (w : List ℕ) (s : ℕ) → Holds true s (state_of w).table w 1024 2048
unfolding state_of
tables_held w s i b l =
    let e : 1024 + 64 * (i / 64) + i % 64 ≡ 1024 + i = omega arith in
    rw (lt-ltb (i / 64) 32 (omega arith), lt-ltb (i % 64) 64 (omega arith), e) refl

module _ {o p : List ℕ} {at m : ℕ} (w : List ℕ) where
  pub put_all_edges : Put o p at m (printed_all (rows_of false 0 w 0 1024)) → Put o p at m (printed_all (edge_lines (state_of w).now.edge))
  put_all_edges x = subst (Put _ _ _ _) (ap printed_all (rows_held false 0 (state_of w).now.edge w 0 1024 (edges_held w))) x

  pub put_all_tables : (s : ℕ) → Put o p at m (printed_all (rows_of true s w 1024 2048)) → (T : Terms) → Paired T s → Put o p at m (printed_all (table_lines T (state_of w).table))
  put_all_tables s x T e =
      subst (Put _ _ _ _) (ap printed_all (rows_held true s (state_of w).table w 1024 2048 (tables_held w s) ∙ listed_cong 131072 (λ q l. rw (e (q / 4096)) refl))) x

-- ---- the line of an event word

pub put_event_none : (o : List ℕ) (at w : ℕ) → w ≡ 0 → Put o o at at (printed_all (event_edge_line (event_of w)))
unfolding printed_all
put_event_none o at w e = rw e (put_none o at)

pub put_event_there : {o p : List ℕ} {at m : ℕ} (w : ℕ) → (w ≡ 0 → ⊥)
    → Put o p at m (printed (EventEdge ((w - 1) / 4096) ((w - 1) / 64 % 64) ((w - 1) % 64)) ++ (10 ∷ []))
    → Put o p at m (printed_all (event_edge_line (event_of w)))
put_event_there zero h x = absurd (h refl)
put_event_there {o} {p} {at} {m} (suc n) h x =
    let e : suc n - 1 ≡ n = omega arith in
    subst (λ (ls : List Line). Put o p at m (printed_all ls)) (sym (event_line (n / 4096) (n / 64 % 64) (n % 64))) (put_line _ (rw e at x))

-- ---- the line of a kept event

module _ (T : Terms) (j : ℕ) (c : Bool) (e : c ≡ T.kept j) where
  pub put_mark_there : {o p : List ℕ} {at m : ℕ} → c ≡ true → Put o p at m (printed (Mark j) ++ (10 ∷ [])) → Put o p at m (printed_all (mark_line T j))
  put_mark_there y x = rw (← e, y) (put_line (Mark j) x)

  pub put_mark_none : (o : List ℕ) (at : ℕ) → c ≡ false → Put o o at at (printed_all (mark_line T j))
  unfolding printed_all
  put_mark_none o at y = rw (← e, y) (put_none o at)

-- ---- what is put so far and what is left make the whole

pub record LinesPut (o p : List ℕ) (at m : ℕ) (whole rest : List ℕ) : Type 0 where
  pub done : List ℕ
  pub put : Put o p at m done
  pub joins : done ++ rest ≡ whole

pub going_start : (o : List ℕ) (at : ℕ) (whole : List ℕ) → LinesPut o o at at whole whole
going_start o at whole = record { done = []; put = put_none o at; joins = refl }

pub going_more : {o p q : List ℕ} {at j k : ℕ} {whole rest bs more : List ℕ}
    → rest ≡ bs ++ more → LinesPut o p at j whole rest → Put p q j k bs → LinesPut o q at k whole more
going_more {bs = bs} {more = more} e g x = record {
  done = g.done ++ bs;
  put = put_then g.put x;
  joins = append_assoc g.done bs more ∙ ap (λ (l : List ℕ). g.done ++ l) (sym e) ∙ g.joins;
}

pub going_end : {o p : List ℕ} {at m : ℕ} {whole rest : List ℕ} → rest ≡ [] → LinesPut o p at m whole rest → Put o p at m whole
going_end e g = subst (Put _ _ _ _) (sym (append-nil g.done) ∙ ap (λ (l : List ℕ). g.done ++ l) (sym e) ∙ g.joins) g.put

-- ---- the effects of an event: n places of three words

-- The bytes of the effects of event j that begin at a word, in n places.
abbrev pub slots : List ℕ → (j from n : ℕ) → List ℕ
slots w j from n = printed_all (effect_lines j (effects_from w from n))

pub slots_none : (w : List ℕ) (j from n : ℕ) → n ≡ 0 → slots w j from n ≡ []
unfolding effects_from effect_lines printed_all
slots_none w j from n e = rw e refl

pub slots_stop : (w : List ℕ) (j from n : ℕ) → get_or w from 0 ≡ 0 → slots w j from n ≡ []
unfolding effects_from effect_lines printed_all
slots_stop w j from zero e = refl
slots_stop w j from (suc n) e = rw e refl

slots_first : (w : List ℕ) (j from n : ℕ) → (get_or w from 0 ≡ 0 → ⊥)
    → slots w j from (suc n) ≡ printed_all (triple_of w j from) ++ slots w j (from + 3) n
unfolding effects_from effect_lines printed_all
slots_first w j from n h =
    rw (ne_eqb (get_or w from 0) 0 h) (sym (printed_append (triple_of w j from) (effect_lines j (effects_from w (from + 3) n))))

pub slots_more : (w : List ℕ) (j i : ℕ) → i < 4 → (get_or w (effect_at j i) 0 ≡ 0 → ⊥)
    → slots w j (effect_at j i) (4 - i) ≡ printed_all (triple_of w j (effect_at j i)) ++ slots w j (effect_at j (i + 1)) (4 - (i + 1))
slots_more w j i l h =
    let n : 4 - i ≡ suc (4 - (i + 1)) = omega arith in
    let e : effect_at j (i + 1) ≡ effect_at j i + 3 = omega arith in
    rw (n, e) (slots_first w j (effect_at j i) (4 - (i + 1)) h)
