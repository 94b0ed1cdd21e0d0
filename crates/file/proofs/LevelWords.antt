-- The words of the tables without a free variable: no T line is refused with 11 exactly where each of them is level.
use Prim.Native.Nat.{ℕ, ◌+◌, ◌≤◌, ◌<◌}
use mathlib.Core.Path.{◌≡◌, refl, sym, ap, subst, ◌∙◌}
use mathlib.Core.Logic.{◌⊎◌, inl, inr, ⊎_elim}
use mathlib.Core.List.{List, [], ◌∷◌}
use mathlib.Core.Bool.{Bool, true, false, not, ◌&&◌, false≢true}
use native.Mathlib.Omega.{arith}
use lib.Dec.{ltb}
use borrow.Author.Tests.{eqb-true, leb-true, not-true}
use Rattle.sets.specs.Sets.{all_below}
use Rattle.sets.proofs.Finite.{true_or_false, and_right, and_both, all_true, all_out}
use Rattle.theory.specs.Formula.{Formula, number, is_past, free}
use Rattle.theory.specs.Columns.{pair_word, pair_bit}
use Rattle.theory.specs.Terms.{Terms, formula, tables, past_entry}
use Rattle.theory.specs.Tables.{Tables}
use Rattle.theory.specs.Fit.{closed}
use Rattle.theory.proofs.Past.{past_is}
use Rattle.theory.proofs.Places.{closed_columns}
use Rattle.fields.specs.Split.{Lines, split}
use Rattle.fields.specs.Split.Lines.{done, cut, line}
use Rattle.file.specs.Line.{parsed}
use Rattle.file.specs.File.{File, nothing, has_two, pair_table, after_line}
use Rattle.file.specs.Reading.{tests, complete, partly, partly_filled, partly_at, levelled, reading}
use Rattle.file.specs.Reading.Reading.{accepted}
use Rattle.file.specs.Said.{said_lines}
use Rattle.file.specs.Writing.{printed_all}
use Rattle.file.specs.declared.line.Line.{Line}
use Rattle.file.specs.declared.line.Line.TheVariants.{Members, Labels, Entry, Policy, Effect, Edge, Form, TableBit, PairBit, EventEdge, Mark, Malformed}
use Rattle.file.proofs.Plain.{lines_of, lines_printed}
use Rattle.file.specs.Refused.{Passed}
use Rattle.file.proofs.Printed.{Ranged, split_ranged, parsed_printed}
use Rattle.file.proofs.Printed.Ranged.{members, labels, entry, policy, effect, edge, form, bit, pair, event, mark}
use Rattle.file.proofs.Phases.{entry_phase, policy_phase}
use Rattle.file.proofs.Fit.{bit_cases, bit_there, bit_stays}
use Rattle.file.proofs.Derivation.{passed_at, Taken, read-on}
use Rattle.file.proofs.Derivation.Taken.{one}

-- In a table without a free variable, a word with one of the members' bits has them all.
pub record Level (T : Terms) (X : Tables) : Type 0 where
  pub level : (t a b c : ℕ) → closed (formula T (past_entry T t)) ≡ true → X t a b ≡ true → c < T.members → X t a c ≡ true

pub level_empty : (T : Terms) (X : Tables) → ((t a b : ℕ) → X t a b ≡ false) → Level T X
level_empty T X h = record { level = λ t a b c p e l. absurd (false≢true (sym (h t a b) ∙ e)) }

-- The table of a past-time entry.
module _ (T : Terms) (n : ℕ) (l : n < T.entries) (p : is_past (T.entry n).op ≡ true) where
  pub level-entry : {X : Tables} → Level T X → closed (formula T n) ≡ true → (a b c : ℕ) → X (number T.entry n) a b ≡ true → c < T.members
      → X (number T.entry n) a c ≡ true
  level-entry v q a b c e h =
      v.level (number T.entry n) a b c (subst (λ (k : ℕ). closed (formula T k) ≡ true) (sym (past_is T n l p)) q) e h

-- ---- a word that is partly filled

implied_by : (x y : Bool) → x && not y ≡ false → x ≡ true → y ≡ true
implied_by x true h p = refl
implied_by x false h p = absurd (false≢true (sym h ∙ and_both x true p refl))

by_implying : (x y : Bool) → (x ≡ true → y ≡ true) → x && not y ≡ false
by_implying true y h = rw (h refl) refl
by_implying false y h = refl

module _ (f : File) (t a : ℕ) where
  whole_word : partly f t a ≡ false → closed (formula f.terms (past_entry f.terms t)) ≡ true
      → (c : ℕ) → c < f.terms.members → f.table t a c ≡ true
  unfolding partly
  whole_word p q = all_out f.terms.members (f.table t a) (implied_by (closed (formula f.terms (past_entry f.terms t))) _ p q)

  not_partly : (closed (formula f.terms (past_entry f.terms t)) ≡ true → (c : ℕ) → c < f.terms.members → f.table t a c ≡ true)
      → partly f t a ≡ false
  unfolding partly
  not_partly h = by_implying (closed (formula f.terms (past_entry f.terms t))) _ (λ q. all_true f.terms.members (h q))

-- ---- one line

-- A bit was there, or it is of a word that is not partly filled
-- a table with two columns has free variables.
pair_open : (x : File) (t a : ℕ) → pair_table x.terms t ≡ true → partly x t a ≡ false
unfolding partly closed
pair_open x t a e = by_implying (closed φ) (all_below x.terms.members (x.table t a)) (λ q. absurd (false≢true (sym (ap has_two (closed_columns φ (λ v l. not-true (free φ v) (all_out 16 (λ v. not (free φ v)) q v l)))) ∙ and_right (ltb t (tables x.terms)) _ e)))
  where
    φ : Formula
    φ = formula x.terms (past_entry x.terms t)

-- The table of a T line with a field more has two columns.
abbrev PairThere : File → Line → Type 0
PairThere x l = (t a b c : ℕ) → l ≡ PairBit t a b c → pair_table x.terms t ≡ true

line_bits : (x f : File) (l : Line) → partly_filled x l ≡ false → PairThere x l → (t a b : ℕ) → (after_line f l).table t a b ≡ true
    → (f.table t a b ≡ true) ⊎ (partly x t a ≡ false)
unfolding after_line
line_bits x f (Members n) p w t a b e = inl e
line_bits x f (Labels r m) p w t a b e = inl e
line_bits x f (Entry n o c d i) p w t a b e = inl e
line_bits x f (Policy j n) p w t a b e = inl e
line_bits x f (Effect j c k d) p w t a b e = inl e
line_bits x f (Edge k c d) p w t a b e = inl e
line_bits x f (Form n) p w t a b e = inl e
line_bits x f (TableBit s c d) p w t a b e = ⊎_elim (λ q. inr (rw (q.0, q.1) p)) (λ q. inl q) (bit_cases f.table s c d t a b e)
line_bits x f (PairBit s c d i) p w t a b e =
    ⊎_elim (λ q. inr (rw q.0 (pair_open x s a (w s c d i refl)))) (λ q. inl q) (bit_cases f.table s (pair_word c d) (pair_bit d i) t a b e)
line_bits x f (EventEdge j u v) p w t a b e = inl e
line_bits x f (Mark j) p w t a b e = inl e
line_bits x f Malformed p w t a b e = inl e

-- A bit stays.
line_stays : (f : File) (l : Line) (t a b : ℕ) → f.table t a b ≡ true → (after_line f l).table t a b ≡ true
unfolding after_line
line_stays f (Members n) t a b e = e
line_stays f (Labels r m) t a b e = e
line_stays f (Entry n o c d i) t a b e = e
line_stays f (Policy j n) t a b e = e
line_stays f (Effect j c k d) t a b e = e
line_stays f (Edge k c d) t a b e = e
line_stays f (Form n) t a b e = e
line_stays f (TableBit s c d) t a b e = bit_stays f.table s c d t a b e
line_stays f (PairBit s c d i) t a b e = bit_stays f.table s (pair_word c d) (pair_bit d i) t a b e
line_stays f (EventEdge j u v) t a b e = e
line_stays f (Mark j) t a b e = e
line_stays f Malformed t a b e = e

-- A T line of a level table.
line_level : (g f : File) (l : Line) → Level g.terms g.table → ((t a b : ℕ) → (after_line f l).table t a b ≡ true → g.table t a b ≡ true)
    → partly_filled g l ≡ false
unfolding after_line
line_level g f (Members n) v h = refl
line_level g f (Labels r m) v h = refl
line_level g f (Entry n o c d i) v h = refl
line_level g f (Policy j n) v h = refl
line_level g f (Effect j c k d) v h = refl
line_level g f (Edge k c d) v h = refl
line_level g f (Form n) v h = refl
line_level g f (TableBit t a b) v h = not_partly g t a (λ q c l. v.level t a b c q (h t a b (bit_there f.table t a b)) l)
line_level g f (PairBit t a b c) v h = refl
line_level g f (EventEdge j u v) w h = refl
line_level g f (Mark j) v h = refl
line_level g f Malformed v h = refl

-- ---- all lines

-- No line is a T line of a partly filled word.
data NonePartly (x : File) : List Line → Type 0 where
  none : NonePartly x []
  and : {l : Line} {ls : List Line} → partly_filled x l ≡ false → NonePartly x ls → NonePartly x (l ∷ ls)

none_partly : (x : File) (n : ℕ) (ls : Lines) → 0 < n → partly_at x n ls ≡ 0 → NonePartly x (said_lines ls)
unfolding partly_at said_lines
none_partly x n done h e = none
none_partly x n (cut l) h e = none
none_partly x n (line l r) h e =
    let ih = none_partly x (n + 1) r in
    ⊎_elim
    (λ p. let z = rw p at e in absurd (omega arith))
    (λ p. let z : partly_at x (n + 1) r ≡ 0 = rw p at e in and p (ih (omega arith) z))
    (true_or_false (partly_filled x (parsed (split 9 l))))

none_first : {x : File} {l : Line} {ls : List Line} → NonePartly x (l ∷ ls) → (partly_filled x l ≡ false) × NonePartly x ls
none_first (and p q) = (p, q)

partly_none : (x : File) (n : ℕ) (ls : Lines) → NonePartly x (said_lines ls) → partly_at x n ls ≡ 0
unfolding partly_at said_lines
partly_none x n done h = refl
partly_none x n (cut l) h = refl
partly_none x n (line l r) h = let t = none_first h in rw t.0 (partly_none x (n + 1) r t.1)

-- Which table a line with a field more is of, and that it is such a line.
abbrev table_of_pair : Line → ℕ
table_of_pair (Members n) = 0
table_of_pair (Labels r m) = 0
table_of_pair (Entry n o c d i) = 0
table_of_pair (Policy j n) = 0
table_of_pair (Effect j c k d) = 0
table_of_pair (Edge k c d) = 0
table_of_pair (Form n) = 0
table_of_pair (TableBit t a b) = 0
table_of_pair (PairBit t a b c) = t
table_of_pair (EventEdge j u v) = 0
table_of_pair (Mark j) = 0
table_of_pair Malformed = 0

abbrev is_pair_line : Line → Bool
is_pair_line (Members n) = false
is_pair_line (Labels r m) = false
is_pair_line (Entry n o c d i) = false
is_pair_line (Policy j n) = false
is_pair_line (Effect j c k d) = false
is_pair_line (Edge k c d) = false
is_pair_line (Form n) = false
is_pair_line (TableBit t a b) = false
is_pair_line (PairBit t a b c) = true
is_pair_line (EventEdge j u v) = false
is_pair_line (Mark j) = false
is_pair_line Malformed = false

-- From the first T line on, the terms stay.
line_late : (f : File) {l : Line} → Ranged l → Passed (tests f l) → 7 ≤ f.phase → (7 ≤ (after_line f l).phase) × ((after_line f l).terms ≡ f.terms)
unfolding tests after_line
line_late f (members h) p z = let y = eqb-true f.phase 0 (passed_at p 0) in absurd (omega arith)
line_late f (labels h i) p z = let y = eqb-true f.phase 1 (passed_at p 0) in absurd (omega arith)
line_late f (entry h i j k m y) p z = let w = (entry_phase f (passed_at p 0)).1 in absurd (omega arith)
line_late f (policy h i) p z = let w = (policy_phase f (passed_at p 0)).1 in absurd (omega arith)
line_late f (effect h i q m n) p z = let w = leb-true f.phase 5 (passed_at p 1) in absurd (omega arith)
line_late f (edge h i j) p z = let w = leb-true f.phase 6 (passed_at p 1) in absurd (omega arith)
line_late f (form h) p z = let y = eqb-true f.phase 0 (passed_at p 0) in absurd (omega arith)
line_late f (bit h i j) p z = (omega arith, refl)
line_late f (pair h i j k) p z = (omega arith, refl)
line_late f (event h i j) p z = (omega arith, refl)
line_late f (mark h) p z = let w = leb-true f.phase 4 (passed_at p 1) in absurd (omega arith)

taken_late : {f g : File} {ls : List Line} → Taken f ls g → 7 ≤ f.phase → g.terms ≡ f.terms
taken_late Taken.none z = refl
taken_late {f} (one r p u) z = let w = line_late f r p z in taken_late u w.0 ∙ w.1

pair_there : (f : File) {g : File} {l : Line} {ls : List Line} → Ranged l → Passed (tests f l) → Taken (after_line f l) ls g → PairThere g l
unfolding tests after_line
pair_there f {g} (pair {t = s} h i j k) p u t a b c e =
    let same : s ≡ t = ap table_of_pair e in
    subst (λ (n : ℕ). pair_table g.terms n ≡ true) same (ap (λ (T : Terms). pair_table T s) (taken_late u (omega arith)) ∙ passed_at p 4)
pair_there f (members h) p u t a b c e = absurd (false≢true (ap is_pair_line e))
pair_there f (labels h i) p u t a b c e = absurd (false≢true (ap is_pair_line e))
pair_there f (entry h i j k m y) p u t a b c e = absurd (false≢true (ap is_pair_line e))
pair_there f (policy h i) p u t a b c e = absurd (false≢true (ap is_pair_line e))
pair_there f (effect h i q m n) p u t a b c e = absurd (false≢true (ap is_pair_line e))
pair_there f (edge h i j) p u t a b c e = absurd (false≢true (ap is_pair_line e))
pair_there f (form h) p u t a b c e = absurd (false≢true (ap is_pair_line e))
pair_there f (bit h i j) p u t a b c e = absurd (false≢true (ap is_pair_line e))
pair_there f (event h i j) p u t a b c e = absurd (false≢true (ap is_pair_line e))
pair_there f (mark h) p u t a b c e = absurd (false≢true (ap is_pair_line e))

taken_bits : {f g : File} {ls : List Line} → Taken f ls g → NonePartly g ls → (t a b : ℕ) → g.table t a b ≡ true
    → (f.table t a b ≡ true) ⊎ (partly g t a ≡ false)
taken_bits Taken.none h t a b e = inl e
taken_bits {f} {g} (one {l = l} r p u) (and q qs) t a b e =
    ⊎_elim (λ m. line_bits g f l q (pair_there f r p u) t a b m) (λ m. inr m) (taken_bits u qs t a b e)

taken_stays : {f g : File} {ls : List Line} → Taken f ls g → (t a b : ℕ) → f.table t a b ≡ true → g.table t a b ≡ true
taken_stays Taken.none t a b e = e
taken_stays {f} (one {l = l} r p u) t a b e = taken_stays u t a b (line_stays f l t a b e)

taken_level : {f g : File} {ls : List Line} → Taken f ls g → Level g.terms g.table → NonePartly g ls
taken_level Taken.none v = none
taken_level {f} {g} (one {l = l} r p u) v = and (line_level g f l v (taken_stays u)) (taken_level u v)

-- And so of the printed lines.
printed_partly : {f g : File} {ls : List Line} → Taken f ls g → (x : File) → NonePartly x ls → (n : ℕ) → partly_at x n (lines_of ls) ≡ 0
unfolding partly_at lines_of
printed_partly Taken.none x h n = refl
printed_partly (one r p u) x (and q qs) n = rw (split_ranged r, parsed_printed r, q) (printed_partly u x qs (n + 1))

pub read_printed : {g : File} {ls : List Line} → Taken nothing ls g → complete g ≡ true → Level g.terms g.table → reading (printed_all ls) ≡ accepted g
unfolding reading levelled
read_printed {g} {ls = ls} u c v = rw (lines_printed ls, read-on u c 1, printed_partly u g (taken_level u v) 1) refl

-- ---- from nothing on

no_bits : (t a b : ℕ) → nothing.table t a b ≡ false
unfolding nothing
no_bits t a b = refl

pub level_from : {f : File} (ls : Lines) → Taken nothing (said_lines ls) f → partly_at f 1 ls ≡ 0 → Level f.terms f.table
level_from {f} ls u e = record {
  level = λ t a b c q h l. ⊎_elim
      (λ m. absurd (false≢true (sym (no_bits t a b) ∙ m)))
      (λ m. whole_word f t a m q c l)
      (taken_bits u (none_partly f 1 ls (omega arith) e) t a b h);
}

pub level_to : {f : File} (ls : Lines) → Taken nothing (said_lines ls) f → Level f.terms f.table → partly_at f 1 ls ≡ 0
level_to {f} ls u v = partly_none f 1 ls (taken_level u v)
