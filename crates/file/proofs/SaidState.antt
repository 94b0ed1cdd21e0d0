-- What an accepted text says of edges, tables, event edge and form is what its lines say, taken
-- line by line and with no test.
use Prim.Native.Nat.{ℕ}
use mathlib.Core.Path.{◌≡◌, refl, sym, ◌∙◌}
use mathlib.Core.Logic.{⊎_elim}
use mathlib.Core.List.{List, [], ◌∷◌}
use mathlib.Core.Bool.{Bool, cond, ◌&&◌, ◌||◌, or-true, or-false}
use native.Mathlib.Omega.{arith}
use lib.Dec.{eqb, ltb}
use borrow.Author.Tests.{not-true, eqb-true, ltb-true, leb-true, lt-ltb}
use Rattle.sets.proofs.Finite.{true_or_false}
use Rattle.theory.specs.Columns.{pair_word, pair_bit}
use Rattle.theory.specs.Moment.{Relations, Event}
use Rattle.theory.specs.Tables.{Tables}
use Rattle.file.specs.File.{File, nothing, with_bit, after_line}
use Rattle.file.specs.Reading.{tests}
use Rattle.file.specs.Said.{edges_said, tables_said, last_said, stored_said}
use Rattle.file.specs.declared.line.Line.{Line}
use Rattle.file.proofs.Printed.{Ranged}
use Rattle.file.proofs.Printed.Ranged.{members, labels, entry, policy, effect, edge, form, bit, pair, event, mark}
use Rattle.file.specs.Refused.{Passed}
use Rattle.file.proofs.Derivation.{passed_at, Taken}
use Rattle.file.proofs.Derivation.Taken.{none, one}
use Rattle.file.proofs.Invariant.{FileFits, entry_phase, policy_phase}

-- All that a file says beside its terms.
pub record Beside : Type 0 where
  pub edges : Relations
  pub table : Tables
  pub last : Event
  pub stored : Bool

abbrev pub beside_of : File → Beside
beside_of f = record { edges = f.edges; table = f.table; last = f.last; stored = f.stored }

abbrev pub beside_said : List Line → Beside
beside_said ls = record { edges = edges_said ls; table = tables_said ls; last = last_said ls; stored = stored_said ls }

-- What f has said, and lines after it.
beside : File → List Line → Beside
beside f ls = record {
  edges = λ k a b. f.edges k a b || edges_said ls k a b;
  table = λ t a b. f.table t a b || tables_said ls t a b;
  last = cond (ltb f.phase 8) (last_said ls) f.last;
  stored = f.stored || stored_said ls;
}

bit_line : (R Q : (k a b : ℕ) → Bool) (l c d k a b : ℕ)
    → with_bit R l c d k a b || Q k a b ≡ R k a b || ((eqb k l && (eqb a c && eqb b d)) || Q k a b)
bit_line R Q l c d k a b =
    ⊎_elim
    (λ t. rw t (sym (or-true (R k a b))))
    (λ t. rw t refl)
    (true_or_false (eqb k l && (eqb a c && eqb b d)))

beside_line : (f : File) {l : Line} → Ranged l → Passed (tests f l) → (ls : List Line) → beside (after_line f l) ls ≡ beside f (l ∷ ls)
unfolding beside tests after_line edges_said tables_said last_said stored_said
beside_line f (members h) p ls = rw (eqb-true f.phase 0 (passed_at p 0)) refl
beside_line f (labels h i) p ls = rw (eqb-true f.phase 1 (passed_at p 0)) refl
beside_line f (entry h i j k m y) p ls = let z = (entry_phase f (passed_at p 0)).1 in rw (lt-ltb f.phase 8 (omega arith)) refl
beside_line f (policy h i) p ls = let z = (policy_phase f (passed_at p 0)).1 in rw (lt-ltb f.phase 8 (omega arith)) refl
beside_line f (effect h i q m n) p ls = let z = leb-true f.phase 5 (passed_at p 1) in rw (lt-ltb f.phase 8 (omega arith)) refl
beside_line f (edge {k = k} {a = a} {b = b} h i j) p ls =
    let z = leb-true f.phase 6 (passed_at p 1) in
    rw (lt-ltb f.phase 8 (omega arith)) (λ i. record {
      edges = λ l c d. bit_line f.edges (edges_said ls) k a b l c d i;
      table = λ t c d. f.table t c d || tables_said ls t c d;
      last = last_said ls;
      stored = f.stored || stored_said ls;
    })
beside_line f (form h) p ls = rw (not-true f.stored (passed_at p 1)) refl
beside_line f (bit {t = t} {a = a} {b = b} h i j) p ls =
    let z = leb-true f.phase 7 (passed_at p 2) in
    rw (lt-ltb f.phase 8 (omega arith)) (λ i. record {
      edges = λ l c d. f.edges l c d || edges_said ls l c d;
      table = λ s c d. bit_line f.table (tables_said ls) t a b s c d i;
      last = last_said ls;
      stored = f.stored || stored_said ls;
    })
beside_line f (pair {t = t} {a = a} {b = b} {c = c} h i j k) p ls =
    let z = leb-true f.phase 7 (passed_at p 2) in
    rw (lt-ltb f.phase 8 (omega arith)) (λ i. record {
      edges = λ l c d. f.edges l c d || edges_said ls l c d;
      table = λ s c' d. bit_line f.table (tables_said ls) t (pair_word a b) (pair_bit b c) s c' d i;
      last = last_said ls;
      stored = f.stored || stored_said ls;
    })
beside_line f (event h i j) p ls = let z = leb-true f.phase 7 (passed_at p 2) in rw (lt-ltb f.phase 8 (omega arith)) refl
beside_line f (mark h) p ls = let z = leb-true f.phase 4 (passed_at p 1) in rw (lt-ltb f.phase 8 (omega arith)) refl

beside_on : {f g : File} {ls : List Line} → Taken f ls g → beside g [] ≡ beside f ls
beside_on none = refl
beside_on {f = f} (one {ls = ls} r p t) = beside_on t ∙ beside_line f r p ls

-- ---- the two ends

beside_first : (ls : List Line) → beside nothing ls ≡ beside_said ls
unfolding beside nothing
beside_first ls = refl

beside_last : (f : File) → FileFits f → beside f [] ≡ beside_of f
unfolding beside edges_said tables_said last_said stored_said
beside_last f g =
    let last : cond (ltb f.phase 8) Event.none f.last ≡ f.last = ⊎_elim
    (λ t. rw t (sym (g.no_last (ltb-true f.phase 8 t))))
    (λ t. rw t refl)
    (true_or_false (ltb f.phase 8)) in
    λ i. record {
      edges = λ k a b. or-false (f.edges k a b) i;
      table = λ t a b. or-false (f.table t a b) i;
      last = last i;
      stored = or-false f.stored i;
    }

pub beside-said : {f : File} {ls : List Line} → Taken nothing ls f → FileFits f → beside_said ls ≡ beside_of f
beside-said {f} {ls} t g = sym (beside_first ls) ∙ sym (beside_on t) ∙ beside_last f g
