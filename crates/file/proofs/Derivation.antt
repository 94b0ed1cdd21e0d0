-- An accepted text, as a derivation: each line can be written and passes its tests.
use Prim.Native.Nat.{ℕ, zero, suc, ◌+◌}
use mathlib.Core.Path.{◌≡◌, refl, subst, ◌∙◌}
use mathlib.Core.Logic.{⊎_elim}
use mathlib.Core.List.{List, [], ◌∷◌, ◌++◌}
use mathlib.Core.Bool.{Bool, true, false≢true}
use native.Mathlib.Omega.{arith}
use lib.Dec.{eqb}
use borrow.Author.Tests.{eqb-true}
use Rattle.sets.proofs.Finite.{true_or_false}
use Rattle.fields.specs.Split.{Lines, split, lines}
use Rattle.fields.specs.Split.Lines.{done, cut, line}
use Rattle.file.specs.Line.{parsed}
use Rattle.file.specs.File.{File, after_line, nothing}
use Rattle.file.specs.Reading.{Test, tests, complete, Reading, tried, read_on, partly_at, levelled, reading}
use Rattle.file.specs.Reading.Reading.{accepted, refused}
use Rattle.file.specs.Refused.{Passed}
use Rattle.file.specs.Refused.Passed.{pass}
use Rattle.file.specs.Said.{said_lines}
use Rattle.file.specs.declared.line.Line.{Line}
use Rattle.file.proofs.Plain.{lines_of}
use Rattle.file.proofs.Printed.{Ranged, parsed_printed, split_ranged, Formed, formed}

-- ---- tests

abbrev passes_at : List Test → ℕ → Bool
passes_at [] k = true
passes_at (t ∷ ts) zero = t.passes
passes_at (t ∷ ts) (suc k) = passes_at ts k

-- Test number k of a list that passes.
pub passed_at : {ts : List Test} → Passed ts → (k : ℕ) → passes_at ts k ≡ true
passed_at Passed.none k = refl
passed_at (pass p ps) zero = p
passed_at (pass p ps) (suc k) = passed_at ps k

pub tried_passed : {ts : List Test} → Passed ts → (n : ℕ) (r : Reading) → tried ts n r ≡ r
unfolding tried
tried_passed Passed.none n r = refl
tried_passed (pass p ps) n r = rw p (tried_passed ps n r)

pub tried_accepted : (ts : List Test) (n : ℕ) (r : Reading) (g : File) → tried ts n r ≡ accepted g → Passed ts × (r ≡ accepted g)
unfolding tried
tried_accepted [] n r g e = (Passed.none, e)
tried_accepted (t ∷ ts) n r g e =
    let ih = tried_accepted ts n r g in
    ⊎_elim
    (λ p. let q : tried ts n r ≡ accepted g = rw p at e in (pass p (ih q).0, (ih q).1))
    (λ p. let q : refused t.number n ≡ accepted g = rw p at e in let z : ◌≡◌ {A = ℕ} 0 1 = cc in absurd (omega arith))
    (true_or_false t.passes)

-- ---- lines

-- The lines take what f has said to what g has.
pub data Taken : File → List Line → File → Type 0 where
  none : {f : File} → Taken f [] f
  one : {f g : File} {l : Line} {ls : List Line} → Ranged l → Passed (tests f l) → Taken (after_line f l) ls g → Taken f (l ∷ ls) g

taken_append : {f g h : File} {ls ms : List Line} → Taken f ls g → Taken g ms h → Taken f (ls ++ ms) h
taken_append none u = u
taken_append (one r p t) u = one r p (taken_append t u)

-- The lines take what f has said to a file with P.
pub record Reached (f : File) (ls : List Line) (P : File → Type 0) : Type 0 where
  pub file : File
  pub taken : Taken f ls file
  pub holds : P file

pub reached_so : {f : File} {ls : List Line} {P Q : File → Type 0} → Reached f ls P → ((g : File) → P g → Q g) → Reached f ls Q
reached_so r h = record { file = r.file; taken = r.taken; holds = h r.file r.holds }

pub reached_then : {f : File} {ls ms : List Line} {P Q : File → Type 0} → Reached f ls P → ((g : File) → P g → Reached g ms Q) → Reached f (ls ++ ms) Q
reached_then r h =
    let s = h r.file r.holds in
    record { file = s.file; taken = taken_append r.taken s.taken; holds = s.holds }

-- One line that passes.
pub reached_one : {f : File} {l : Line} {P : File → Type 0} → Ranged l → Passed (tests f l) → P (after_line f l) → Reached f (l ∷ []) P
reached_one {f = f} {l = l} r p h = record { file = after_line f l; taken = one r p Taken.none; holds = h }

pub reached_none : {f : File} {P : File → Type 0} → P f → Reached f [] P
reached_none {f = f} h = record { file = f; taken = Taken.none; holds = h }

-- ---- accepted texts

-- An accepted text: its lines take f to g, with which the file is complete.
pub record Accepting (f : File) (ls : Lines) (g : File) : Type 0 where
  pub taken : Taken f (said_lines ls) g
  pub whole : complete g ≡ true

-- Fields that pass say a line.
pub passed_formed : (f : File) (fs : List (List ℕ)) → Passed (tests f (parsed fs)) → Formed fs (parsed fs)
unfolding tests
passed_formed f fs p =
    ⊎_elim
    (λ e. absurd (false≢true (passed_at (subst (λ (l : Line). Passed (tests f l)) e p) 0)))
    (λ q. q)
    (formed fs)

pub accepting : (f : File) (n : ℕ) (ls : Lines) (g : File) → read_on f n ls ≡ accepted g → Accepting f ls g
unfolding read_on said_lines
accepting f n done g e =
    ⊎_elim
    (λ p. let q : accepted f ≡ accepted g = rw p at e in let z : f ≡ g = cc in
    subst (λ (h : File). Accepting f done h) z (record { taken = none; whole = p }))
    (λ p. let q : refused 1 n ≡ accepted g = rw p at e in let z : ◌≡◌ {A = ℕ} 0 1 = cc in absurd (omega arith))
    (true_or_false (complete f))
accepting f n (cut l) g e = let z : ◌≡◌ {A = ℕ} 0 1 = cc in absurd (omega arith)
accepting f n (line l r) g e =
    let t = tried_accepted (tests f (parsed (split 9 l))) n (read_on (after_line f (parsed (split 9 l))) (n + 1) r) g e in
    let a = accepting (after_line f (parsed (split 9 l))) (n + 1) r g t.1 in
    record { taken = one (passed_formed f (split 9 l) t.0).ranged t.0 a.taken; whole = a.whole }

-- All lines pass, and none is a T line of a partly filled word.
levelled_accepted : (ls : Lines) (r : Reading) (f : File) → levelled ls r ≡ accepted f → (r ≡ accepted f) × (partly_at f 1 ls ≡ 0)
unfolding levelled
levelled_accepted ls (accepted g) f e =
    ⊎_elim
    (λ p. let q : accepted g ≡ accepted f = rw p at e in let z : g ≡ f = cc in
    (q, subst (λ (h : File). partly_at h 1 ls ≡ 0) z (eqb-true (partly_at g 1 ls) 0 p)))
    (λ p. let q : refused 11 (partly_at g 1 ls) ≡ accepted f = rw p at e in let z : ◌≡◌ {A = ℕ} 0 1 = cc in absurd (omega arith))
    (true_or_false (eqb (partly_at g 1 ls) 0))
levelled_accepted ls (refused n l) f e = let z : ◌≡◌ {A = ℕ} 0 1 = cc in absurd (omega arith)

pub reading_read : (text : List ℕ) (f : File) → reading text ≡ accepted f → read_on nothing 1 (lines text) ≡ accepted f
unfolding reading
reading_read text f e = (levelled_accepted (lines text) (read_on nothing 1 (lines text)) f e).0

pub reading_level : (text : List ℕ) (f : File) → reading text ≡ accepted f → partly_at f 1 (lines text) ≡ 0
unfolding reading
reading_level text f e = (levelled_accepted (lines text) (read_on nothing 1 (lines text)) f e).1

pub reading_accepting : (text : List ℕ) (f : File) → reading text ≡ accepted f → Accepting nothing (lines text) f
reading_accepting text f e = accepting nothing 1 (lines text) f (reading_read text f e)

-- ---- the other way round

pub read-on : {f g : File} {ls : List Line} → Taken f ls g → complete g ≡ true → (n : ℕ) → read_on f n (lines_of ls) ≡ accepted g
unfolding read_on lines_of
read-on none c n = rw c refl
read-on (one r p t) c n = rw (split_ranged r, parsed_printed r) (tried_passed p n _ ∙ read-on t c (n + 1))
