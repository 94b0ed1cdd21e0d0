-- A text is refused exactly where its first faulty line is, with the lowest number of a test that fails; or where it is
-- cut or ends too soon; or else at the first T line of a partly filled word.
use Prim.Native.Nat.{ℕ, ◌+◌, ◌≤◌}
use mathlib.Core.Path.{◌≡◌, refl, ap, subst, subst₂, ◌∙◌}
use mathlib.Core.Logic.{◌⊎◌, ◌↔◌, inl, inr, ⊎_elim}
use mathlib.Core.List.{List, [], ◌∷◌}
use mathlib.Core.Bool.{true, false}
use native.Mathlib.Omega.{arith}
use lib.Dec.{eqb, leb}
use borrow.Author.Tests.{leb-true, eqb-false, ne_eqb}
use Rattle.sets.proofs.Finite.{true_or_false, not_both, and_left, and_right}
use Rattle.fields.specs.Split.{Lines, split, lines}
use Rattle.fields.specs.Split.Lines.{done, cut, line}
use Rattle.file.specs.Line.{parsed}
use Rattle.file.specs.File.{File, after_line, nothing}
use Rattle.file.specs.Reading.{Test, tests, complete, Reading, tried, read_on, partly_filled, partly_at, levelled, reading}
use Rattle.file.specs.Reading.Reading.{accepted, refused}
use Rattle.file.specs.declared.line.Line.{Line}
use Rattle.file.specs.declared.line.Line.TheVariants.{Members, Labels, Entry, Policy, Effect, Edge, Form, TableBit, PairBit, EventEdge, Mark, Malformed}
use Rattle.file.specs.Refused.{Passed, Fails, Lowest, Refused, FirstPartly, RefusedText, numbers_rise}
use Rattle.file.proofs.Derivation.{tried_passed}
use Rattle.file.specs.Refused.Passed.{none, pass}
use Rattle.file.specs.Refused.Fails.{this, other}
use Rattle.file.specs.Refused.Refused.{go_on, faulty, cut_off, ended}
use Rattle.file.specs.Refused.FirstPartly.{later}
use Rattle.file.specs.Refused.RefusedText.{by_line, partly-filled}

-- ---- the numbers of a line's tests never fall

pub tests_rise : (f : File) (l : Line) → numbers_rise 1 (tests f l) ≡ true
unfolding tests numbers_rise
tests_rise f (Members n) = refl
tests_rise f (Labels r e) = refl
tests_rise f (Entry n o a b c) = refl
tests_rise f (Policy j n) = refl
tests_rise f (Effect j c k d) = refl
tests_rise f (Edge k a b) = refl
tests_rise f (Form n) = refl
tests_rise f (TableBit t a b) = refl
tests_rise f (PairBit t a b c) = refl
tests_rise f (EventEdge j u v) = refl
tests_rise f (Mark j) = refl
tests_rise f Malformed = refl

rise_rest : (m : ℕ) (t : Test) (ts : List Test) → numbers_rise m (t ∷ ts) ≡ true → numbers_rise t.number ts ≡ true
unfolding numbers_rise
rise_rest m t ts r = and_right (leb m t.number) (numbers_rise t.number ts) r

-- So the first test that fails has the lowest number.
fails_above : (m : ℕ) {n : ℕ} (ts : List Test) → numbers_rise m ts ≡ true → Fails n ts → m ≤ n
unfolding numbers_rise
fails_above m [] r x = elim x [ ]
fails_above m (t ∷ ts) r (this e p) = let l = leb-true m t.number (and_left (leb m t.number) _ r) in omega arith
fails_above m (t ∷ ts) r (other p) =
    let l = leb-true m t.number (and_left (leb m t.number) _ r) in
    let h = fails_above t.number ts (rise_rest m t ts r) p in
    omega arith

fails_other : {n : ℕ} {t : Test} {ts : List Test} → t.passes ≡ true → Fails n (t ∷ ts) → Fails n ts
fails_other h (this e p) = absurd (not_both _ h p)
fails_other h (other p) = p

first_lowest : (m : ℕ) (t : Test) (ts : List Test) → numbers_rise m (t ∷ ts) ≡ true → t.passes ≡ false → Lowest t.number (t ∷ ts)
first_lowest m t ts r p = record { fails = this refl p; least = least }
  where
    least : (m : ℕ) → Fails m (t ∷ ts) → t.number ≤ m
    least n (this e q) = omega arith
    least n (other q) = fails_above t.number ts (rise_rest m t ts r) q

lowest_later : {n : ℕ} (t : Test) (ts : List Test) → t.passes ≡ true → Lowest n ts → Lowest n (t ∷ ts)
lowest_later t ts h l = record { fails = other l.fails; least = λ m p. l.least m (fails_other h p) }

-- ---- both ways

tried_refused : (m : ℕ) (ts : List Test) → numbers_rise m ts ≡ true → (at : ℕ) (r : Reading) (n k : ℕ) → tried ts at r ≡ refused n k
    → (Passed ts × (r ≡ refused n k)) ⊎ (Lowest n ts × (at ≡ k))
unfolding tried
tried_refused m [] s at r n k e = inl (none, e)
tried_refused m (t ∷ ts) s at r n k e =
    let ih = tried_refused t.number ts (rise_rest m t ts s) at r n k in
    ⊎_elim
    (λ p. let q : tried ts at r ≡ refused n k = rw p at e in
    ⊎_elim (λ a. inl (pass p a.0, a.1)) (λ a. inr (lowest_later t ts p a.0, a.1)) (ih q))
    (λ p. let q : refused t.number at ≡ refused n k = rw p at e in
    let u : t.number ≡ n = cc in
    let v : at ≡ k = cc in
    inr (subst (λ (x : ℕ). Lowest x (t ∷ ts)) u (first_lowest m t ts s p), v))
    (true_or_false t.passes)

nowhere : {n : ℕ} → Fails n [] → ⊥
nowhere h = elim h [ ]

tried_lowest : (m : ℕ) {n : ℕ} (ts : List Test) → numbers_rise m ts ≡ true → Lowest n ts → (at : ℕ) (r : Reading) → tried ts at r ≡ refused n at
unfolding tried
tried_lowest m [] s l at r = absurd (nowhere l.fails)
tried_lowest m (t ∷ ts) s l at r =
    let ih = tried_lowest t.number ts (rise_rest m t ts s) in
    ⊎_elim
    (λ p. rw p (ih (record { fails = fails_other p l.fails; least = λ m q. l.least m (other q) }) at r))
    (λ p. let f = first_lowest m t ts s p in
    let u = f.least _ l.fails in let v = l.least t.number (this refl p) in
    rw p (ap (λ (x : ℕ). refused x at) (omega arith)))
    (true_or_false t.passes)

to_refused : (f : File) (at : ℕ) (ls : Lines) (n k : ℕ) → read_on f at ls ≡ refused n k → Refused f at ls n k
unfolding read_on
to_refused f at done n k e =
    ⊎_elim
    (λ p. let q : accepted f ≡ refused n k = rw p at e in let z : ◌≡◌ {A = ℕ} 0 1 = cc in absurd (omega arith))
    (λ p. let q : refused 1 at ≡ refused n k = rw p at e in
    let u : 1 ≡ n = cc in
    let v : at ≡ k = cc in
    subst₂ (Refused f at done) u v (ended p))
    (true_or_false (complete f))
to_refused f at (cut l) n k e =
    let u : 1 ≡ n = cc in
    let v : at ≡ k = cc in
    subst₂ (Refused f at (cut l)) u v cut_off
to_refused f at (line l r) n k e =
    let ih = to_refused (after_line f (parsed (split 9 l))) (at + 1) r n k in
    ⊎_elim
    (λ a. go_on a.0 (ih a.1))
    (λ a. subst (Refused f at (line l r) n) a.1 (faulty a.0))
    (tried_refused 1 (tests f (parsed (split 9 l))) (tests_rise f (parsed (split 9 l))) at (read_on (after_line f (parsed (split 9 l))) (at + 1) r) n k e)

from_refused : {f : File} {at : ℕ} {ls : Lines} {n k : ℕ} → Refused f at ls n k → read_on f at ls ≡ refused n k
unfolding read_on
from_refused (go_on p r) = tried_passed p _ _ ∙ from_refused r
from_refused {f = f} {at = at} (faulty {l = l} p) = tried_lowest 1 _ (tests_rise f (parsed (split 9 l))) p at _
from_refused cut_off = refl
from_refused (ended p) = rw p refl

-- ---- the partly filled words

to_partly : (f : File) (n : ℕ) (ls : Lines) → (partly_at f n ls ≡ 0 → ⊥) → FirstPartly f n ls (partly_at f n ls)
unfolding partly_at
to_partly f n done h = absurd (h refl)
to_partly f n (cut l) h = absurd (h refl)
to_partly f n (line l r) h =
    let ih = to_partly f (n + 1) r in
    ⊎_elim
    (λ p. rw p (FirstPartly.this p))
    (λ p. let i : partly_at f (n + 1) r ≡ 0 → ⊥ = rw p at h in rw p (later p (ih i)))
    (true_or_false (partly_filled f (parsed (split 9 l))))

from_partly : {f : File} {n k : ℕ} {ls : Lines} → FirstPartly f n ls k → (partly_at f n ls ≡ k) × (n ≤ k)
unfolding partly_at
from_partly (FirstPartly.this p) = (rw p refl, omega arith)
from_partly (later p q) = let h = from_partly q in (rw p h.0, omega (arith, h.1))

to_text : (text : List ℕ) (x : Reading) → read_on nothing 1 (lines text) ≡ x → (n k : ℕ) → levelled (lines text) x ≡ refused n k → RefusedText text n k
unfolding levelled
to_text text (refused m l) s n k e =
    let u : m ≡ n = cc in
    let v : l ≡ k = cc in
    subst₂ (RefusedText text) u v (by_line (to_refused nothing 1 (lines text) m l s))
to_text text (accepted f) s n k e =
    ⊎_elim
    (λ p. let q : accepted f ≡ refused n k = rw p at e in let z : ◌≡◌ {A = ℕ} 0 1 = cc in absurd (omega arith))
    (λ p. let q : refused 11 (partly_at f 1 (lines text)) ≡ refused n k = rw p at e in
    let u : 11 ≡ n = cc in
    let v : partly_at f 1 (lines text) ≡ k = cc in
    subst₂ (RefusedText text) u v (partly-filled s (to_partly f 1 (lines text) (eqb-false (partly_at f 1 (lines text)) 0 p))))
    (true_or_false (eqb (partly_at f 1 (lines text)) 0))

from_text : {text : List ℕ} {n k : ℕ} → RefusedText text n k → reading text ≡ refused n k
unfolding reading levelled
from_text (by_line r) = rw (from_refused r) refl
from_text {text} (partly-filled {f = f} {k = k} e q) =
    let h = from_partly q in
    let h1 = h.1 in
    rw (e, h.0, ne_eqb k 0 (λ z. omega arith)) refl

pub refused_only : (text : List ℕ) (n k : ℕ) → (reading text ≡ refused n k) ↔ RefusedText text n k
unfolding reading
refused_only text n k = (to_text text (read_on nothing 1 (lines text)) refl n k, from_text)
