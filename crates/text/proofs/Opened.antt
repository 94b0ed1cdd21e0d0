-- What the reader filled: an old file's memory opens, and opening leaves the state of moment 0; a stored file's is its
-- own. So `read` does what it should.
use Prim.Native.Nat.{ℕ, ◌≤◌}
use native.Mathlib.Omega.{arith}
use mathlib.Core.Path.{◌≡◌, refl, sym, ap, ap₂, ◌∙◌}
use mathlib.Core.Bool.{Bool, true, false, cond, ◌||◌}
use mathlib.Core.List.{List, ◌++◌}
use lib.Dec.{ltb}
use lib.ListN.{length, drop}
use borrow.Author.Tests.{le-ltb, ltb-false}
use Rattle.theory.specs.Tables.{opening}
use Rattle.memory.specs.Layout.{terms_words, state_words, terms_of, words_of}
use Rattle.memory.specs.Outcome.{Outcome, opens}
use Rattle.memory.specs.Outcome.Outcome.{passed, refused as refusedOutcome}
use Rattle.calls.specs.Monitor.{opened_state}
use Rattle.file.specs.File.{File, state_said}
use Rattle.file.specs.Reading.{Reading, reading}
use Rattle.file.specs.Reading.Reading.{accepted, refused}
use Rattle.reader.specs.Read.{Filling, short, filling, outcome, read_gives, fill_gives, filled_words, read_terms, read_words}
use Rattle.reader.specs.Read.Filling.{old, stored, refused as refusedFilling}
use Rattle.text.specs.Text.{filled_state, read_state}
use Rattle.reader.proofs.StateMemory.{filled, placed, filled_alike, placed_edges, placed_further, passes}
use Rattle.text.proofs.AlikeWords.{words_alike}
use Rattle.text.proofs.AcceptedMemory.{read-terms, read-state}

module _ (text : List ℕ) (f : File) (e : reading text ≡ accepted f) (terms state : List ℕ) (long : state_words ≤ length state) where
  -- The memory opens, whatever it held, and what opening leaves is the state of moment 0.
  pub open_accepted :
      (opens (filled f terms) (placed f state) ≡ passed)
      × (opened_state (filled f terms) (placed f state) ≡ words_of f.terms (opening f.terms f.edges) ++ drop state_words state)
  unfolding opened_state
  open_accepted =
      let p = passes text f e terms state long in (
        p,
        rw (p, placed_edges text f e terms state long, placed_further text f e terms state long)
            (ap (λ w. w ++ drop state_words state) (sym (words_alike f.terms (terms_of (filled f terms)) (filled_alike text f e terms state long) f.edges))),
      )

-- ---- what filling gave

-- A text of the form that b says was accepted.
abbrev WasRead : (form short₁ short₂ : Bool) → Reading → Type 0
WasRead form x y r = (x ≡ false) × (y ≡ false) × ((f : File) × (r ≡ accepted f) × (f.stored ≡ form))

abbrev form_of : Bool → Filling
form_of b = cond b stored old

same_form : (b c : Bool) → form_of b ≡ form_of c → c ≡ b
same_form true true e = refl
same_form true false e = let z : ◌≡◌ {A = ℕ} 0 1 = cc in absurd (omega arith)
same_form false true e = let z : ◌≡◌ {A = ℕ} 0 1 = cc in absurd (omega arith)
same_form false false e = refl

no_form : (b : Bool) (n l : ℕ) → form_of b ≡ refusedFilling n l → ⊥
no_form true n l e = let z : ◌≡◌ {A = ℕ} 0 1 = cc in omega arith
no_form false n l e = let z : ◌≡◌ {A = ℕ} 0 1 = cc in omega arith

was_read : (b x y : Bool) (r : Reading) → form_of b ≡ cond (x || y) (refusedFilling 6 0) (filling r) → WasRead b x y r
was_read b true y r e = absurd (no_form b 6 0 e)
was_read b false true r e = absurd (no_form b 6 0 e)
was_read b false false (accepted f) e = (refl, refl, (f, refl, same_form b f.stored e))
was_read b false false (refused n l) e = absurd (no_form b n l e)

-- A refusal leaves the state as lent.
was_refused : (state : List ℕ) (b : Bool) (r : Reading) (n l : ℕ) → refusedFilling n l ≡ cond b (refusedFilling 6 0) (filling r) →
    (refusedOutcome n l ≡ cond b (refusedOutcome 6 0) (outcome r)) × (cond b state (filled_words state r) ≡ cond b state (filled_state state r))
was_refused state true r n l e = (cc, refl)
was_refused state false (accepted f) n l e = absurd (no_form f.stored n l (sym e))
was_refused state false (refused i j) n l e = (cc, refl)

module _ (text terms state : List ℕ) where
  pub fill_refused : (n l : ℕ) → refusedFilling n l ≡ fill_gives text terms state →
      (refusedOutcome n l ≡ read_gives text terms state) × (read_words text terms state ≡ read_state text terms state)
  unfolding fill_gives read_gives read_words read_state
  fill_refused n l e = was_refused state (short terms state) (reading text) n l e

  module _ (b : Bool) (h : form_of b ≡ fill_gives text terms state) where
    read_so : WasRead b (ltb (length terms) terms_words) (ltb (length state) state_words) (reading text)
    unfolding fill_gives
    read_so = was_read b (ltb (length terms) terms_words) (ltb (length state) state_words) (reading text) h

    f : File
    f = read_so.2.0

    e : reading text ≡ accepted f
    unfolding f
    e = read_so.2.1

    form : f.stored ≡ b
    unfolding f
    form = read_so.2.2

    tl : terms_words ≤ length terms
    tl = ltb-false (length terms) terms_words read_so.0

    sl : state_words ≤ length state
    sl = ltb-false (length state) state_words read_so.1

    done : read_gives text terms state ≡ passed
    unfolding read_gives
    done = rw (le-ltb (length terms) terms_words tl, le-ltb (length state) state_words sl, e)

    read_placed : read_words text terms state ≡ placed f state
    unfolding read_words
    read_placed = rw (le-ltb (length terms) terms_words tl, le-ltb (length state) state_words sl, e)

    read_begun : read_state text terms state ≡ words_of f.terms (cond b (state_said f) (opening f.terms f.edges)) ++ drop state_words state
    read_begun = read-state text f e terms state tl sl ∙ ap (λ c. words_of f.terms (cond c (state_said f) (opening f.terms f.edges)) ++ drop state_words state) form

  -- A stored file's state stands there.
  pub fill_stored : stored ≡ fill_gives text terms state → (passed ≡ read_gives text terms state) × (read_words text terms state ≡ read_state text terms state)
  fill_stored h = (sym (done true h), read_placed true h ∙ sym (read_begun true h))

  -- An old file's is opened.
  pub fill_opened : old ≡ fill_gives text terms state → (terms' state' : List ℕ) → terms' ≡ read_terms text terms state → state' ≡ read_words text terms state →
      (o : Outcome) (state'' : List ℕ) → o ≡ opens terms' state' → state'' ≡ opened_state terms' state' →
      (o ≡ read_gives text terms state) × (state'' ≡ read_state text terms state)
  fill_opened h terms' state' et es o state'' eo ez =
      let g : File = f false h in
      let t : terms' ≡ filled g terms = et ∙ read-terms text g (e false h) terms state (tl false h) (sl false h) in
      let s : state' ≡ placed g state = es ∙ read_placed false h in
      let q = open_accepted text g (e false h) terms state (sl false h) in
      (eo ∙ ap₂ opens t s ∙ q.0 ∙ sym (done false h), ez ∙ ap₂ opened_state t s ∙ q.1 ∙ sym (read_begun false h))
