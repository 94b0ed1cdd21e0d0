-- The ways that reading a text into lent memory goes: memory that is too short, a text that is
-- refused, a text that is accepted.
use Prim.Native.Nat.{ℕ, ◌≤◌, ◌<◌}
use native.Mathlib.Omega.{arith}
use mathlib.Core.Path.{◌≡◌, refl, sym, ap, ◌∙◌}
use mathlib.Core.Logic.{◌⊎◌, ⊎_elim}
use mathlib.Core.Bool.{Bool, true, false, cond}
use mathlib.Core.List.{List, ◌++◌}
use lib.ListN.{length, drop}
use borrow.Author.Tests.{eq-eqb, ne_eqb, lt-ltb, le-ltb}
use Rattle.memory.specs.Layout.{terms_words, state_words, words_of}
use Rattle.memory.proofs.Words.{length_words}
use Rattle.fields.specs.Split.{lines}
use Rattle.file.specs.File.{File, state_said}
use Rattle.file.specs.Reading.{Reading, partly_at, levelled, reading}
use Rattle.file.specs.Reading.Reading.{accepted, refused}
use Rattle.reader.specs.Memory.{memory_of}
use Rattle.reader.specs.Read.{Filling, filling_of, filling, fill_gives, read_terms, read_words}
use Rattle.reader.specs.Read.Filling.{old, stored, refused as refusedFilling}
use Rattle.reader.specs.private.Storing.{all_read, Holds, Reads}
use Rattle.reader.specs.private.Partly.{Found}
use Rattle.std.specs.Prelude.{Ok}
use Rattle.reader.specs.declared.Form.{Form}
use Rattle.reader.specs.declared.Form.TheVariants.{Old, Stored}
use Rattle.reader.proofs.TermsMemory.{length_memory}

pub was_refused : (r : Reading) (k n : ℕ) → filling r ≡ refusedFilling k n → r ≡ refused k n
was_refused (accepted f) k n e = absurd (go f.stored e)
  where
    go : (c : Bool) → cond c stored old ≡ refusedFilling k n → ⊥
    go true e = let z : ◌≡◌ {A = ℕ} 0 1 = cc in omega arith
    go false e = let z : ◌≡◌ {A = ℕ} 0 1 = cc in omega arith
was_refused (refused i j) k n e = cc

-- It is not a refusal.
abbrev pub Unrefused : Filling → Type 0
Unrefused old = Unit {0}
Unrefused stored = Unit {0}
Unrefused (refusedFilling k n) = ⊥

pub was_accepted : (r : Reading) (o : Filling) → o ≡ filling r → Unrefused o → (f : File) × (r ≡ accepted f)
was_accepted (accepted f) o e t = (f, refl)
was_accepted (refused i j) old e t = let z : ◌≡◌ {A = ℕ} 0 1 = cc in absurd (omega arith)
was_accepted (refused i j) stored e t = let z : ◌≡◌ {A = ℕ} 0 1 = cc in absurd (omega arith)
was_accepted (refused i j) (refusedFilling k n) e t = absurd t

-- Nor is what the code answers then.
pub unrefused : (x : Form) → Unrefused (filling_of (Ok x))
unrefused Old = tt
unrefused Stored = tt

-- A copy in front of what was there.
pub copied : {n : ℕ} (src dst new : List ℕ) → new ≡ src → length src ≡ n → new ++ drop n dst ≡ src ++ drop (length src) dst
copied src dst new e l = rw (e, l) refl

-- What filling gives and leaves.
abbrev pub Leaves : (text terms state : List ℕ) → Filling → (terms' state' : List ℕ) → Type 0
Leaves text terms state o terms' state' =
    (o ≡ fill_gives text terms state) × ((terms' ≡ read_terms text terms state) × (state' ≡ read_words text terms state))

module _ (text terms state : List ℕ) where
  pub short_terms : length terms < terms_words → Leaves text terms state (refusedFilling 6 0) terms state
  unfolding fill_gives read_terms read_words
  short_terms h = let e = lt-ltb (length terms) terms_words h in (rw e, (rw e, rw e))

  module _ (tl : terms_words ≤ length terms) where
    pub short_state : length state < state_words → Leaves text terms state (refusedFilling 6 0) terms state
    unfolding fill_gives read_terms read_words
    short_state h =
        let e = le-ltb (length terms) terms_words tl in
        let d = lt-ltb (length state) state_words h in
        (rw (e, d), (rw (e, d), rw (e, d)))

    module _ (sl : state_words ≤ length state) where
      refuses : (k n : ℕ) → reading text ≡ refused k n → Leaves text terms state (refusedFilling k n) terms state
      unfolding fill_gives read_terms read_words
      refuses k n r =
          let e = le-ltb (length terms) terms_words tl in
          let d = le-ltb (length state) state_words sl in
          (rw (e, d, r), (rw (e, d, r), rw (e, d, r)))

      pub text_refused : (k n : ℕ) → refusedFilling k n ≡ filling (all_read text) → Leaves text terms state (refusedFilling k n) terms state
      unfolding reading levelled
      text_refused k n h = refuses k n (rw (was_refused (all_read text) k n (sym h)))

      -- All lines pass: the words hold what they say, and line is that of refusal 11, or 0.
      module _ (o : Filling) (words bits masks : List ℕ) (r : Reads text o words bits masks) (unrefused : Unrefused o) (line : ℕ)
          (found : Found text words bits masks line)
        where
          said : (f : File) × (all_read text ≡ accepted f)
          said = was_accepted (all_read text) o r.given unrefused

          abbrev f : File
          f = said.0

          holds : Holds f words bits masks
          holds = r.filled f said.1

          line-is : line ≡ partly_at f 1 (lines text)
          line-is = found f said.1 holds

          pub text_partly : 0 < line → Leaves text terms state (refusedFilling 11 line) terms state
          unfolding reading levelled
          text_partly l = refuses 11 line (rw (said.1, ← line-is, ne_eqb line 0 (λ z. omega arith)))

          whole : line ≤ 0 → reading text ≡ accepted f
          unfolding reading levelled
          whole l = rw (said.1, ← line-is, eq-eqb line 0 (omega arith))

          -- They are copied to the front of the lent memory.
          pub text_accepted : line ≤ 0 → (terms' state' : List ℕ) → terms' ≡ words ++ drop (length words) terms →
              state' ≡ bits ++ drop (length bits) state → Leaves text terms state o terms' state'
          unfolding fill_gives read_terms read_words
          text_accepted l terms' state' et es =
              let e = le-ltb (length terms) terms_words tl in
              let d = le-ltb (length state) state_words sl in
              let a = whole l in (
                rw (e, d, a) (r.given ∙ ap filling said.1),
                (
                  rw (e, d, a) (et ∙ ap (λ (v : List ℕ). v ++ drop (length v) terms) holds.terms_are
                      ∙ ap (λ (i : ℕ). memory_of f.terms ++ drop i terms) (length_memory f.terms)),
                  rw (e, d, a) (es ∙ ap (λ (v : List ℕ). v ++ drop (length v) state) holds.state-is
                      ∙ ap (λ (i : ℕ). words_of f.terms (state_said f) ++ drop i state) (length_words f.terms (state_said f))),
                ),
              )

-- Either memory is too short.
module _ (text terms state : List ℕ) where
  pub short_memory : (length terms < terms_words) ⊎ ((terms_words ≤ length terms) × (length state < state_words))
      → Leaves text terms state (refusedFilling 6 0) terms state
  short_memory h = ⊎_elim (λ l. short_terms text terms state l) (λ p. short_state text terms state p.0 p.1) h
