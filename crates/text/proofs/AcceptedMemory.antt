-- Which memory the accepted texts yield, and what reading a written text yields.
use Prim.Native.Nat.{ℕ, ◌≤◌}
use mathlib.Core.Path.{◌≡◌, sym, ap, subst, ◌∙◌}
use mathlib.Core.Bool.{true, false, cond, false≢true}
use mathlib.Core.List.{List, ◌++◌}
use lib.ListN.{length, take, drop, take-append-drop}
use borrow.Author.Tests.{le-ltb}
use Rattle.theory.specs.Terms.{Terms}
use Rattle.theory.specs.Moment.{Relations}
use Rattle.memory.specs.Layout.{terms_words, state_words, terms_of, state_of, words_of}
use Rattle.memory.specs.Checks.{good_memory, good_state}
use Rattle.theory.specs.Tables.{opening}
use Rattle.memory.proofs.Inside.{state_inside}
use Rattle.file.specs.File.{File, state_said}
use Rattle.file.specs.Reading.{reading}
use Rattle.file.specs.Reading.Reading.{accepted}
use Rattle.file.specs.Writing.{written}
use Rattle.reader.specs.Memory.{memory_of}
use Rattle.reader.specs.Read.{read_terms}
use Rattle.text.specs.Text.{beginning, read_state}
use Rattle.writer.specs.Write.{written_text, is_fresh}
use Rattle.writer.proofs.FreshStart.{fresh_words}
use Rattle.file.proofs.Accepted.{Accepted, accepted_good}
use Rattle.file.proofs.Reread.{reread}
use Rattle.text.proofs.AlikeWords.{words_alike}
use Rattle.file.proofs.AlikeText.{written_alike}
use Rattle.reader.proofs.TermsMemory.{memory_good}
use Rattle.text.proofs.TidyTerms.{tidied, tidied_alike, tidied_good, tidied_tidy, tidied_words}

-- What reading an accepted text leaves.
module _ (text : List ℕ) (f : File) (e : reading text ≡ accepted f) (terms state : List ℕ)
    (tl : terms_words ≤ length terms) (sl : state_words ≤ length state)
  where
    pub read-terms : read_terms text terms state ≡ memory_of f.terms ++ drop terms_words terms
    unfolding read_terms
    read-terms = rw (le-ltb (length terms) terms_words tl, le-ltb (length state) state_words sl, e)

    pub read-state : read_state text terms state ≡ words_of f.terms (beginning f) ++ drop state_words state
    unfolding read_state
    read-state = rw (le-ltb (length terms) terms_words tl, le-ltb (length state) state_words sl, e)

-- Memory is good exactly when some accepted text yields its named words.
pub yields : (w : List ℕ) → terms_words ≤ length w →
    (good_memory w ≡ true → (text : List ℕ) × (f : File) × (reading text ≡ accepted f) × (memory_of f.terms ≡ take terms_words w))
    × ((text : List ℕ) (f : File) → reading text ≡ accepted f → memory_of f.terms ≡ take terms_words w → good_memory w ≡ true)
yields w long = (
  (λ g.
      let T : Terms = tidied (terms_of w) in
      let R : Relations = λ k a b. false in
      let r = reread T (tidied_good w g) (tidied_tidy w g) R (record { within = λ k a b e. absurd (false≢true e) }) in
      (written T R, r.0, r.1.accepts, ap memory_of r.1.terms ∙ tidied_words w g long)),
  (λ text f e m.
      let a : Accepted f = accepted_good text f e in
      let whole : memory_of f.terms ++ drop terms_words w ≡ w = ap (λ v. v ++ drop terms_words w) m ∙ take-append-drop terms_words w in
      subst (λ v. good_memory v ≡ true) whole (memory_good f.terms a.good a.tidy (drop terms_words w))),
)

-- What was written of good memory is accepted as a text of the old form, and reading it gives the same words of terms,
-- and the state of moment 0 of the same relations.
pub reread_memory : (terms state : List ℕ) → terms_words ≤ length terms → good_memory terms ≡ true → good_state (terms_of terms) state ≡ true →
    (f : File) × (reading (written_text terms state) ≡ accepted f) × (f.stored ≡ false)
    × (memory_of f.terms ≡ take terms_words terms)
    × (f.edges ≡ (state_of state).now.edge)
    × ((terms' state' : List ℕ) → terms_words ≤ length terms' → state_words ≤ length state' →
    (read_terms (written_text terms state) terms' state' ≡ take terms_words terms ++ drop terms_words terms')
    × (read_state (written_text terms state) terms' state'
    ≡ words_of (terms_of terms) (opening (terms_of terms) (state_of state).now.edge) ++ drop state_words state'))
unfolding written_text
reread_memory terms state long g h =
    let U : Terms = terms_of terms in
    let T : Terms = tidied U in
    let R : Relations = (state_of state).now.edge in
    let r = reread T (tidied_good terms g) (tidied_tidy terms g) R (record { within = (state_inside U state h).edges }) in
    let f : File = r.0 in
    let e : reading (written_text terms state) ≡ accepted f = ap reading (written_alike U T (tidied_alike U) R) ∙ r.1.accepts in
    let m : memory_of f.terms ≡ take terms_words terms = ap memory_of r.1.terms ∙ tidied_words terms g long in (
      f,
      e,
      r.1.form_read,
      m,
      r.1.edges,
      (λ terms' state' tl sl. (
        read-terms (written_text terms state) f e terms' state' tl sl ∙ ap (λ v. v ++ drop terms_words terms') m,
        read-state (written_text terms state) f e terms' state' tl sl
            ∙ ap (λ b. words_of f.terms (cond b (state_said f) (opening f.terms f.edges)) ++ drop state_words state') r.1.form_read
            ∙ (λ d. words_of (r.1.terms d) (opening (r.1.terms d) (r.1.edges d)) ++ drop state_words state')
            ∙ ap (λ v. v ++ drop state_words state') (sym (words_alike U T (tidied_alike U) R)),
      )),
    )

-- Where the old form is written, from a fresh start, reading it gives the same words of the state too.
pub reread_fresh : (terms state : List ℕ) → terms_words ≤ length terms → state_words ≤ length state → good_memory terms ≡ true → good_state (terms_of terms) state ≡ true →
    is_fresh terms state ≡ true → (terms' state' : List ℕ) → terms_words ≤ length terms' → state_words ≤ length state' →
    (read_terms (written_text terms state) terms' state' ≡ take terms_words terms ++ drop terms_words terms')
    × (read_state (written_text terms state) terms' state' ≡ take state_words state ++ drop state_words state')
reread_fresh terms state tl sl g h fresh terms' state' tl' sl' =
    let r = reread_memory terms state tl g h in
    let w = r.5 terms' state' tl' sl' in
    (w.0, w.1 ∙ ap (λ v. v ++ drop state_words state') (sym (fresh_words terms state sl fresh)))
