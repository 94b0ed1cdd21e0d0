-- Over lent memory: writing what reading an accepted text left, in the text's own form, gives the text in its normal
-- form, where the output has room; a plain text byte by byte.
use Prim.Native.Nat.{ℕ, ◌≤◌, ◌<◌}
use native.Mathlib.Omega.{arith}
use mathlib.Core.Path.{◌≡◌, sym, ap, subst, ◌∙◌}
use mathlib.Core.Bool.{true, false, cond}
use mathlib.Core.List.{List, ◌++◌}
use lib.ListN.{length, get_or, drop, get_or-append}
use borrow.Author.Tests.{eq-eqb, le-ltb}
use Rattle.sets.proofs.Finite.{all_true}
use Rattle.theory.specs.Terms.{Terms}
use Rattle.theory.specs.Moment.{Relations}
use Rattle.theory.specs.Tables.{State, opening}
use Rattle.memory.specs.Layout.{terms_words, state_words, terms_of, state_of, word_at, words_of}
use Rattle.memory.specs.Outcome.Outcome.{passed}
use Rattle.memory.proofs.Row.{get_d_tabulate}
use Rattle.memory.proofs.Words.{length_words}
use Rattle.file.specs.File.{File, state_said}
use Rattle.file.specs.Reading.{reading}
use Rattle.file.specs.Reading.Reading.{accepted}
use Rattle.file.specs.Writing.{written, stored}
use Rattle.file.specs.Normal.{normal_text, is_plain}
use Rattle.file.proofs.AlikeText.{written_alike, stored_alike}
use Rattle.file.proofs.Rewritten.{rewritten, normal_plain, normal_accepted}
use Rattle.reader.specs.Memory.{memory_of}
use Rattle.reader.proofs.StateMemory.{filled_alike, checked}
use Rattle.reader.specs.Read.{read_gives, read_terms}
use Rattle.writer.specs.Write.{written_text, is_fresh, write_gives, old_write_gives, old_write_leaves, stored_text, store_gives, store_leaves}
use Rattle.writer.specs.Write.Writing.{bytes}
use Rattle.writer.proofs.OldForm.{write_fresh}
use Rattle.text.specs.Text.{beginning, read_state, Back}
use Rattle.text.proofs.MomentZero.{read_opened, begun_like, same_opened, edges_back, begun_checked}
use Rattle.text.proofs.Reloaded.{placed_state}
use Rattle.text.proofs.AcceptedMemory.{read-terms, read-state}

module _ (text : List ℕ) (f : File) (e : reading text ≡ accepted f) (terms state : List ℕ) (tl : terms_words ≤ length terms) (sl : state_words ≤ length state) where
  read_done : read_gives text terms state ≡ passed
  unfolding read_gives
  read_done = rw (le-ltb (length terms) terms_words tl, le-ltb (length state) state_words sl, e)

  abbrev T : Terms
  T = f.terms

  abbrev m : List ℕ
  m = memory_of T ++ drop terms_words terms

  abbrev U : Terms
  U = terms_of m

  -- ---- the old form

  module _ (form : f.stored ≡ false) where
    abbrev opened : List ℕ
    opened = words_of T (opening T f.edges) ++ drop state_words state

    opened_word : (i : ℕ) → i < state_words → get_or opened i 0 ≡ word_at U (opening U (state_of opened).now.edge) i
    unfolding words_of
    opened_word i l =
        let S : State = opening U f.edges in
        ap (λ w. get_or w i 0) (same_opened text f e form terms state tl sl)
        ∙ get_or-append (words_of U S) (drop state_words state) 0 i (omega (arith, length_words U S))
        ∙ get_d_tabulate state_words (word_at U S) i l
        ∙ ap (λ (R : Relations). word_at U (opening U R) i) (sym (edges_back text f e form terms state tl sl))

    fresh : is_fresh m opened ≡ true
    unfolding is_fresh
    fresh = all_true state_words (λ i l. eq-eqb _ _ (opened_word i l))

    text_back : written_text m opened ≡ normal_text text
    unfolding written_text
    text_back =
        ap (written U) (edges_back text f e form terms state tl sl)
        ∙ sym (written_alike T U (begun_like text f e form terms state tl sl) f.edges)
        ∙ sym (ap (λ b. cond b (stored T (state_said f)) (written T f.edges)) form) ∙ rewritten text f e

    module _ (out : List ℕ) (room : length (normal_text text) ≤ length out) where
      write-gives : old_write_gives m opened out ≡ bytes (length (normal_text text))
      unfolding write_gives
      write-gives =
          let c = begun_checked text f e form terms state tl sl in
          write_fresh m opened out c fresh ∙ rw (sym c, text_back, le-ltb (length out) (length (normal_text text)) room)

      write_leaves : old_write_leaves m opened out ≡ normal_text text ++ drop (length (normal_text text)) out
      unfolding old_write_leaves
      write_leaves = rw (write-gives, text_back)

      returned_old : Back old_write_gives old_write_leaves text terms state out (normal_text text)
      returned_old =
          rw (read-terms text f e terms state tl sl, read_opened text f e form terms state tl sl) (read_done, write-gives, write_leaves)

  -- ---- the stored form

  module _ (form : f.stored ≡ true) where
    abbrev said : List ℕ
    said = words_of T (state_said f) ++ drop state_words state

    read_said : read_state text terms state ≡ said
    read_said =
        read-state text f e terms state tl sl ∙ ap (λ b. words_of T (cond b (state_said f) (opening T f.edges)) ++ drop state_words state) form

    stored_back : stored_text m said ≡ normal_text text
    unfolding stored_text
    stored_back =
        ap (stored U) (placed_state text f e state)
        ∙ sym (stored_alike T U (filled_alike text f e terms state sl) (state_said f))
        ∙ sym (ap (λ b. cond b (stored T (state_said f)) (written T f.edges)) form) ∙ rewritten text f e

    module _ (out : List ℕ) (room : length (normal_text text) ≤ length out) where
      store-gives : store_gives m said out ≡ bytes (length (normal_text text))
      unfolding store_gives
      store-gives = rw (checked text f e terms state sl, stored_back, le-ltb (length out) (length (normal_text text)) room)

      store-leaves : store_leaves m said out ≡ normal_text text ++ drop (length (normal_text text)) out
      unfolding store_leaves
      store-leaves = rw (store-gives, stored_back)

      returned_said : Back store_gives store_leaves text terms state out (normal_text text)
      returned_said = rw (read-terms text f e terms state tl sl, read_said) (read_done, store-gives, store-leaves)

-- For every accepted text of the old form and all lent memory that is long enough: reading is done, writing over
-- what reading left gives the count of the bytes of the text's normal form, and leaves that in the output, with
-- its further bytes as they were.
pub returned : (text : List ℕ) (f : File) → reading text ≡ accepted f → f.stored ≡ false → (terms state out : List ℕ) →
    terms_words ≤ length terms → state_words ≤ length state → length (normal_text text) ≤ length out →
    (read_gives text terms state ≡ passed)
    × (old_write_gives (read_terms text terms state) (read_state text terms state) out ≡ bytes (length (normal_text text)))
    × (old_write_leaves (read_terms text terms state) (read_state text terms state) out ≡ normal_text text ++ drop (length (normal_text text)) out)
returned text f e form terms state out tl sl room = returned_old text f e terms state tl sl form out room

-- The same of the stored form, and storing.
pub returned_stored : (text : List ℕ) (f : File) → reading text ≡ accepted f → f.stored ≡ true → (terms state out : List ℕ) →
    terms_words ≤ length terms → state_words ≤ length state → length (normal_text text) ≤ length out →
    (read_gives text terms state ≡ passed)
    × (store_gives (read_terms text terms state) (read_state text terms state) out ≡ bytes (length (normal_text text)))
    × (store_leaves (read_terms text terms state) (read_state text terms state) out ≡ normal_text text ++ drop (length (normal_text text)) out)
returned_stored text f e form terms state out tl sl room = returned_said text f e terms state tl sl form out room

-- A text without a padded number is returned byte by byte, in either form.
pub returned_same : (text : List ℕ) (f : File) → reading text ≡ accepted f → is_plain text ≡ true → (terms state out : List ℕ) →
    terms_words ≤ length terms → state_words ≤ length state → length text ≤ length out →
    (f.stored ≡ false → Back old_write_gives old_write_leaves text terms state out text) × (f.stored ≡ true → Back store_gives store_leaves text terms state out text)
returned_same text f e p terms state out tl sl room =
    let n : normal_text text ≡ text = normal_plain text p in
    let long : length (normal_text text) ≤ length out = subst (λ t. length t ≤ length out) (sym n) room in (
      (λ form. subst (Back old_write_gives old_write_leaves text terms state out) n (returned text f e form terms state out tl sl long)),
      (λ form. subst (Back store_gives store_leaves text terms state out) n (returned_stored text f e form terms state out tl sl long)),
    )

-- The normal form of an accepted text is accepted, and gives the same words of terms and state.
pub normal_words : (text : List ℕ) (f : File) → reading text ≡ accepted f → (terms state : List ℕ) →
    terms_words ≤ length terms → state_words ≤ length state →
    (read_gives (normal_text text) terms state ≡ passed)
    × (read_terms (normal_text text) terms state ≡ read_terms text terms state)
    × (read_state (normal_text text) terms state ≡ read_state text terms state)
normal_words text f e terms state tl sl =
    let n = normal_accepted text f e in
    let g : File = n.0 in
    let u = n.1 in
    let same : beginning g ≡ beginning f = λ d. cond (u.form d) (record { now = record { edge = u.edges d; event = u.last d }; table = u.table d }) (opening (u.terms d) (u.edges d)) in (
      read_done (normal_text text) g u.accepts terms state tl sl,
      read-terms (normal_text text) g u.accepts terms state tl sl
          ∙ ap (λ (T : Terms). memory_of T ++ drop terms_words terms) u.terms
          ∙ sym (read-terms text f e terms state tl sl),
      read-state (normal_text text) g u.accepts terms state tl sl
          ∙ (λ d. words_of (u.terms d) (same d) ++ drop state_words state)
          ∙ sym (read-state text f e terms state tl sl),
    )
