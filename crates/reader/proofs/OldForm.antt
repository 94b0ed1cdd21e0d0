-- Texts of the old form: an accepted text is one where its first line is no S line. And the ways that reading one into
-- lent memory goes.
use Prim.Native.Nat.{ℕ, ◌≤◌, ◌<◌}
use native.Mathlib.Omega.{arith}
use mathlib.Core.Path.{◌≡◌, refl, sym, ap, ◌∙◌}
use mathlib.Core.Logic.{◌⊎◌, inl, inr, ⊎_elim}
use mathlib.Core.Bool.{Bool, true, false, cond, true≢false}
use mathlib.Core.List.{List, ◌++◌}
use lib.ListN.{length, take, drop}
use lib.Seq.{take-append-le, length-take-le}
use borrow.Author.Tests.{eqb-true, lt-ltb, le-ltb}
use Rattle.memory.specs.Layout.{terms_words, state_words, relation_words, words_of}
use Rattle.memory.proofs.Words.{length_words}
use Rattle.fields.specs.Split.{split, lines}
use Rattle.fields.specs.Split.Lines.{done, cut, line}
use Rattle.file.specs.Line.{parsed}
use Rattle.file.specs.File.{File, state_said, after_line}
use Rattle.file.specs.Said.{said_lines, form_in, stored_said}
use Rattle.file.specs.Reading.{tests, reading}
use Rattle.file.specs.Reading.Reading.{accepted, refused}
use Rattle.file.specs.declared.line.Line.{Line}
use Rattle.file.proofs.Printed.Ranged.{members, labels, entry, policy, effect, edge, form, bit, pair, event, mark}
use Rattle.file.proofs.Derivation.{passed_at, Taken, reading_accepting}
use Rattle.file.proofs.Derivation.Taken.{none, one}
use Rattle.file.proofs.Said.{said}
use Rattle.reader.specs.Read.{Filling, filling, fill_gives, read_terms, read_words}
use Rattle.reader.specs.Read.Filling.{old, stored, refused as refusedFilling}
use Rattle.reader.specs.OldForm.{begins_stored, old_reading, old_fill_gives, old_terms, old_relations}
use Rattle.reader.proofs.Ended.{Unrefused, was_refused, was_accepted}

-- ---- the first line says which form a text has

-- An S line comes before all others.
no_form : {f g : File} {ls : List Line} → Taken f ls g → (0 < f.phase) ⊎ (stored_said (take 1 ls) ≡ false) → stored_said ls ≡ false
unfolding stored_said tests after_line
no_form none h = refl
no_form (one (members i) p t) h = no_form t (inl (omega arith))
no_form (one (labels i j) p t) h = no_form t (inl (omega arith))
no_form (one (entry i j k l m n) p t) h = no_form t (inl (omega arith))
no_form (one (policy i j) p t) h = no_form t (inl (omega arith))
no_form (one (effect i j k l m) p t) h = no_form t (inl (omega arith))
no_form (one (edge i j k) p t) h = no_form t (inl (omega arith))
no_form {f} (one (form i) p t) h = absurd (⊎_elim (λ l. omega (arith, eqb-true f.phase 0 (passed_at p 0))) (λ e. true≢false e) h)
no_form (one (bit i j k) p t) h = no_form t (inl (omega arith))
no_form (one (pair i j k l) p t) h = no_form t (inl (omega arith))
no_form (one (event i j k) p t) h = no_form t (inl (omega arith))
no_form (one (mark i) p t) h = no_form t (inl (omega arith))

module _ (text : List ℕ) (f : File) where
  old_form : begins_stored text ≡ false → reading text ≡ accepted f → f.stored ≡ false
  unfolding begins_stored
  old_form h e = sym (said text f e).form ∙ no_form (reading_accepting text f e).taken (inr h)

  -- A text that is accepted as one of the old form is an accepted text, and is one of the old form.
  pub old_accepted : old_reading text ≡ accepted f → (reading text ≡ accepted f) × (f.stored ≡ false)
  unfolding old_reading
  old_accepted e = go (begins_stored text) refl e
    where
      go : (b : Bool) → begins_stored text ≡ b → cond b (refused 1 1) (reading text) ≡ accepted f → (reading text ≡ accepted f) × (f.stored ≡ false)
      go true h e = let z : ◌≡◌ {A = ℕ} 0 1 = cc in absurd (omega arith)
      go false h e = (e, old_form h e)

-- The first line.
module _ (text : List ℕ) where
  pub begins_none : lines text ≡ done → false ≡ begins_stored text
  unfolding begins_stored said_lines stored_said
  begins_none h = rw h refl

  pub begins_cut : lines text ≡ cut text → false ≡ begins_stored text
  unfolding begins_stored said_lines stored_said
  begins_cut h = rw h refl

  pub begins_line : (b rest : List ℕ) → lines text ≡ line b (lines rest) → (l : Line) → l ≡ parsed (split 9 b) → form_in l false ≡ begins_stored text
  unfolding begins_stored said_lines stored_said
  begins_line b rest h l q = rw (q, h) refl

-- ---- the ways that filling terms and relations goes

module _ (text terms relations : List ℕ) where
  -- What it gives and leaves.
  abbrev Leaves : Filling → (terms' relations' : List ℕ) → Type 0
  Leaves o terms' relations' =
      (o ≡ old_fill_gives text terms relations) × ((terms' ≡ old_terms text terms relations) × (relations' ≡ old_relations text terms relations))

  pub short_terms : length terms < terms_words → Leaves (refusedFilling 6 0) terms relations
  unfolding old_fill_gives old_terms old_relations
  short_terms h = let e = lt-ltb (length terms) terms_words h in (rw e, (rw e, rw e))

  module _ (tl : terms_words ≤ length terms) where
    pub short-relations : length relations < relation_words → Leaves (refusedFilling 6 0) terms relations
    unfolding old_fill_gives old_terms old_relations
    short-relations h =
        let e = le-ltb (length terms) terms_words tl in
        let d = lt-ltb (length relations) relation_words h in
        (rw (e, d), (rw (e, d), rw (e, d)))

    module _ (rl : relation_words ≤ length relations) where
      refuses : (k n : ℕ) → old_reading text ≡ refused k n → Leaves (refusedFilling k n) terms relations
      unfolding old_fill_gives old_terms old_relations
      refuses k n r =
          let e = le-ltb (length terms) terms_words tl in
          let d = le-ltb (length relations) relation_words rl in
          (rw (e, d, r), (rw (e, d, r), rw (e, d, r)))

      pub form_refused : true ≡ begins_stored text → Leaves (refusedFilling 1 1) terms relations
      unfolding old_reading
      form_refused h = refuses 1 1 (rw (← h) refl)

      -- The text is read into the terms and into a state.
      module _ (state : List ℕ) (sl : state_words ≤ length state) (h : false ≡ begins_stored text) where
        given : fill_gives text terms state ≡ filling (reading text)
        unfolding fill_gives
        given = rw (le-ltb (length terms) terms_words tl, le-ltb (length state) state_words sl)

        pub text_refused : (k n : ℕ) → refusedFilling k n ≡ fill_gives text terms state → (terms' : List ℕ) → terms' ≡ read_terms text terms state →
            Leaves (refusedFilling k n) terms' relations
        unfolding old_reading read_terms
        text_refused k n g terms' t =
            let r : reading text ≡ refused k n = was_refused (reading text) k n (sym (g ∙ given)) in
            let as_lent : terms' ≡ terms = t ∙ rw (le-ltb (length terms) terms_words tl, le-ltb (length state) state_words sl, r) in
            let q = refuses k n (rw (← h, r)) in
            (q.0, (as_lent ∙ q.1.0, q.1.1))

        module _ (f : File) (r : reading text ≡ accepted f) where
          abbrev words : List ℕ
          words = words_of f.terms (state_said f)

          front : relation_words ≤ length words
          front = omega (arith, length_words f.terms (state_said f))

          accepts : (o : Filling) → o ≡ fill_gives text terms state → (terms' state' relations' : List ℕ) →
              terms' ≡ read_terms text terms state → state' ≡ read_words text terms state →
              relations' ≡ take relation_words state' ++ drop (length (take relation_words state')) relations → Leaves o terms' relations'
          unfolding old_fill_gives old_reading old_terms old_relations read_terms read_words
          accepts o g terms' state' relations' t s c =
              let e = le-ltb (length terms) terms_words tl in
              let d = le-ltb (length relations) relation_words rl in
              let z = le-ltb (length state) state_words sl in
              let whole : state' ≡ words ++ drop state_words state = s ∙ rw (e, z, r) in
              let part : take relation_words state' ≡ take relation_words words =
              ap (take relation_words) whole ∙ take-append-le relation_words words (drop state_words state) front in (
                rw (e, d, ← h, r) (g ∙ given ∙ ap filling r ∙ ap (λ (b : Bool). cond b stored old) (old_form text f (sym h) r)),
                (
                  rw (e, d, ← h, r) (t ∙ rw (e, z, r)),
                  rw (e, d, ← h, r) (c ∙ ap (λ (w : List ℕ). w ++ drop (length w) relations) part
                      ∙ ap (λ (i : ℕ). take relation_words words ++ drop i relations) (length-take-le relation_words words front)),
                ),
              )

        -- The words of its relations are copied to the front of the lent ones.
        pub text_accepted : (o : Filling) → o ≡ fill_gives text terms state → Unrefused o → (terms' state' relations' : List ℕ) →
            terms' ≡ read_terms text terms state → state' ≡ read_words text terms state →
            relations' ≡ take relation_words state' ++ drop (length (take relation_words state')) relations → Leaves o terms' relations'
        text_accepted o g u = let a = was_accepted (reading text) o (g ∙ given) u in accepts a.0 a.1 o g

-- Either memory is too short.
module _ (text terms relations : List ℕ) where
  pub short_memory : (length terms < terms_words) ⊎ ((terms_words ≤ length terms) × (length relations < relation_words))
      → Leaves text terms relations (refusedFilling 6 0) terms relations
  short_memory h = ⊎_elim (λ l. short_terms text terms relations l) (λ p. short-relations text terms relations p.0 p.1) h
