-- Writing what an accepted text says, in its own form, gives the text in its normal form; of a
-- plain text that is the text itself.
use Prim.Native.Nat.{ℕ, ◌+◌}
use mathlib.Core.Path.{◌≡◌, refl, sym, ap, ap₂, fun_ext, ◌∙◌}
use mathlib.Core.Logic.{⊎_elim}
use mathlib.Core.List.{List, [], ◌∷◌, ◌++◌, map}
use mathlib.Core.Bool.{Bool, true, false, cond, not, ◌&&◌}
use native.Mathlib.Omega.{arith}
use borrow.Author.Tests.{not-true}
use Rattle.sets.proofs.Finite.{true_or_false, and_left, and_right, and_both}
use Rattle.theory.specs.Terms.{Terms}
use Rattle.theory.specs.Tables.{State}
use Rattle.fields.specs.Split.{Lines, split, join, lines, unlines}
use Rattle.fields.specs.Split.Lines.{done, cut, line}
use Rattle.file.specs.Line.{parsed}
use Rattle.file.specs.File.{File, state_said, nothing, after_line}
use Rattle.file.specs.Reading.{tests, read_on, reading}
use Rattle.file.specs.Reading.Reading.{accepted}
use Rattle.file.specs.Said.{said_lines}
use Rattle.file.specs.Writing.{all_lines, stored_lines, printed_all, written, stored, text_said}
use Rattle.file.specs.Normal.{normal_field, normal_line, normal_lines, normal_text, plain_fields, plain_lines, is_plain, Unpadded}
use Rattle.file.specs.declared.line.Line.{Line}
use Rattle.fields.specs.Number.{is_number, value_of, digits, padded}
use Rattle.fields.proofs.Split.{join_split, unlines_lines}
use Rattle.fields.proofs.Digits.{digits_value_of, digits_number, digits_unpadded}
use Rattle.fields.proofs.Numeral.{value_small}
use Rattle.file.proofs.Plain.{lines_of, lines_printed}
use Rattle.file.proofs.Printed.{split_ranged}
use Rattle.file.proofs.Derivation.{tried_accepted, passed_formed, reading_read, reading_accepting}
use Rattle.file.proofs.Invariant.{going_first, going_on}
use Rattle.file.proofs.Accepted.{accepted_good, accepted_level}
use Rattle.file.proofs.Reread.{reread, reread_stored}
use Rattle.file.proofs.LinesSoFar.{lines_said, lines_more, first_none, all_said}

-- ---- an accepted text printed anew

lines_anew : (f : File) (n : ℕ) (ls : Lines) (g : File) → read_on f n ls ≡ accepted g → printed_all (said_lines ls) ≡ unlines (normal_lines ls)
unfolding read_on said_lines printed_all unlines normal_lines
lines_anew f n done g e = refl
lines_anew f n (cut l) g e = let z : ◌≡◌ {A = ℕ} 0 1 = cc in absurd (omega arith)
lines_anew f n (line l r) g e =
    let t = tried_accepted (tests f (parsed (split 9 l))) n (read_on (after_line f (parsed (split 9 l))) (n + 1) r) g e in
    ap₂ (λ (s u : List ℕ). s ++ (10 ∷ u)) (ap (join 9) (passed_formed f (split 9 l) t.0).fields)
    (lines_anew (after_line f (parsed (split 9 l))) (n + 1) r g t.1)

-- ---- a plain text is its own normal form

fields_plain : (fs : List (List ℕ)) → plain_fields fs ≡ true → map normal_field fs ≡ fs
unfolding plain_fields
fields_plain [] h = refl
fields_plain (f ∷ fs) h =
    ap₂ {C = List (List ℕ)} (λ g gs. g ∷ gs)
    (⊎_elim
    (λ e. let p = not-true (is_number f && padded f) (and_left (not (is_number f && padded f)) _ h) in
    let u : padded f ≡ false = rw e at p in
    rw e (digits_value_of f e u))
    (λ e. rw e refl)
    (true_or_false (is_number f)))
    (fields_plain fs (and_right (not (is_number f && padded f)) _ h))

line_plain : (l : List ℕ) → plain_fields (split 9 l) ≡ true → normal_line l ≡ l
line_plain l h = ap (join 9) (fields_plain (split 9 l) h) ∙ join_split 9 l

lines_plain : (ls : Lines) → plain_lines ls ≡ true → normal_lines ls ≡ ls
unfolding plain_lines normal_lines
lines_plain done h = refl
lines_plain (cut l) h = ap cut (line_plain l h)
lines_plain (line l r) h =
    ap₂ line (line_plain l (and_left (plain_fields (split 9 l)) _ h)) (lines_plain r (and_right (plain_fields (split 9 l)) _ h))

pub normal_plain : (text : List ℕ) → is_plain text ≡ true → normal_text text ≡ text
unfolding is_plain normal_text
normal_plain text h = ap unlines (lines_plain (lines text) h) ∙ unlines_lines text

-- ---- a normal form is plain

field_normal : (f : List ℕ) → not (is_number (normal_field f) && padded (normal_field f)) ≡ true
field_normal f =
    ⊎_elim
    (λ e. let n : normal_field f ≡ digits (value_of f) = rw e refl in
    let h = value_small f e in
    rw (n, digits_number (value_of f) h, digits_unpadded (value_of f) h) refl)
    (λ e. let n : normal_field f ≡ f = rw e refl in rw n (rw e refl))
    (true_or_false (is_number f))

fields_normal : (fs : List (List ℕ)) → plain_fields (map normal_field fs) ≡ true
unfolding plain_fields
fields_normal [] = refl
fields_normal (f ∷ fs) = and_both _ _ (field_normal f) (fields_normal fs)

lines_normal : (f : File) (n : ℕ) (ls : Lines) (g : File) → read_on f n ls ≡ accepted g → plain_lines (lines_of (said_lines ls)) ≡ true
unfolding read_on said_lines lines_of plain_lines
lines_normal f n done g e = refl
lines_normal f n (cut l) g e = let z : ◌≡◌ {A = ℕ} 0 1 = cc in absurd (omega arith)
lines_normal f n (line l r) g e =
    let t = tried_accepted (tests f (parsed (split 9 l))) n (read_on (after_line f (parsed (split 9 l))) (n + 1) r) g e in
    let p = passed_formed f (split 9 l) t.0 in
    and_both _ _
    (ap plain_fields (split_ranged p.ranged ∙ p.fields) ∙ fields_normal (split 9 l))
    (lines_normal (after_line f (parsed (split 9 l))) (n + 1) r g t.1)

-- ---- the theorems

text_lines : (b : Bool) (T : Terms) (S : State)
    → cond b (stored T S) (written T S.now.edge) ≡ printed_all (cond b (stored_lines T S) (all_lines T S.now.edge))
unfolding stored written
text_lines true T S = refl
text_lines false T S = refl

module _ (text : List ℕ) (f : File) (e : reading text ≡ accepted f) where
  -- The lines of an accepted text are the lines of what it says.
  lines-said : lines_said f ≡ said_lines (lines text)
  lines-said =
      let a = reading_accepting text f e in
      sym (all_said f a.whole (going_on a.taken going_first))
      ∙ lines_more a.taken going_first
      ∙ ap (λ (ls : List Line). ls ++ said_lines (lines text)) first_none

  pub rewritten : text_said f ≡ normal_text text
  unfolding normal_text
  rewritten =
      text_lines f.stored f.terms (state_said f) ∙ ap printed_all lines-said ∙ lines_anew nothing 1 (lines text) f (reading_read text f e)

  pub rewritten_same : is_plain text ≡ true → text_said f ≡ text
  rewritten_same h = rewritten ∙ normal_plain text h

  -- Nothing that is written is padded.
  pub rewritten_plain : is_plain (normal_text text) ≡ true
  unfolding is_plain normal_text
  rewritten_plain =
      ap is_plain (sym (lines_anew nothing 1 (lines text) f (reading_read text f e)))
      ∙ ap plain_lines (lines_printed (said_lines (lines text)))
      ∙ lines_normal nothing 1 (lines text) f (reading_read text f e)

  -- The normal form is accepted too, its lines say the same, and so it gives the same form, terms and state.
  pub normal_accepted : (g : File) × Unpadded text f g
  normal_accepted =
      let a = accepted_good text f e in
      ⊎_elim
      (λ s. let r = reread_stored f.terms a.good a.tidy (state_said f)
      (record { edges = a.edges; bits = a.bits; last = a.last; level = accepted_level text f e }) in
      let z : stored f.terms (state_said f) ≡ normal_text text = rw s at rewritten in (
        r.0,
        record {
          accepts = ap reading (sym z) ∙ r.1.accepts;
          form = r.1.form_read ∙ sym s;
          terms = r.1.terms;
          edges = r.1.edges;
          table = r.1.table;
          last = r.1.last;
        },
      ))
      (λ s. let r = reread f.terms a.good a.tidy f.edges a.edges in
      let z : written f.terms f.edges ≡ normal_text text = rw s at rewritten in (
        r.0,
        record {
          accepts = ap reading (sym z) ∙ r.1.accepts;
          form = r.1.form_read ∙ sym s;
          terms = r.1.terms;
          edges = r.1.edges;
          table = r.1.table ∙ sym (fun_ext (λ t. fun_ext (λ m. fun_ext (λ o. a.old_bits s t m o))));
          last = r.1.last ∙ sym (a.old_last s);
        },
      ))
      (true_or_false f.stored)

-- The lines of the normal form say what the text's lines say.
pub normal_said : (text : List ℕ) (f : File) → reading text ≡ accepted f → said_lines (lines (normal_text text)) ≡ said_lines (lines text)
normal_said text f e =
    let n = normal_accepted text f e in
    let u = n.1 in
    let same : lines_said n.0 ≡ lines_said f = λ i. cond (u.form i)
    (stored_lines (u.terms i) (record { now = record { edge = u.edges i; event = u.last i }; table = u.table i }))
    (all_lines (u.terms i) (u.edges i)) in
    sym (lines-said (normal_text text) n.0 u.accepts) ∙ same ∙ lines-said text f e
