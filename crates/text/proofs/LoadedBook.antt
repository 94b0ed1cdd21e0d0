-- Lent memory that holds what a book says, stored and loaded again into other memory. What is loaded again is as good
-- as what was stored, also where there is no record.
use Prim.Native.Nat.{ℕ, ◌≤◌, ◌<◌}
use native.Mathlib.Omega.{arith}
use mathlib.Core.Path.{◌≡◌, refl, sym, ap, subst, subst₂, ◌∙◌}
use mathlib.Core.Bool.{Bool, true, false}
use mathlib.Core.List.{List, ◌++◌}
use lib.Dec.{ltb}
use lib.ListN.{length, get_or, take, drop, length-append, length-drop, get_or-append}
use lib.Seq.{take_at, get_or-take, length-take-le}
use Rattle.theory.specs.Terms.{Terms, Alike}
use Rattle.theory.specs.Keeper.{Book}
use Rattle.theory.proofs.AlikeTerms.{alike_trans, kept_alike}
use Rattle.memory.specs.Layout.{terms_words, state_words, terms_of, state_of}
use Rattle.memory.specs.Checks.{good_memory}
use Rattle.memory.specs.Outcome.{Outcome, checks}
use Rattle.memory.specs.Outcome.Outcome.{passed, refused}
use Rattle.memory.proofs.Accepted.{good}
use Rattle.memory.proofs.Inside.{state_inside}
use Rattle.memory.proofs.Front.{good_cong}
use Rattle.memory.proofs.Outcomes.{Checked, passed_checked}
use Rattle.calls.proofs.MemoryInvariant.{Held, held_words}
use Rattle.calls.proofs.Demand.{Playing}
use Rattle.file.specs.File.{File}
use Rattle.file.proofs.Accepted.{Accepted, accepted_good}
use Rattle.reader.specs.Memory.{memory_of}
use Rattle.reader.specs.Read.{read_terms}
use Rattle.reader.proofs.StateMemory.{state_alike as good_alike}
use Rattle.reader.proofs.TermsMemory.{length_memory, memory_alike, memory_good}
use Rattle.writer.specs.Write.{stored_text, store_gives, store_leaves, fitted, filled_out}
use Rattle.writer.specs.Write.Writing.{bytes}
use Rattle.text.specs.Text.{read_state}
use Rattle.text.specs.Recorded.{loaded}
use Rattle.text.proofs.AlikeWords.{state_alike, inside_alike}
use Rattle.text.proofs.TidyTerms.{tidied_alike}
use Rattle.text.proofs.AcceptedMemory.{read-terms}
use Rattle.text.proofs.SameAnswers.{Twins}
use Rattle.text.proofs.Reloaded.{Reloaded, reloaded, reread_stored_memory, named_words}

-- ---- stored and loaded again

-- What was stored.
was_stored : (o : Outcome) (c : Bool) (k n : ℕ) → fitted c k o ≡ bytes n → (passed ≡ o) × (k ≡ n)
was_stored passed true k n e = let z : ◌≡◌ {A = ℕ} 0 1 = cc in absurd (omega arith)
was_stored passed false k n e = (refl, cc)
was_stored (refused i j) c k n e = let z : ◌≡◌ {A = ℕ} 0 1 = cc in absurd (omega arith)

module _ (m s out : List ℕ) (n : ℕ) (e : store_gives m s out ≡ bytes n) where
  passed_so : (passed ≡ checks m s) × (length (stored_text m s) ≡ n)
  unfolding store_gives
  passed_so = was_stored (checks m s) (ltb (length out) (length (stored_text m s))) (length (stored_text m s)) n e

  pub text_stored : take n (store_leaves m s out) ≡ stored_text m s
  unfolding store_leaves
  text_stored =
      ap (λ w. take n (filled_out (stored_text m s) out w)) e
      ∙ take_at (stored_text m s) (drop (length (stored_text m s)) out) n passed_so.1

  -- Into any memory.
  module _ (terms state : List ℕ) (tl' : terms_words ≤ length terms) (sl' : state_words ≤ length state) where
    checked : Checked m s
    checked = passed_checked m s passed_so.0

    abbrev U : Terms
    U = terms_of m

    abbrev m' : List ℕ
    m' = take terms_words m ++ drop terms_words terms

    f : File
    f = (reloaded m s checked.long_terms checked.long_state checked.good_terms checked.good-state).0

    r : Reloaded m s f
    unfolding f
    r = (reloaded m s checked.long_terms checked.long_state checked.good_terms checked.good-state).1

    again : (read_terms (stored_text m s) terms state ≡ m') × (read_state (stored_text m s) terms state ≡ take state_words s ++ drop state_words state)
    again = reread_stored_memory m s checked.long_terms checked.long_state checked.good_terms checked.good-state terms state tl' sl'

    filled_is : memory_of f.terms ++ drop terms_words terms ≡ m'
    filled_is = sym (read-terms (stored_text m s) f r.accepts terms state tl' sl') ∙ again.0

    accepts : Accepted f
    accepts = accepted_good (stored_text m s) f r.accepts

    good' : good_memory m' ≡ true
    good' = subst (λ w. good_memory w ≡ true) filled_is (memory_good f.terms accepts.good accepts.tidy (drop terms_words terms))

    like' : Alike U (terms_of m')
    like' =
        alike_trans (tidied_alike U) (subst₂ (λ (T : Terms) (w : List ℕ). Alike T (terms_of w)) r.terms_are filled_is
        (memory_alike f.terms accepts.good accepts.tidy (drop terms_words terms)))

    abbrev s' : List ℕ
    s' = take state_words s ++ drop state_words state

    long' : terms_words ≤ length m'
    long' = omega (arith, ap length filled_is, length-append (memory_of f.terms) (drop terms_words terms), length_memory f.terms)

    words' : (i : ℕ) → i < state_words → get_or s i 0 ≡ get_or s' i 0
    words' i h =
        sym (get_or-take state_words s i 0 h)
        ∙ sym (get_or-append (take state_words s) (drop state_words state) 0 i (omega (arith, length-take-le state_words s checked.long_state)))

    -- The memory has the same named words, and passes the checks.
    pub loaded_twins : Twins m s (read_terms (stored_text m s) terms state) (read_state (stored_text m s) terms state)
    loaded_twins = subst₂ (Twins m s) (sym again.0) (sym again.1) (record {
      checked = checked;
      other = record {
        long_terms = long';
        long_state = omega (arith, length-append (take state_words s) (drop state_words state), length-take-le state_words s checked.long_state, length-drop state_words state);
        good_terms = good';
        good-state = sym (good_alike U (terms_of m') like' s') ∙ sym (good_cong s s' words' U (good m checked.good_terms)) ∙ checked.good-state;
      };
      like = like';
      words = words';
    })

    -- So it holds what the first one's record says.
    module _ (B : Book) (m₀ : List ℕ) (l : Playing B (record { terms = m; state = s; before = m₀ })) where
      pub loaded_again : Playing B (loaded (stored_text m s) terms state)
      loaded_again = subst₂ (λ (x y : List ℕ). Playing B (record { terms = x; state = y; before = state })) (sym again.0) (sym again.1) (record {
        like = alike_trans l.like like';
        long = long';
        good-memory = good';
        room = sl';
        held = subst (λ (w : List ℕ). Held (terms_of m') B.start (good m' good') state (w ++ drop state_words state) B.moments)
            (sym (state_alike U (terms_of m') like' (state_of s)) ∙ named_words U (good m checked.good_terms).few_members s checked.long_state checked.good-state)
            (held_words (terms_of m') B.start (good m' good') state state sl' refl refl (state_of s) B.moments
            (kept_alike U (terms_of m') like' B.start (state_of s) B.moments l.held.kept)
            (inside_alike U (terms_of m') like' (state_of s).now (state_inside U s checked.good-state)));
      })
