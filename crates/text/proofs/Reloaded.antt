-- What is stored of memory that passes the checks, read again into other memory: the very same
-- named words of terms and state.
use Prim.Native.Nat.{ℕ, ◌≤◌, ◌<◌}
use native.Mathlib.Omega.{arith}
use mathlib.Core.Path.{◌≡◌, refl, sym, ap, ◌∙◌}
use mathlib.Core.Bool.{Bool, true, false, cond, ◌&&◌, and-false}
use mathlib.Core.List.{List, ◌++◌}
use lib.Dec.{ltb}
use lib.ListN.{length, get_or, take, drop}
use lib.Seq.{take_at}
use borrow.Author.Tests.{ltb-true}
use Rattle.sets.specs.Sets.{bit}
use Rattle.theory.specs.Terms.{Terms, tables}
use Rattle.theory.specs.Columns as places
use Rattle.theory.specs.Tables.{State, opening}
use Rattle.theory.specs.Fit.{Good}
use Rattle.memory.specs.Layout.{terms_words, state_words, table_at, table_columns, terms_of, state_of, words_of}
use Rattle.memory.specs.Checks.{good_memory, good_state, Inside as InsideMoment}
use Rattle.memory.proofs.Accepted.{good}
use Rattle.memory.proofs.Front.{state_front}
use Rattle.memory.proofs.Words.{length_words, word_table, now_back, table_back, canonical}
use Rattle.file.specs.File.{File, state_said}
use Rattle.file.specs.Reading.{reading}
use Rattle.file.specs.Reading.Reading.{accepted}
use Rattle.file.proofs.Fit.{InsideTables}
use Rattle.file.proofs.Accepted.{accepted_good}
use Rattle.file.proofs.Reread.{reread_stored}
use Rattle.file.proofs.AlikeText.{stored_alike}
use Rattle.reader.specs.Memory.{memory_of}
use Rattle.reader.specs.Read.{read_terms}
use Rattle.reader.proofs.StateMemory.{event_inside}
use Rattle.writer.specs.Write.{stored_text}
use Rattle.text.specs.Text.{beginning, read_state}
use Rattle.text.proofs.AlikeWords.{state_alike}
use Rattle.text.proofs.Storable.{storable, storable_alike}
use Rattle.text.proofs.TidyTerms.{tidied, tidied_alike, tidied_good, tidied_tidy, tidied_words}
use Rattle.text.proofs.AcceptedMemory.{read-terms, read-state}

-- The words of a state that keeps the layout are the named words of its memory.
pub named_words : (T : Terms) → T.members < 65 → (w : List ℕ) → state_words ≤ length w → good_state T w ≡ true → words_of T (state_of w) ≡ take state_words w
named_words T few w long g =
    sym (ap (take state_words) (canonical T few w long g) ∙ take_at (words_of T (state_of w)) (drop state_words w) state_words (length_words T (state_of w)))

-- A state whose bits and event are inside the terms is read from its words as it is.
module _ (T : Terms) (fine : Good T) (S : State) (now : InsideMoment T S.now) (bits : InsideTables T S.table) where
  bit_back : (t a b : ℕ) → (state_of (words_of T S)).table t a b ≡ S.table t a b
  unfolding state_of
  bit_back t a b = go (S.table t a b) refl
    where
      under : (c : Bool) → ltb t 32 ≡ c → (d : Bool) → ltb a 64 ≡ d → S.table t a b ≡ false → (c && (d && bit (get_or (words_of T S) (table_at t a) 0) b)) ≡ false
      under true p true q e =
          word_table T S fine.few_members t a b (ltb-true t 32 p) (ltb-true a 64 q)
          ∙ rw e (ap (λ x. ltb t (tables T) && x) (and-false (places.inside T.members (table_columns T t) a b)) ∙ and-false (ltb t (tables T)))
      under true p false q e = refl
      under false p d q e = refl

      go : (x : Bool) → S.table t a b ≡ x → (ltb t 32 && (ltb a 64 && bit (get_or (words_of T S) (table_at t a) 0) b)) ≡ S.table t a b
      go true e = let i = bits.within t a b e in table_back T fine S t a b i.0 i.1
      go false e = under (ltb t 32) refl (ltb a 64) refl e ∙ sym e

  state_back : state_of (words_of T S) ≡ S
  state_back = λ d. record { now = now_back T fine S now d; table = λ t a b. bit_back t a b d }

-- The words of what an accepted text says hold it.
pub placed_state : (text : List ℕ) (f : File) → reading text ≡ accepted f → (state : List ℕ) → state_of (words_of f.terms (state_said f) ++ drop state_words state) ≡ state_said f
placed_state text f e state =
    let a = accepted_good text f e in
    state_front (words_of f.terms (state_said f)) (drop state_words state) (omega (arith, length_words f.terms (state_said f)))
    ∙ state_back f.terms a.good (state_said f) (record { edges = a.edges.within; event = event_inside f.terms a.last }) a.bits

-- The file that a stored text is.
pub record Reloaded (terms state : List ℕ) (f : File) : Type 0 where
  pub accepts : reading (stored_text terms state) ≡ accepted f
  pub form : f.stored ≡ true
  pub terms_are : f.terms ≡ tidied (terms_of terms)
  pub state-is : state_said f ≡ state_of state

module _ (terms state : List ℕ) (long_terms : terms_words ≤ length terms) (long_state : state_words ≤ length state)
    (g : good_memory terms ≡ true) (h : good_state (terms_of terms) state ≡ true)
  where
    abbrev U : Terms
    U = terms_of terms

    pub reloaded : (f : File) × Reloaded terms state f
    unfolding stored_text
    reloaded =
        let T : Terms = tidied U in
        let r = reread_stored T (tidied_good terms g) (tidied_tidy terms g) (state_of state) (storable_alike U T (tidied_alike U) (state_of state) (storable U state h)) in (
          r.0,
          record {
            accepts = ap reading (stored_alike U T (tidied_alike U) (state_of state)) ∙ r.1.accepts;
            form = r.1.form_read;
            terms_are = r.1.terms;
            state-is = λ d. record { now = record { edge = r.1.edges d; event = r.1.last d }; table = r.1.table d };
          },
        )

    -- What is stored of good memory is accepted, and reading it gives the same named words of terms and of state.
    pub reread_stored_memory : (terms' state' : List ℕ) → terms_words ≤ length terms' → state_words ≤ length state' →
        (read_terms (stored_text terms state) terms' state' ≡ take terms_words terms ++ drop terms_words terms')
        × (read_state (stored_text terms state) terms' state' ≡ take state_words state ++ drop state_words state')
    reread_stored_memory terms' state' tl sl =
        let f : File = reloaded.0 in
        let r : Reloaded terms state f = reloaded.1 in
        let begins : beginning f ≡ state_of state = ap (λ b. cond b (state_said f) (opening f.terms f.edges)) r.form ∙ r.state-is in (
          read-terms (stored_text terms state) f r.accepts terms' state' tl sl
              ∙ ap (λ v. v ++ drop terms_words terms') (ap memory_of r.terms_are ∙ tidied_words terms g long_terms),
          read-state (stored_text terms state) f r.accepts terms' state' tl sl
              ∙ ap (λ v. v ++ drop state_words state')
              ((λ d. words_of (r.terms_are d) (begins d)) ∙ sym (state_alike U (tidied U) (tidied_alike U) (state_of state)) ∙ named_words U (good terms g).few_members state long_state h),
        )
