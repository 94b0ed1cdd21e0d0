-- An accepted text of the old form, read into lent memory: the state of moment 0, which holds what the keeper
-- begins with and passes the checks.
use Prim.Native.Nat.{ℕ, ◌≤◌}
use native.Mathlib.Omega.{arith}
use mathlib.Core.Path.{◌≡◌, refl, sym, ap, subst, ◌∙◌}
use mathlib.Core.Bool.{true, false, cond}
use mathlib.Core.List.{List, [], ◌∷◌, ◌++◌}
use lib.ListN.{length, drop, length-append, length-drop}
use Rattle.theory.specs.Meaning.{from_first}
use Rattle.theory.specs.Terms.{Terms, Alike}
use Rattle.theory.specs.Moment.{Moment, first}
use Rattle.theory.specs.Tables.{State, opening}
use Rattle.theory.specs.Fit.{Good}
use Rattle.theory.proofs.RunInvariant.{opening_kept}
use Rattle.memory.specs.Layout.{terms_words, state_words, terms_of, state_of, words_of}
use Rattle.memory.specs.Checks.{good_memory, Inside}
use Rattle.memory.specs.Outcome.{checks}
use Rattle.memory.specs.Outcome.Outcome.{passed}
use Rattle.memory.proofs.Accepted.{good}
use Rattle.memory.proofs.Front.{state_front}
use Rattle.memory.proofs.Words.{length_words, now_back}
use Rattle.memory.proofs.Outcomes.{check_passed}
use Rattle.calls.proofs.MemoryInvariant.{Held, held_words}
use Rattle.file.specs.File.{File, state_said}
use Rattle.file.specs.Reading.{reading}
use Rattle.file.specs.Reading.Reading.{accepted}
use Rattle.file.proofs.Accepted.{Accepted, accepted_good}
use Rattle.reader.specs.Memory.{memory_of}
use Rattle.reader.proofs.TermsMemory.{length_memory, memory_alike, memory_good}
use Rattle.text.specs.Text.{read_state}
use Rattle.text.proofs.AlikeWords.{words_alike, inside_alike}
use Rattle.text.proofs.AcceptedMemory.{read-state}

module _ (text : List ℕ) (f : File) (e : reading text ≡ accepted f) (form : f.stored ≡ false) (terms state : List ℕ)
    (tl : terms_words ≤ length terms) (sl : state_words ≤ length state)
  where
    a : Accepted f
    a = accepted_good text f e

    abbrev T : Terms
    T = f.terms

    -- The terms in memory, and the state.
    abbrev m : List ℕ
    m = memory_of T ++ drop terms_words terms

    abbrev U : Terms
    U = terms_of m

    abbrev opened : List ℕ
    opened = words_of T (opening T f.edges) ++ drop state_words state

    pub read_opened : read_state text terms state ≡ opened
    read_opened =
        read-state text f e terms state tl sl
        ∙ ap (λ b. words_of T (cond b (state_said f) (opening T f.edges)) ++ drop state_words state) form

    pub begun_like : Alike T U
    begun_like = memory_alike T a.good a.tidy (drop terms_words terms)

    pub begun_good : good_memory m ≡ true
    begun_good = memory_good T a.good a.tidy (drop terms_words terms)

    abbrev pub fine : Good U
    fine = good m begun_good

    inside : Inside U (first f.edges)
    inside = inside_alike T U begun_like (first f.edges) (record { edges = a.edges.within; event = tt })

    pub same_opened : opened ≡ words_of U (opening U f.edges) ++ drop state_words state
    same_opened = ap (λ w. w ++ drop state_words state) (words_alike T U begun_like f.edges)

    pub begun_held : Held U from_first fine state opened (first f.edges ∷ [])
    unfolding opening
    begun_held = subst (λ w. Held U from_first fine state w (first f.edges ∷ [])) (sym same_opened)
        (held_words U from_first fine state state sl refl refl (opening U f.edges) (first f.edges ∷ []) (opening_kept U fine f.edges) inside)

    pub edges_back : (state_of opened).now.edge ≡ f.edges
    unfolding opening
    edges_back =
        let S : State = opening U f.edges in
        let front : state_words ≤ length (words_of U S) = omega (arith, length_words U S) in
        ap (λ w. (state_of w).now.edge) same_opened
        ∙ ap (λ (s : State). s.now.edge) (state_front (words_of U S) (drop state_words state) front)
        ∙ ap (λ (M : Moment). M.edge) (now_back U fine S inside)

    pub begun_long : terms_words ≤ length m
    begun_long = omega (arith, length-append (memory_of T) (drop terms_words terms), length_memory T)

    pub begun_checked : passed ≡ checks m opened
    begun_checked = check_passed m opened (record {
      long_terms = begun_long;
      long_state = omega (arith, length-append (words_of T (opening T f.edges)) (drop state_words state), length_words T (opening T f.edges), length-drop state_words state);
      good_terms = begun_good;
      good-state = begun_held.good;
    })
