-- A fresh start: a copy of the state, opened, has the words of moment 0 of its relations.
use Prim.Native.Nat.{ℕ, ◌≤◌, ◌<◌}
use native.Mathlib.Omega.{arith}
use mathlib.Core.Path.{◌≡◌, refl, sym, ap, subst, ◌∙◌}
use mathlib.Core.Bool.{Bool, true}
use mathlib.Core.List.{List}
use lib.Dec.{eqb}
use lib.ListN.{length, get_or, take, drop, length-append, length-drop, get_or-append}
use lib.Seq.{ext_get_or, length-take-le, get_or-take}
use borrow.Author.Tests.{eqb-true, eq-eqb, le-ltb}
use Rattle.std.specs.Bool.{Decides}
use Rattle.sets.specs.Sets.{all_below}
use Rattle.sets.proofs.Finite.{bool_iff, all_true, all_out, all_cong}
use Rattle.theory.specs.Tables.{State, opening}
use Rattle.memory.specs.Layout.{terms_words, state_words, terms_of, state_of, word_at, tabulate, words_of}
use Rattle.memory.specs.Checks.{state_tests, good_state}
use Rattle.memory.specs.Outcome.{checks, opens}
use Rattle.memory.specs.Outcome.Outcome.{passed}
use Rattle.theory.proofs.Good.{every_at}
use Rattle.memory.proofs.Row.{length_tabulate, get_d_tabulate}
use Rattle.memory.proofs.Words.{length_words}
use Rattle.memory.proofs.Front.{state_cong, relations_cong}
use Rattle.memory.proofs.Outcomes.{Checked, passed_checked}
use Rattle.calls.specs.Monitor.{opened_state}
use Rattle.writer.specs.Write.{is_fresh}

-- The first n words of a list are another list.
pub same_words : (n : ℕ) (s o : List ℕ) (r : Bool) → n ≤ length s → n ≡ length o → Decides r (take n s ≡ o)
    → r ≡ all_below n (λ i. eqb (get_or s i 0) (get_or o i 0))
same_words n s o r h k d =
    bool_iff r _
    (λ e. all_true n (λ i l. eq-eqb _ _ (sym (get_or-take n s i 0 l) ∙ ap (λ w. get_or w i 0) (d.0 e))))
    (λ e. d.1 (ext_get_or 0 (take n s) o (length-take-le n s h ∙ k)
    (λ i l. let il : i < n = subst (λ m. i < m) (length-take-le n s h) l in
    get_or-take n s i 0 il ∙ eqb-true _ _ (all_out n (λ i. eqb (get_or s i 0) (get_or o i 0)) e i il))))

-- The named words of a fresh start are those of moment 0 of its relations.
pub fresh_words : (terms state : List ℕ) → state_words ≤ length state → is_fresh terms state ≡ true →
    take state_words state ≡ words_of (terms_of terms) (opening (terms_of terms) (state_of state).now.edge)
unfolding is_fresh words_of
fresh_words terms state long fresh =
    let w : ℕ → ℕ = word_at (terms_of terms) (opening (terms_of terms) (state_of state).now.edge) in
    ext_get_or 0 (take state_words state) (tabulate state_words w) (length-take-le state_words state long ∙ sym (length_tabulate state_words w))
    (λ i l. let il : i < state_words = subst (λ n. i < n) (length-take-le state_words state long) l in
    get_or-take state_words state i 0 il ∙ eqb-true (get_or state i 0) (w i) (all_out state_words (λ i. eqb (get_or state i 0) (w i)) fresh i il)
    ∙ sym (get_d_tabulate state_words w i il))

-- A copy of checked memory opens, and what opening leaves is the fresh start of the state's own relations.
module _ (terms state : List ℕ) (e : passed ≡ checks terms state) where
  checked : Checked terms state
  checked = passed_checked terms state e

  abbrev copy : List ℕ
  copy = take state_words state

  pub copy_long : (w : List ℕ) → w ≡ copy → state_words ≡ length w
  copy_long w h = rw h (sym (length-take-le state_words state checked.long_state))

  same : (i : ℕ) → i < state_words → get_or copy i 0 ≡ get_or state i 0
  same i l = get_or-take state_words state i 0 l

  abbrev S : State
  S = opening (terms_of terms) (state_of state).now.edge

  copy_opens : opens terms copy ≡ passed
  unfolding opens good_state
  copy_opens =
      rw (
        le-ltb (length terms) terms_words checked.long_terms,
        le-ltb (length copy) state_words (omega (arith, length-take-le state_words state checked.long_state)),
        checked.good_terms,
        relations_cong copy state same (terms_of terms),
        every_at (state_tests (terms_of terms) state) checked.good-state 0,
      )

  pub opened_long : (w : List ℕ) → w ≡ opened_state terms copy → state_words ≡ length w
  unfolding opened_state
  opened_long w h =
      rw (h, copy_opens, state_cong copy state same)
      (omega (arith, length-append (words_of (terms_of terms) S) (drop state_words copy), length_words (terms_of terms) S, length-drop state_words copy, copy_long copy refl))

  opened_words : (i : ℕ) → i < state_words → get_or (opened_state terms copy) i 0 ≡ word_at (terms_of terms) S i
  unfolding opened_state words_of
  opened_words i l =
      rw (copy_opens, state_cong copy state same)
      (get_or-append (words_of (terms_of terms) S) (drop state_words copy) 0 i (omega (arith, length_words (terms_of terms) S))
      ∙ get_d_tabulate state_words (word_at (terms_of terms) S) i l)

  pub fresh-is : (r : Bool) (opened : List ℕ) → opened ≡ opened_state terms copy →
      r ≡ all_below state_words (λ i. eqb (get_or state i 0) (get_or opened i 0)) → r ≡ is_fresh terms state
  unfolding is_fresh
  fresh-is r opened o h = h ∙ all_cong state_words (λ i l. ap (eqb (get_or state i 0)) (ap (λ w. get_or w i 0) o ∙ opened_words i l))
