-- Each refusal of new numbers is given exactly under its condition, and then the second state is as lent.
use Prim.Native.Nat.{ℕ, zero, suc, ◌<◌}
use native.Mathlib.Omega.{arith}
use mathlib.Core.Path.{◌≡◌, refl, sym, subst, ◌∙◌}
use mathlib.Core.List.{List}
use mathlib.Core.Bool.{Bool, true, false, cond, not, ◌&&◌, ◌||◌, true≢false}
use lib.Dec.{eqb, ltb}
use lib.ListN.{length, get_or}
use borrow.Author.Tests.{ltb-true, ltb-false, eqb-true, eqb-false, eq-eqb, lt-ltb, le-ltb}
use Rattle.sets.specs.Sets.{any_below, all_below}
use Rattle.sets.proofs.Finite.{is_false, not_both, or_left, or_right, and_left, and_right, all_out, any_intro, any_elim}
use Rattle.theory.specs.NewNumbers.{renumbers}
use Rattle.memory.specs.Layout.{terms_words, state_words, terms_of}
use Rattle.memory.specs.Checks.{good_memory, good_state}
use Rattle.memory.specs.Outcome.{Outcome}
use Rattle.memory.specs.Outcome.Outcome.{passed, refused}
use Rattle.calls.specs.Renumbering.{renumbering, renumbered_state}
use Rattle.calls.specs.Refused.{LongToRenumber, RenumberingRefusal}
use Rattle.calls.specs.Refused.RenumberingRefusal.{short_terms, short_state, short_second, bad_terms, bad_state, other_length, number_missing}
use Rattle.calls.proofs.MembersNumbers.{get_d_any}

-- Some number below n fails a test that not each of them passes.
missing : (n : ℕ) (f : ℕ → Bool) → all_below n f ≡ false → (m : ℕ) × (m < n) × (f m ≡ false)
unfolding all_below
missing zero f e = absurd (true≢false e)
missing (suc n) f e = go (f n) refl e (missing n f)
  where
    go : (c : Bool) → f n ≡ c → (c && all_below n f) ≡ false → (all_below n f ≡ false → (m : ℕ) × (m < n) × (f m ≡ false)) → (m : ℕ) × (m < suc n) × (f m ≡ false)
    go true z q below = let w = below q in (w.0, omega (arith, w.1), w.2)
    go false z q below = (n, omega arith, z)

module _ (terms state numbers second : List ℕ) where
  abbrev N : ℕ
  N = (terms_of terms).members

  abbrev Told : Outcome → Type 0
  Told passed = Unit {0}
  Told (refused n l) = (l ≡ 0) × RenumberingRefusal terms state numbers second n

  -- Check 15, by the length and by the number that is missing.
  wrong : LongToRenumber terms state second → good_memory terms ≡ true → good_state (terms_of terms) state ≡ true → renumbers N numbers ≡ false →
      RenumberingRefusal terms state numbers second 15
  unfolding renumbers
  wrong L g s e = by_length (eqb (length numbers) N) refl e
    where
      by_length : (c : Bool) → eqb (length numbers) N ≡ c → (c && all_below N (λ m. any_below N (λ k. eqb (get_or numbers k k) m))) ≡ false →
          RenumberingRefusal terms state numbers second 15
      by_length false z q = other_length L g s (eqb-false (length numbers) N z)
      by_length true z q =
          let w = missing N (λ m. any_below N (λ k. eqb (get_or numbers k k) m)) q in
          let long : length numbers ≡ N = eqb-true (length numbers) N z in
          number_missing L g s w.0 w.1 (λ k l h.
          not_both _ (any_intro N (λ k. eqb (get_or numbers k k) w.0) k (subst (λ (n : ℕ). k < n) long l)
          (eq-eqb (get_or numbers k k) w.0 (get_d_any numbers k k 0 l ∙ h))) w.2)

  renumbering_told : Told (renumbering terms state numbers second)
  unfolding renumbering
  renumbering_told =
      by_length (ltb (length terms) terms_words) refl (ltb (length state) state_words) refl (ltb (length second) state_words) refl
    where
      by_numbers : LongToRenumber terms state second → good_memory terms ≡ true → good_state (terms_of terms) state ≡ true →
          (c : Bool) → renumbers N numbers ≡ c → Told (cond (not c) (refused 15 0) passed)
      by_numbers L g s true q = tt
      by_numbers L g s false q = (refl, wrong L g s q)

      by_state : LongToRenumber terms state second → good_memory terms ≡ true → (c : Bool) → good_state (terms_of terms) state ≡ c →
          Told (cond (not c) (refused 8 0) (cond (not (renumbers N numbers)) (refused 15 0) passed))
      by_state L g true q = by_numbers L g q (renumbers N numbers) refl
      by_state L g false q = (refl, bad_state L g q)

      by_terms : LongToRenumber terms state second → (c : Bool) → good_memory terms ≡ c →
          Told (cond (not c) (refused 7 0) (cond (not (good_state (terms_of terms) state)) (refused 8 0) (cond (not (renumbers N numbers)) (refused 15 0) passed)))
      by_terms L true q = by_state L q (good_state (terms_of terms) state) refl
      by_terms L false q = (refl, bad_terms L q)

      rest : Outcome
      rest = cond (not (good_memory terms)) (refused 7 0) (cond (not (good_state (terms_of terms) state)) (refused 8 0) (cond (not (renumbers N numbers)) (refused 15 0) passed))

      by_length : (a : Bool) → ltb (length terms) terms_words ≡ a → (b : Bool) → ltb (length state) state_words ≡ b →
          (c : Bool) → ltb (length second) state_words ≡ c → Told (cond (a || (b || c)) (refused 6 0) rest)
      by_length true p b q c r = (refl, short_terms (ltb-true (length terms) terms_words p))
      by_length false p true q c r = (refl, short_state (ltb-true (length state) state_words q))
      by_length false p false q true r = (refl, short_second (ltb-true (length second) state_words r))
      by_length false p false q false r =
          by_terms (record {
            terms_long = ltb-false (length terms) terms_words p;
            state_long = ltb-false (length state) state_words q;
            second_long = ltb-false (length second) state_words r;
          }) (good_memory terms) refl

  abbrev lengths : Bool
  lengths = ltb (length terms) terms_words || (ltb (length state) state_words || ltb (length second) state_words)

  short : lengths ≡ true → renumbering terms state numbers second ≡ refused 6 0
  unfolding renumbering
  short e = rw e

  enough : LongToRenumber terms state second → lengths ≡ false
  enough L =
      rw (
        le-ltb (length terms) terms_words L.terms_long,
        le-ltb (length state) state_words L.state_long,
        le-ltb (length second) state_words L.second_long,
      )

  not_numbers : LongToRenumber terms state second → good_memory terms ≡ true → good_state (terms_of terms) state ≡ true → renumbers N numbers ≡ false →
      renumbering terms state numbers second ≡ refused 15 0
  unfolding renumbering
  not_numbers L g s e = rw (enough L, g, s, e)

  because : (n : ℕ) → RenumberingRefusal terms state numbers second n → renumbering terms state numbers second ≡ refused n 0
  unfolding renumbering renumbers
  because n (short_terms h) = short (or_left _ _ (lt-ltb (length terms) terms_words h))
  because n (short_state h) = short (or_right (ltb (length terms) terms_words) _ (or_left _ _ (lt-ltb (length state) state_words h)))
  because n (short_second h) =
      short (or_right (ltb (length terms) terms_words) _ (or_right (ltb (length state) state_words) _ (lt-ltb (length second) state_words h)))
  because n (bad_terms L g) = rw (enough L, g)
  because n (bad_state L g s) = rw (enough L, g, s)
  because n (other_length L g s h) =
      not_numbers L g s (is_false (renumbers N numbers) (λ e. h (eqb-true (length numbers) N (and_left (eqb (length numbers) N) _ e))))
  because n (number_missing L g s m l none) =
      not_numbers L g s (is_false (renumbers N numbers) (λ e.
      let long : length numbers ≡ N = eqb-true (length numbers) N (and_left (eqb (length numbers) N) _ e) in
      let w = any_elim N (λ k. eqb (get_or numbers k k) m)
      (all_out N (λ m. any_below N (λ k. eqb (get_or numbers k k) m)) (and_right (eqb (length numbers) N) _ e) m l) in
      let kl : w.0 < length numbers = subst (λ (n : ℕ). w.0 < n) (sym long) w.1 in
      none w.0 kl (sym (get_d_any numbers w.0 w.0 0 kl) ∙ eqb-true (get_or numbers w.0 w.0) m w.2)))

  unmoved : (n l : ℕ) → renumbering terms state numbers second ≡ refused n l → renumbered_state terms state numbers second ≡ second
  unfolding renumbered_state
  unmoved n l e = rw e

  -- New numbers are refused with number n and a line exactly when the line is 0 and a reason for n fits;
  -- then the second state is as lent.
  pub renumber_refused_only : (n l : ℕ) →
      (renumbering terms state numbers second ≡ refused n l → (l ≡ 0) × RenumberingRefusal terms state numbers second n × (renumbered_state terms state numbers second ≡ second))
      × (RenumberingRefusal terms state numbers second n → renumbering terms state numbers second ≡ refused n 0)
  renumber_refused_only n l = (
    (λ e. let s = subst Told e renumbering_told in (s.0, s.1, unmoved n l e)),
    because n,
  )
