-- What one bank does tells nothing to the other but that there was a moment, and its relations.
use Prim.Native.Nat.{ℕ, zero, suc}
use mathlib.Core.Path.{◌≡◌, refl, sym, ap, ap₂, fun_ext, ◌∙◌}
use mathlib.Core.Logic.{◌⊎◌, inl, inr}
use mathlib.Core.Bool.{Bool, true, false, cond, not}
use mathlib.Core.List.{List, [], ◌∷◌, ◌++◌, map}
use lib.ListN.{get_or}
use borrow.Author.Tests.{le-ltb}
use Rattle.theory.specs.Limits.{scratch_words}
use Rattle.theory.specs.Terms.{same_size}
use Rattle.theory.specs.Moment.{Relations, Moment}
use Rattle.theory.specs.Moment.Event.{none}
use Rattle.theory.specs.Keeper.{Answer, Book, judge, revised_book}
use Rattle.theory.specs.Keeper.Answer.{done, refused}
use Rattle.theory.proofs.CallByTests.{judge_lent}
use Rattle.banking.specs.Banks.{Bank, other, quiet, BankCall, BankOffer, BankStep, Books, book_of, short_offer, revised_books, as_seen, judge_bank, keep_bank, keep_bank_step, keep_bank_steps, SameCall, SameTerms, Matching, OtherBank, Place, Placed, OfBank}
use Rattle.banking.specs.Banks.BankStep.{call, revise}
use Rattle.banking.proofs.BothBanks.{not_own, seen_own, seen_beside}

seen_called : (b d : Bank) → d ≡ b → (Ms : List Moment) → as_seen b d Ms ≡ Ms
seen_called b d e Ms = rw e (seen_own b Ms)

seen_quiet : (b d : Bank) → d ≡ other b → (Ms : List Moment) → as_seen b d Ms ≡ map quiet Ms
seen_quiet b d e Ms = rw e (seen_beside b Ms)

-- Without their event edges, matching moments are the same.
quiet_same : (Ms Ns : List Moment) → Matching Ms Ns → map quiet Ms ≡ map quiet Ns
quiet_same [] [] m = refl
quiet_same [] (N ∷ Ns) m = absurd m
quiet_same (M ∷ Ms) [] m = absurd m
quiet_same (M ∷ Ms) (N ∷ Ns) m =
    ap₂ (λ (R : Relations) (L : List Moment). record { edge = R; event = none } ∷ L)
    (fun_ext (λ k. fun_ext (λ x. fun_ext (λ y. m.0 k x y)))) (quiet_same Ms Ns m.1)

module _ (b : Bank) where
  -- The same call goes by the bank's book.
  own_judged : (B B' : Books) → book_of B b ≡ book_of B' b → (c d : BankCall) → SameCall b c d →
      judge_bank B.terms B.start B.moments c ≡ judge_bank B'.terms B'.start B'.moments d
  own_judged B B' e c d s =
      rw (le-ltb c.other_scratch scratch_words s.other_left, le-ltb d.other_scratch scratch_words s.other_right, s.bank-left, s.bank_right)
      (ap (λ (K : Book). judge K.terms K.start K.moments c.call) e
      ∙ judge_lent B'.terms (B'.start b) (B'.moments b) {c = c.call} {d = d.call} s.look s.event s.from s.to s.scratch_left s.scratch_right)

  call_held : (B B' : Books) → book_of B b ≡ book_of B' b → (c d : BankCall) → SameCall b c d ⊎ OtherBank b B B' c d →
      book_of (keep_bank_step B (call c)).1 b ≡ book_of (keep_bank_step B' (call d)).1 b
  unfolding keep_bank_step keep_bank
  call_held B B' e c d (inl s) =
      ap₂ (λ (K : Book) (Ns : List Moment). record { terms = K.terms; start = K.start; moments = K.moments ++ Ns }) e
      (seen_called b c.bank s.bank-left _
      ∙ ap (λ (r : Answer × List Moment). r.1) (own_judged B B' e c d s) ∙ sym (seen_called b d.bank s.bank_right _))
  call_held B B' e c d (inr o) =
      ap₂ (λ (K : Book) (Ns : List Moment). record { terms = K.terms; start = K.start; moments = K.moments ++ Ns }) e
      (seen_quiet b c.bank o.bank-left _
      ∙ quiet_same (judge_bank B.terms B.start B.moments c).1 (judge_bank B'.terms B'.start B'.moments d).1 o.made
      ∙ sym (seen_quiet b d.bank o.bank_right _))

  call_answered : (B B' : Books) → book_of B b ≡ book_of B' b → (c d : BankCall) → SameCall b c d ⊎ OtherBank b B B' c d → c.bank ≡ b →
      (keep_bank_step B (call c)).0 ≡ (keep_bank_step B' (call d)).0
  unfolding keep_bank_step keep_bank
  call_answered B B' e c d (inl s) own = ap (λ (r : Answer × List Moment). r.0) (own_judged B B' e c d s)
  call_answered B B' e c d (inr o) own = absurd (not_own b (sym own ∙ o.bank-left))

  -- What new terms make of a bank's book, by that book alone.
  abbrev revised_one : BankOffer → Book → Answer × Book
  revised_one o K =
      cond (short_offer o) (refused 6 0, K)
      (cond (not o.sound) (refused 7 0, K)
      (cond (not (same_size K.terms o.terms)) (refused 13 0, K)
      (done, revised_book K o.terms)))

  revised-one : (B : Books) (o : BankOffer) →
      ◌≡◌ {A = Answer × Book} ((keep_bank_step B (revise o)).0, book_of (keep_bank_step B (revise o)).1 b) (revised_one o (book_of B b))
  unfolding keep_bank_step
  revised-one B o = go (short_offer o) o.sound (same_size B.terms o.terms)
    where
      go : (x y z : Bool) →
          let r : Answer × Books = cond x (refused 6 0, B) (cond (not y) (refused 7 0, B) (cond (not z) (refused 13 0, B) (done, revised_books B o.terms))) in
          ◌≡◌ {A = Answer × Book} (r.0, book_of r.1 b)
          (cond x (refused 6 0, book_of B b) (cond (not y) (refused 7 0, book_of B b) (cond (not z) (refused 13 0, book_of B b) (done, revised_book (book_of B b) o.terms))))
      go true y z = refl
      go false false z = refl
      go false true false = refl
      go false true true = refl

  revised_same : (B B' : Books) → book_of B b ≡ book_of B' b → (o p : BankOffer) → SameTerms o p →
      ◌≡◌ {A = Answer × Book} ((keep_bank_step B (revise o)).0, book_of (keep_bank_step B (revise o)).1 b) ((keep_bank_step B' (revise p)).0, book_of (keep_bank_step B' (revise p)).1 b)
  revised_same B B' e o p s =
      let x : revised_one o (book_of B' b) ≡ revised_one p (book_of B' b) = rw (s.short, s.sound, s.terms) in
      revised-one B o ∙ ap (revised_one o) e ∙ x ∙ sym (revised-one B' p)

  place_held : (B B' : Books) → book_of B b ≡ book_of B' b → (x y : BankStep) → Place b B B' x y → book_of (keep_bank_step B x).1 b ≡ book_of (keep_bank_step B' y).1 b
  place_held B B' e (call c) (call d) pl = call_held B B' e c d pl
  place_held B B' e (call c) (revise p) pl = absurd pl
  place_held B B' e (revise o) (call d) pl = absurd pl
  place_held B B' e (revise o) (revise p) pl = ap (λ (r : Answer × Book). r.1) (revised_same B B' e o p pl)

  place_answered : (B B' : Books) → book_of B b ≡ book_of B' b → (x y : BankStep) → Place b B B' x y → OfBank b x → (keep_bank_step B x).0 ≡ (keep_bank_step B' y).0
  place_answered B B' e (call c) (call d) pl own = call_answered B B' e c d pl own
  place_answered B B' e (call c) (revise p) pl own = absurd pl
  place_answered B B' e (revise o) (call d) pl own = absurd pl
  place_answered B B' e (revise o) (revise p) pl own = ap (λ (r : Answer × Book). r.0) (revised_same B B' e o p pl)

  -- Of the keeper, from any books with the same book of bank b: step number n is a call of bank b, or new terms.
  pub isolated : (x₀ : BankStep) (a₀ : Answer) (xs ys : List BankStep) (B B' : Books) → book_of B b ≡ book_of B' b → Placed b B B' xs ys →
      (n : ℕ) → OfBank b (get_or xs n x₀) → get_or (keep_bank_steps B xs).0 n a₀ ≡ get_or (keep_bank_steps B' ys).0 n a₀
  unfolding keep_bank_steps
  isolated x₀ a₀ [] [] B B' e pl n own = refl
  isolated x₀ a₀ [] (y ∷ ys) B B' e pl n own = absurd pl
  isolated x₀ a₀ (x ∷ xs) [] B B' e pl n own = absurd pl
  isolated x₀ a₀ (x ∷ xs) (y ∷ ys) B B' e pl zero own = place_answered B B' e x y pl.0 own
  isolated x₀ a₀ (x ∷ xs) (y ∷ ys) B B' e pl (suc n) own =
      isolated x₀ a₀ xs ys (keep_bank_step B x).1 (keep_bank_step B' y).1 (place_held B B' e x y pl.0) pl.1 n own
