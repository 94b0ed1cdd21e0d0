-- New terms for both banks together: the memory in use then holds what the keeper's books say.
use Prim.Native.Nat.{ℕ, ◌≤◌}
use native.Mathlib.Omega.{arith}
use mathlib.Core.Path.{◌≡◌, refl, sym, ap, ap₂, subst, ◌∙◌}
use mathlib.Core.Bool.{Bool, true, false, cond, not, ◌||◌}
use mathlib.Core.List.{List, ◌++◌}
use lib.Dec.{ltb}
use lib.ListN.{length, take, drop}
use borrow.Author.Tests.{le-ltb, ltb-false}
use Rattle.theory.specs.Meaning.{Starts}
use Rattle.theory.specs.Terms.{Terms, same_size}
use Rattle.theory.specs.Keeper.{Answer, revised_start}
use Rattle.theory.specs.Keeper.Answer.{done, refused}
use Rattle.theory.specs.Tables.{State, revised}
use Rattle.memory.specs.Layout.{terms_words, state_words, relation_words, own_words, joined, terms_of, state_of, words_of}
use Rattle.memory.specs.Checks.{good_memory}
use Rattle.memory.specs.Outcome.{short_banks, banks_revise}
use Rattle.memory.specs.Outcome.Outcome.{passed, refused as refusedOutcome}
use Rattle.calls.specs.Agreement.{outcome_in}
use Rattle.theory.proofs.RunInvariant.{Kept}
use Rattle.theory.proofs.AlikeTerms.{alike_refl, start_alike, size_alike}
use Rattle.theory.proofs.Size.{same_members, same_relations, same_events}
use Rattle.theory.proofs.Revised.{revised_kept}
use Rattle.memory.proofs.Accepted.{good}
use Rattle.memory.proofs.Inside.{state_inside}
use Rattle.memory.proofs.Words.{length_words}
use Rattle.calls.proofs.LayoutKept.{inside_size}
use Rattle.calls.proofs.MemoryInvariant.{Held, held_words}
use Rattle.calls.proofs.Demand.{or_false_left, or_false_right}
use Rattle.banking.specs.Banks.{Bank, Books, book_of, revised_books, keep_bank_step}
use Rattle.banking.specs.Banks.Bank.{left, right}
use Rattle.banking.specs.Banks.BankStep.{revise as reviseStep}
use Rattle.banking.specs.Banking.{begun_words, relations_revised, own_revised}
use Rattle.banking.specs.BankRefused.{LongBanks}
use Rattle.banking.specs.BankRuns.{Lent, offered_banks, BanksInUse, revises_in, revised_in, in_use}
use Rattle.banking.proofs.Lengths.{long_banks, not_short}
use Rattle.banking.proofs.JoinedState.{joined_long, joined_back, relations_alike, edges_joined, words_alone, part_long, part_further, front_long, back_long}
use Rattle.banking.proofs.OneBankCall.{Stands, relations_now, long_now}
use Rattle.banking.proofs.Playing.{BanksPlaying}

-- ---- what new terms leave, in any memory

module _ (old relations own other new relations' own' other' : List ℕ) where
  module _ (e : passed ≡ banks_revise old relations own other new relations' own' other') where
    relations-revised : take relation_words (begun_words old relations own new) ++ drop relation_words relations'
        ≡ relations_revised old relations own other new relations' own' other'
    unfolding relations_revised
    relations-revised = rw (sym e)

    own-revised : (x lent : List ℕ) →
        drop relation_words (begun_words old relations x new) ++ drop own_words lent ≡ own_revised old relations own other new relations' own' other' x lent
    unfolding own_revised
    own-revised x lent = rw (sym e)

-- ---- over the memory in use

module _ (B : Books) (P : BanksInUse) (p : BanksPlaying B P) (new : List ℕ) (X : Lent) where
  abbrev U : Terms
  U = terms_of P.terms

  abbrev Z : Terms
  Z = terms_of new

  abbrev short : Bool
  short = ltb (length new) terms_words || short_banks X.relations (X.own left) (X.own right)

  relations_are : relation_words ≤ length P.lent.relations
  relations_are = relations_now P.terms p.long (good P.terms p.good-memory) p.good-memory B.start P.before P.lent B.moments p.stands

  revises-is : revises_in P new X
      ≡ cond short (refusedOutcome 6 0) (cond (not (good_memory new)) (refusedOutcome 7 0) (cond (not (same_size B.terms Z)) (refusedOutcome 13 0) passed))
  unfolding banks_revise
  revises-is = rw (
    le-ltb (length P.terms) terms_words p.long,
    not_short P.lent.relations (P.lent.own left) (P.lent.own right)
        (long_now P.terms p.long (good P.terms p.good-memory) p.good-memory B.start P.before P.lent B.moments p.stands left),
    p.good-memory,
    (p.stands.bank left).good,
    (p.stands.bank right).good,
    size_alike B.terms U p.like Z,
  )

  abbrev K : Answer × Books
  K = keep_bank_step B (reviseStep (offered_banks new X))

  keeps-is : K ≡ cond short (refused 6 0, B) (cond (not (good_memory new)) (refused 7 0, B) (cond (not (same_size B.terms Z)) (refused 13 0, B) (done, revised_books B Z)))
  unfolding keep_bank_step
  keeps-is = refl

  abbrev Played : Type 0
  Played = (outcome_in (revises_in P new X) ≡ K.0) × BanksPlaying K.1 (in_use P new X)

  -- Refused: all is as before.
  stays : (n l : ℕ) → revises_in P new X ≡ refusedOutcome n l → K ≡ (refused n l, B) → Played
  stays n l e k = rw (e, k) (refl, p)

  -- Done: the new terms and the second memory are in use.
  module _ (e : revises_in P new X ≡ passed) (k : K ≡ (done, revised_books B Z)) (s : short ≡ false) (g : good_memory new ≡ true) (z : same_size B.terms Z ≡ true) where
    same : same_size U Z ≡ true
    same = sym (size_alike B.terms U p.like Z) ∙ z

    em : U.members ≡ Z.members
    em = same_members U Z same

    er : U.relations ≡ Z.relations
    er = same_relations U Z same

    ee : U.events ≡ Z.events
    ee = same_events U Z same

    new_long : terms_words ≤ length new
    new_long = ltb-false (length new) terms_words (or_false_left (ltb (length new) terms_words) (short_banks X.relations (X.own left) (X.own right)) s)

    lb : LongBanks X.relations (X.own left) (X.own right)
    lb = long_banks X.relations (X.own left) (X.own right) (or_false_right (ltb (length new) terms_words) (short_banks X.relations (X.own left) (X.own right)) s)

    own_lent : (d : Bank) → own_words ≤ length (X.own d)
    own_lent left = lb.own_long
    own_lent right = lb.other_long

    module _ (d : Bank) where
      abbrev S : State
      S = state_of (joined P.lent.relations (P.lent.own d))

      abbrev w : List ℕ
      w = words_of Z (revised U S Z)

      abbrev x : List ℕ
      x = joined X.relations (X.own d)

      size_x : length x ≡ state_words
      size_x = joined_long X.relations (X.own d) lb.relations_long (own_lent d)

      size_w : length w ≡ state_words
      size_w = length_words Z (revised U S Z)

      kept : Kept Z (revised_start (book_of B d) Z) (revised U S Z) (B.moments d)
      kept = subst (λ (r : Starts). Kept Z r (revised U S Z) (B.moments d)) (sym (start_alike B.terms U p.like (B.start d) (B.moments d) Z))
          (revised_kept (record { terms = U; start = B.start d; moments = B.moments d }) S (p.stands.bank d).kept Z (good new g) em er ee)

      begun_held : Held Z (revised_start (book_of B d) Z) (good new g) x w (B.moments d)
      unfolding revised
      begun_held =
          subst (λ (y : List ℕ). Held Z (revised_start (book_of B d) Z) (good new g) x y (B.moments d)) (words_alone w x size_x)
          (held_words Z (revised_start (book_of B d) Z) (good new g) x x (omega (arith, size_x)) refl refl (revised U S Z) (B.moments d) kept
          (inside_size U Z em er ee S.now (state_inside U (joined P.lent.relations (P.lent.own d)) (p.stands.bank d).good)))

      own_begun : (revised_in P new X).own d ≡ drop relation_words w ++ drop own_words (X.own d)
      own_begun = sym (own-revised P.terms P.lent.relations (P.lent.own left) (P.lent.own right) new X.relations (X.own left) (X.own right) (sym e)
          (P.lent.own d) (X.own d))

    relations_begun : (revised_in P new X).relations ≡ take relation_words (w left) ++ drop relation_words X.relations
    relations_begun = sym (relations-revised P.terms P.lent.relations (P.lent.own left) (P.lent.own right) new X.relations (X.own left) (X.own right) (sym e))

    same_front : (d : Bank) → take relation_words (w left) ≡ take relation_words (w d)
    unfolding revised
    same_front d = relations_alike Z (revised U (S left) Z) (revised U (S d) Z)
        (edges_joined P.lent.relations (P.lent.own left) relations_are ∙ sym (edges_joined P.lent.relations (P.lent.own d) relations_are))

    joined_begun : (d : Bank) → joined (revised_in P new X).relations ((revised_in P new X).own d) ≡ w d
    joined_begun d =
        ap₂ joined relations_begun (own_begun d) ∙ joined_back (w d) (w left) (drop relation_words X.relations) (drop own_words (X.own d)) (size_w d) (same_front d)

    begun : Stands new new_long (good new g) g (λ d. revised_start (book_of B d) Z) X (revised_in P new X) B.moments
    begun = record {
      bank = λ d. subst (λ (y : List ℕ). Held Z (revised_start (book_of B d) Z) (good new g) (x d) y (B.moments d)) (sym (joined_begun d)) (begun_held d);
      lent = lb.relations_long;
      own_lent = own_lent;
      long = ap length relations_begun ∙ part_long (take relation_words (w left)) X.relations relation_words (front_long (w left) (size_w left)) lb.relations_long;
      own_long = λ d. ap length (own_begun d) ∙ part_long (drop relation_words (w d)) (X.own d) own_words (back_long (w d) (size_w d)) (own_lent d);
      further = ap (drop relation_words) relations_begun ∙ part_further (take relation_words (w left)) X.relations relation_words (front_long (w left) (size_w left));
      own_further = λ d. ap (drop own_words) (own_begun d) ∙ part_further (drop relation_words (w d)) (X.own d) own_words (back_long (w d) (size_w d));
    }

    begins : Played
    begins = rw (e, k) (refl, record { like = alike_refl Z; long = new_long; good-memory = g; stands = begun })

  pub play_revise : Played
  play_revise = by_length short refl (good_memory new) refl (same_size B.terms Z) refl
    where
      by_length : (s : Bool) → short ≡ s → (g : Bool) → good_memory new ≡ g → (z : Bool) → same_size B.terms Z ≡ z → Played
      by_length true s g gs z zs = stays 6 0 (revises-is ∙ rw s) (keeps-is ∙ rw s)
      by_length false s false g z zs = stays 7 0 (revises-is ∙ rw (s, g)) (keeps-is ∙ rw (s, g))
      by_length false s true g false z = stays 13 0 (revises-is ∙ rw (s, g, z)) (keeps-is ∙ rw (s, g, z))
      by_length false s true g true z = begins (revises-is ∙ rw (s, g, z)) (keeps-is ∙ rw (s, g, z)) s g z
