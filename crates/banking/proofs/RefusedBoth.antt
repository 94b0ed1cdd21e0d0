-- Each refusal of an opening of both banks and of new terms for both is given exactly under its condition, with line 0,
-- and then all memory is as lent.
use Prim.Native.Nat.{ℕ}
use mathlib.Core.Path.{◌≡◌, refl, subst, ◌∙◌}
use mathlib.Core.List.{List}
use mathlib.Core.Bool.{Bool, true, false, cond, not, ◌&&◌, ◌||◌, and-false}
use lib.Dec.{ltb}
use lib.ListN.{length}
use borrow.Author.Tests.{lt-ltb, le-ltb, ltb-true, ltb-false}
use Rattle.sets.proofs.Finite.{or_left, or_right}
use Rattle.theory.specs.Terms.{same_size}
use Rattle.memory.specs.Layout.{terms_words, joined, terms_of}
use Rattle.memory.specs.Checks.{good_memory, good_state, good_relations}
use Rattle.memory.specs.Outcome.{Outcome, short_banks, good_banks, banks_open, banks_revise}
use Rattle.memory.specs.Outcome.Outcome.{passed, refused}
use Rattle.banking.specs.Banking.{own_opened, relations_revised, own_revised}
use Rattle.banking.specs.BankRefused.{OpeningRefusal, LongToRevise, RevisionRefusal}
use Rattle.banking.specs.BankRefused.RevisionRefusal.{short_old, short_new, short_second, bad_old, bad_new, other_size}
use Rattle.banking.proofs.Lengths.{long_banks, not_short, why_short, is_short}

-- ---- opening

module _ (terms relations own other : List ℕ) where
  abbrev Told : Outcome → Type 0
  Told passed = Unit {0}
  Told (refused n l) = (l ≡ 0) × OpeningRefusal terms relations own other n

  told : Told (banks_open terms relations own other)
  unfolding banks_open
  told = by_length (ltb (length terms) terms_words) refl (short_banks relations own other) refl (good_memory terms) refl (good_relations (terms_of terms) relations) refl
    where
      by_length : (a : Bool) → ltb (length terms) terms_words ≡ a → (b : Bool) → short_banks relations own other ≡ b → (g : Bool) → good_memory terms ≡ g →
          (s : Bool) → good_relations (terms_of terms) relations ≡ s →
          Told (cond (a || b) (refused 6 0) (cond (not g) (refused 7 0) (cond (not s) (refused 8 0) passed)))
      by_length true a b _ g _ s _ = (refl, OpeningRefusal.short_terms (ltb-true (length terms) terms_words a))
      by_length false a true b g _ s _ = (refl, OpeningRefusal.short-banks (why_short relations own other b))
      by_length false a false b false g s _ = (refl, OpeningRefusal.bad_terms (ltb-false (length terms) terms_words a) (long_banks relations own other b) g)
      by_length false a false b true g false s = (refl, OpeningRefusal.bad_relations (ltb-false (length terms) terms_words a) (long_banks relations own other b) g s)
      by_length false a false b true g true s = tt

  opening_because : (n : ℕ) → OpeningRefusal terms relations own other n → banks_open terms relations own other ≡ refused n 0
  unfolding banks_open
  opening_because n (OpeningRefusal.short_terms h) = rw (lt-ltb (length terms) terms_words h)
  opening_because n (OpeningRefusal.short-banks h) =
      rw (or_right (ltb (length terms) terms_words) (short_banks relations own other) (is_short relations own other h))
  opening_because n (OpeningRefusal.bad_terms t b g) = rw (le-ltb (length terms) terms_words t, not_short relations own other b, g)
  opening_because n (OpeningRefusal.bad_relations t b g s) = rw (le-ltb (length terms) terms_words t, not_short relations own other b, g, s)

  -- Opening both banks is refused with number n and a line exactly when the line is 0 and a reason for n fits; then
  -- both banks' own words are as lent. (The relations are never written.)
  pub opening_refused_only : (n l : ℕ) →
      (banks_open terms relations own other ≡ refused n l →
      (l ≡ 0) × OpeningRefusal terms relations own other n × ((lent : List ℕ) → own_opened terms relations own other lent ≡ lent))
      × (OpeningRefusal terms relations own other n → banks_open terms relations own other ≡ refused n 0)
  unfolding own_opened
  opening_refused_only n l = (
    (λ e. let s = subst Told e told in (s.0, s.1, λ lent. rw e)),
    opening_because n,
  )

-- ---- new terms

module _ (old relations own other new relations' own' other' : List ℕ) where
  abbrev Why : ℕ → Type 0
  Why = RevisionRefusal old relations own other new relations' own' other'

  abbrev AllLong : Type 0
  AllLong = LongToRevise old relations own other new relations' own' other'

  abbrev RevisionTold : Outcome → Type 0
  RevisionTold passed = Unit {0}
  RevisionTold (refused n l) = (l ≡ 0) × Why n

  abbrev by_good : Outcome
  by_good =
      cond (not (good_memory old && good_memory new)) (refused 7 0) (cond (not (good_banks (terms_of old) relations own other)) (refused 8 0)
      (cond (not (same_size (terms_of old) (terms_of new))) (refused 13 0) passed))

  abbrev short : Bool
  short = (ltb (length old) terms_words || short_banks relations own other) || (ltb (length new) terms_words || short_banks relations' own' other')

  good_told : AllLong → RevisionTold by_good
  good_told L =
      go (good_memory old) refl (good_memory new) refl (good_state (terms_of old) (joined relations own)) refl (good_state (terms_of old) (joined relations other)) refl
      (same_size (terms_of old) (terms_of new)) refl
    where
      go : (g : Bool) → good_memory old ≡ g → (h : Bool) → good_memory new ≡ h → (s : Bool) → good_state (terms_of old) (joined relations own) ≡ s →
          (t : Bool) → good_state (terms_of old) (joined relations other) ≡ t → (z : Bool) → same_size (terms_of old) (terms_of new) ≡ z →
          RevisionTold (cond (not (g && h)) (refused 7 0) (cond (not (s && t)) (refused 8 0) (cond (not z) (refused 13 0) passed)))
      go false g h _ s _ t _ z _ = (refl, bad_old L g)
      go true g false h s _ t _ z _ = (refl, bad_new L h)
      go true g true h false s t _ z _ = (refl, RevisionRefusal.bad_own L g h s)
      go true g true h true s false t z _ = (refl, RevisionRefusal.bad_other L g h t)
      go true g true h true s true t false z = (refl, other_size L g h s t z)
      go true g true h true s true t true z = tt

  revision_told : RevisionTold (banks_revise old relations own other new relations' own' other')
  unfolding banks_revise
  revision_told = go (ltb (length old) terms_words) refl (short_banks relations own other) refl (ltb (length new) terms_words) refl (short_banks relations' own' other') refl
    where
      go : (a : Bool) → ltb (length old) terms_words ≡ a → (b : Bool) → short_banks relations own other ≡ b → (c : Bool) → ltb (length new) terms_words ≡ c →
          (d : Bool) → short_banks relations' own' other' ≡ d → RevisionTold (cond ((a || b) || (c || d)) (refused 6 0) by_good)
      go true a b _ c _ d _ = (refl, short_old (ltb-true (length old) terms_words a))
      go false a true b c _ d _ = (refl, RevisionRefusal.short-banks (why_short relations own other b))
      go false a false b true c d _ = (refl, short_new (ltb-true (length new) terms_words c))
      go false a false b false c true d = (refl, short_second (why_short relations' own' other' d))
      go false a false b false c false d =
          good_told (record {
            old_long = ltb-false (length old) terms_words a;
            banks_long = long_banks relations own other b;
            new_long = ltb-false (length new) terms_words c;
            second_long = long_banks relations' own' other' d;
          })

  long-is : AllLong → banks_revise old relations own other new relations' own' other' ≡ by_good
  unfolding banks_revise
  long-is L = rw (
    le-ltb (length old) terms_words L.old_long,
    not_short relations own other L.banks_long,
    le-ltb (length new) terms_words L.new_long,
    not_short relations' own' other' L.second_long,
  )

  short-is : short ≡ true → banks_revise old relations own other new relations' own' other' ≡ refused 6 0
  unfolding banks_revise
  short-is e = rw e

  revision_because : (n : ℕ) → Why n → banks_revise old relations own other new relations' own' other' ≡ refused n 0
  revision_because n (short_old h) = short-is (or_left _ _ (or_left _ (short_banks relations own other) (lt-ltb (length old) terms_words h)))
  revision_because n (RevisionRefusal.short-banks h) = short-is (or_left _ _ (or_right (ltb (length old) terms_words) _ (is_short relations own other h)))
  revision_because n (short_new h) =
      short-is (or_right (ltb (length old) terms_words || short_banks relations own other) _ (or_left _ (short_banks relations' own' other') (lt-ltb (length new) terms_words h)))
  revision_because n (short_second h) =
      short-is (or_right (ltb (length old) terms_words || short_banks relations own other) _ (or_right (ltb (length new) terms_words) _ (is_short relations' own' other' h)))
  revision_because n (bad_old L g) = long-is L ∙ rw g
  revision_because n (bad_new L h) = long-is L ∙ rw (h, and-false (good_memory old))
  revision_because n (RevisionRefusal.bad_own L g h s) = long-is L ∙ rw (g, h, s)
  revision_because n (RevisionRefusal.bad_other L g h t) = long-is L ∙ rw (g, h, t, and-false (good_state (terms_of old) (joined relations own)))
  revision_because n (other_size L g h s t z) = long-is L ∙ rw (g, h, s, t, z)

  -- New terms for both banks are refused with number n and a line exactly when the line is 0 and a reason for n fits;
  -- then the second memory is as lent.
  pub revision_refused_only : (n l : ℕ) →
      (banks_revise old relations own other new relations' own' other' ≡ refused n l →
      (l ≡ 0) × RevisionRefusal old relations own other new relations' own' other' n
      × (relations_revised old relations own other new relations' own' other' ≡ relations')
      × ((x lent : List ℕ) → own_revised old relations own other new relations' own' other' x lent ≡ lent))
      × (RevisionRefusal old relations own other new relations' own' other' n → banks_revise old relations own other new relations' own' other' ≡ refused n 0)
  unfolding relations_revised own_revised
  revision_refused_only n l = (
    (λ e. let s = subst RevisionTold e revision_told in (s.0, s.1, rw e, λ x lent. rw e)),
    revision_because n,
  )
