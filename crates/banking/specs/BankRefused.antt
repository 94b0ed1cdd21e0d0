-- Why nothing is decided of two banks (docs/SCOPE.md, Two banks and Refusals): line by line of the table.
use Rattle.std.specs.Prelude.{ℕ, ◌≤◌, ◌<◌, ◌≡◌, List, true, false, length}
use Rattle.theory.specs.Limits.{scratch_words}
use Rattle.theory.specs.Terms.{same_size}
use Rattle.memory.specs.Layout.{terms_words, relation_words, own_words, joined, terms_of}
use Rattle.memory.specs.Checks.{good_memory, good_state, good_relations}

-- The memory of two banks is as long as named, or it is not.
pub record LongBanks (relations own other : List ℕ) : Type 0 where
  pub relations_long : relation_words ≤ length relations
  pub own_long : own_words ≤ length own
  pub other_long : own_words ≤ length other

pub data ShortBanks (relations own other : List ℕ) : Type 0 where
  short-relations : length relations < relation_words → ShortBanks relations own other
  short_own : length own < own_words → ShortBanks relations own other
  short_other : length other < own_words → ShortBanks relations own other

-- ---- set lists, looks and requests of a bank; spare is the other bank's scratch

module _ (terms relations own other scratch spare : List ℕ) where
  -- The lent memory is as long as named.
  pub record Long : Type 0 where
    pub terms_long : terms_words ≤ length terms
    pub banks_long : LongBanks relations own other
    pub scratch_long : scratch_words ≤ length scratch
    pub spare_long : scratch_words ≤ length spare

  -- Why a set list is refused with a number: the first of these that fits.
  pub data ListRefusal : (number : ℕ) → Type 0 where
    short_terms : length terms < terms_words → ListRefusal 6
    short-banks : ShortBanks relations own other → ListRefusal 6
    short_scratch : length scratch < scratch_words → ListRefusal 6
    short_spare : length spare < scratch_words → ListRefusal 6
    bad_terms : Long → good_memory terms ≡ false → ListRefusal 7
    bad_own : Long → good_memory terms ≡ true → good_state (terms_of terms) (joined relations own) ≡ false → ListRefusal 8
    bad_other : Long → good_memory terms ≡ true → good_state (terms_of terms) (joined relations other) ≡ false → ListRefusal 8

  -- None of them fits.
  pub record Fits : Type 0 where
    pub long : Long
    pub terms_good : good_memory terms ≡ true
    pub own_good : good_state (terms_of terms) (joined relations own) ≡ true
    pub other_good : good_state (terms_of terms) (joined relations other) ≡ true

  -- Why a look or a request is refused with a number: as a set list, and else with 9.
  pub data Refusal (j u v : ℕ) : (number : ℕ) → Type 0 where
    as_list : {number : ℕ} → ListRefusal number → Refusal j u v number
    no_event : Fits → (terms_of terms).events ≤ j → Refusal j u v 9
    no_initiator : Fits → (terms_of terms).members ≤ u → Refusal j u v 9
    no_target : Fits → (terms_of terms).members ≤ v → Refusal j u v 9

-- ---- opening both banks

module _ (terms relations own other : List ℕ) where
  -- Why it is refused with a number.
  pub data OpeningRefusal : (number : ℕ) → Type 0 where
    short_terms : length terms < terms_words → OpeningRefusal 6
    short-banks : ShortBanks relations own other → OpeningRefusal 6
    bad_terms : terms_words ≤ length terms → LongBanks relations own other → good_memory terms ≡ false → OpeningRefusal 7
    bad_relations : terms_words ≤ length terms → LongBanks relations own other → good_memory terms ≡ true →
        good_relations (terms_of terms) relations ≡ false → OpeningRefusal 8

-- ---- new terms for both banks

module _ (old relations own other new relations' own' other' : List ℕ) where
  -- The memory that is lent with them is as long as named.
  pub record LongToRevise : Type 0 where
    pub old_long : terms_words ≤ length old
    pub banks_long : LongBanks relations own other
    pub new_long : terms_words ≤ length new
    pub second_long : LongBanks relations' own' other'

  -- Why they are refused with a number.
  pub data RevisionRefusal : (number : ℕ) → Type 0 where
    short_old : length old < terms_words → RevisionRefusal 6
    short-banks : ShortBanks relations own other → RevisionRefusal 6
    short_new : length new < terms_words → RevisionRefusal 6
    short_second : ShortBanks relations' own' other' → RevisionRefusal 6
    bad_old : LongToRevise → good_memory old ≡ false → RevisionRefusal 7
    bad_new : LongToRevise → good_memory new ≡ false → RevisionRefusal 7
    bad_own : LongToRevise → good_memory old ≡ true → good_memory new ≡ true →
        good_state (terms_of old) (joined relations own) ≡ false → RevisionRefusal 8
    bad_other : LongToRevise → good_memory old ≡ true → good_memory new ≡ true →
        good_state (terms_of old) (joined relations other) ≡ false → RevisionRefusal 8
    other_size : LongToRevise → good_memory old ≡ true → good_memory new ≡ true →
        good_state (terms_of old) (joined relations own) ≡ true → good_state (terms_of old) (joined relations other) ≡ true →
        same_size (terms_of old) (terms_of new) ≡ false → RevisionRefusal 13
